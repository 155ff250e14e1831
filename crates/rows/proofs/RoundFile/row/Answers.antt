-- `RoundFile::row` meets its contract: zeros for a bid of another pot, else each number as the bid, its application and its technology have it.
use native.Mathlib.Omega.{arith}
use Rattle.rows.proofs.Laws.{bid_in, good, its_tech, row_blank, row_own}
use Rattle.rows.proofs.RoundFile.row.Goals as goal

pub bid-bid-requires : goal.bid-bid-requires
bid-bid-requires c = bid_in _ _ _ c.mine.ensures c.if-mine.true

pub application-its-requires : goal.application-its-requires
application-its-requires c =
    let pre = c.args.self.now.held in
    (good _ pre.sound _ (bid_in _ _ _ c.mine.ensures c.if-mine.true) c.bid-bid.ensures).app

pub admin-admin-requires : goal.admin-admin-requires
admin-admin-requires c =
    let pre = c.args.self.now.held in
    let mine = c.mine in
    let if1 = c.if-mine in
    let S = pre.sound in
    let g = good _ S _ (bid_in _ _ _ mine.ensures if1.true) c.bid-bid.ensures in
    (its_tech _ S _ g.app c.application-its.ensures, omega (arith, g.year, S.few))

pub returns-then-mine : goal.returns-then-mine
returns-then-mine c =
    let mine = c.mine in
    let if1 = c.if-mine in
    let bid-of = c.bid-bid in
    row_own _ _ _ mine.ensures if1.true bid-of.ensures c.application-its.ensures c.admin-admin.ensures

pub returns-else-mine : goal.returns-else-mine
returns-else-mine c = row_blank _ _ _ c.mine.ensures c.if-mine.false
