-- `auction::ended` meets its contract: one law for each return.
use Rattle.auction.proofs.Outcomes.{ended_admin, ended_wide_lem, ended_sold}
use Rattle.auction.proofs.ended.Goals as goal

pub returns-then-within : goal.returns-then-within
returns-then-within c =
    ended_admin _ _ c.args.sheet.now.ready c.admin_totals-first.ensures c.within.ensures
    c.if-within.true c.flat.ensures

pub returns-then-s : goal.returns-then-s
returns-then-s c =
    ended_wide_lem _ _ c.args.sheet.now.ready c.admin_totals-first.ensures
    c.within.ensures _ c.auction-s.ensures c.if-within.false
    c.if-s.true c.flat-then-s.ensures

pub returns : goal.returns
returns c =
    ended_sold _ _ c.args.sheet.now.ready c.admin_totals-first.ensures
    c.within.ensures _ c.auction-s.ensures c.if-within.false
    c.if-s.false c.sold.ensures
