-- `RoundFile::mine` meets its contract: the bid is one of the round's, and its application stands in the pot.
use mathlib.Core.Path.{sym, ◌∙◌}
use borrow.Author.Tests.{le-ltb}
use Rattle.laws_round.specs.Bids.{mine_out}
use Rattle.rows.proofs.Laws.{good, mine_is}
use Rattle.rows.proofs.RoundFile.mine.Goals as goal

pub returns-then-k-self : goal.returns-then-k-self
returns-then-k-self c =
    let h = c.if-k-self.true in
    let e = c.bid.ensures in
    mine_is _ _ _ h (good _ c.args.self.now.held.sound _ h e).app e c.app_mine.ensures

pub returns-else-k-self : goal.returns-else-k-self
returns-else-k-self c = le-ltb _ _ c.if-k-self.false ∙ sym (mine_out _ _ _ c.if-k-self.false)
