-- `RoundFile::app_mine` meets its contract: the application is one of the round's, and its technology stands in the pot.
use mathlib.Core.Path.{sym, ◌∙◌}
use borrow.Author.Tests.{le-ltb}
use Rattle.laws_round.specs.Bids.{app_out}
use Rattle.rows.proofs.Laws.{app_mine_is}
use Rattle.rows.proofs.RoundFile.app_mine.Goals as goal

pub returns-then-a-self : goal.returns-then-a-self
returns-then-a-self c = app_mine_is _ _ _ c.if-a-self.true c.application.ensures c.pot.ensures

pub returns-else-a-self : goal.returns-else-a-self
returns-else-a-self c = le-ltb _ _ c.if-a-self.false ∙ sym (app_out _ _ _ c.if-a-self.false)
