-- `pot::start::first_mark` meets its contract.
use Rattle.pot.proofs.Laws.{first_yes, first_no}
use Rattle.pot.proofs.start.first_mark.Goals as goal

pub returns-then-entered : goal.returns-then-entered
returns-then-entered c = first_yes c.if-entered.true

pub returns-else-entered : goal.returns-else-entered
returns-else-entered c = first_no c.if-entered.false
