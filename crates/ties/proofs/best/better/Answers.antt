-- `ties::best::better` meets its contract.
use Rattle.ties.proofs.Laws.{better_less, better_more}
use Rattle.ties.proofs.best.better.Goals as goal

pub returns-then-total-b : goal.returns-then-total-b
returns-then-total-b c = better_less _ _ _ c.if-total-b.true

pub returns-else-total-b : goal.returns-else-total-b
returns-else-total-b c = better_more _ _ _ c.if-total-b.false
