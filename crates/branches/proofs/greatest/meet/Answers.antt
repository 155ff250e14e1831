-- `branches::greatest::meet` meets its contract.
use Rattle.branches.proofs.Best.{met_less, met_more, met_not}
use Rattle.branches.proofs.greatest.meet.Goals as goal
use Rattle.branches.proofs.greatest.meet.Goals.{else-total-goal-via-then-total-goal+else-fitting, else-total-goal-via-else-total-goal}

pub returns-then-fitting : goal.returns-then-fitting
returns-then-fitting c = met_more _ _ _ _ c.last-total.ensures c.fitting.ensures c.if-fitting.true c.if-total-goal.true

pub returns-else-total-goal : goal.returns-else-total-goal
returns-else-total-goal c = elim c.else-total-goal.branch [
  | else-total-goal-via-then-total-goal+else-fitting w ↦ met_not _ _ _ _ c.last-total.ensures w.fitting.ensures w.if-fitting.false
  | else-total-goal-via-else-total-goal w ↦ met_less _ _ _ _ c.last-total.ensures w.if-total-goal.false
]
