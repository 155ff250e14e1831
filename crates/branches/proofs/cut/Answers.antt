-- `branches::cut` meets its contract.
use Rattle.laws_pot.specs.Lists.{not_is_true}
use Rattle.branches.proofs.Branch.{cut_low, cut_misfit}
use Rattle.branches.proofs.cut.Goals as goal

pub returns-then-last-goal : goal.returns-then-last-goal
returns-then-last-goal c = λ e. cut_low c.requires.2 _ _ c.requires.1 _ c.last.ensures c.if-last-goal.true

pub returns-else-last-goal : goal.returns-else-last-goal
returns-else-last-goal c = λ e. cut_misfit c.requires.2 _ _ c.requires.1 _ c.fitting.ensures (not_is_true _ e)
