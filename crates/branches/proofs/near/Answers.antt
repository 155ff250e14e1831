-- `branches::near` meets its contract.
use mathlib.Core.Path.{◌∙◌}
use borrow.Author.Tests.{ne_eqb}
use Rattle.branches.proofs.Over.{near_is, near_other}
use Rattle.branches.proofs.near.Goals as goal

pub returns-then-last-most : goal.returns-then-last-most
returns-then-last-most c = near_is _ _ _ _ c.last.ensures c.if-last-most.true c.fitting.ensures

pub returns-else-last-most : goal.returns-else-last-most
returns-else-last-most c = ne_eqb _ _ c.if-last-most.false ∙ near_other _ _ _ _ c.last.ensures c.if-last-most.false
