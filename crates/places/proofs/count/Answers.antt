-- `places::count` meets its contract: the count, or that the file ends before. Assumes nothing.
use native.Mathlib.Omega.{arith}
use mathlib.Core.Path.{sym, ◌∙◌}
use Rattle.laws_reading.specs.Walk.{given_yes, given_no}
use Rattle.places.specs.Places.{held}
use Rattle.places.proofs.count.Goals as goal

pub returns-then-saturating_add-file : goal.returns-then-saturating_add-file
unfolding held
returns-then-saturating_add-file c = (c.le16.ensures.0 ∙ sym (given_yes _ _ _ (omega arith)), c.le16.ensures.1)

pub returns-else-saturating_add-file : goal.returns-else-saturating_add-file
unfolding held
returns-else-saturating_add-file c = (sym (given_no _ _ _ (λ h. omega arith)), omega arith)
