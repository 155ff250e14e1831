-- `bids::earlier::same_price` meets its contract.
use native.Mathlib.Omega.{arith}
use mathlib.Core.Path.{sym, ◌∙◌}
use Rattle.laws_reading.specs.Walk.{given_no}
use Rattle.bids.proofs.Laws.{tests, is_true, not_true}
use Rattle.bids.proofs.earlier.same_price.Goals as goal

pub returns-then-same_app : goal.returns-then-same_app
returns-then-same_app c = tests _ (λ e. (is_true _ c.if-same_app.ensures, omega arith)) (λ h. omega (arith, h.1))

pub returns-else-same_app : goal.returns-else-same_app
returns-else-same_app c = c.if-same_app.false ∙ sym (given_no _ _ _ (λ h. not_true _ c.if-same_app.ensures h.0))
