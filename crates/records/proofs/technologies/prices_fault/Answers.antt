-- `records::technologies::prices_fault` meets its contract: one law for each way out.
use native.Mathlib.Omega.{arith}
use mathlib.Core.Path.{sym}
use Rattle.records.specs.Numbers.{prices_of}
use Rattle.laws_reading.specs.Walk.{given_yes, given_no}
use Rattle.records.proofs.technologies.prices_fault.Goals as goal

pub returns-then-reference-gt-HIGHEST_PRICE : goal.returns-then-reference-gt-HIGHEST_PRICE
unfolding prices_of
returns-then-reference-gt-HIGHEST_PRICE c = sym (given_no _ _ _ (λ h. omega arith))

pub returns-then-admin-lt-PRICE_STEP : goal.returns-then-admin-lt-PRICE_STEP
unfolding prices_of
returns-then-admin-lt-PRICE_STEP c = sym (given_no _ _ _ (λ h. let k = h.1.1.0 (omega arith) in omega arith))

pub returns-then-admin-ne0 : goal.returns-then-admin-ne0
unfolding prices_of
returns-then-admin-ne0 c = sym (given_no _ _ _ (λ h. omega (arith, h.1.1.1 (omega arith))))

pub returns-else-over-ne0 : goal.returns-else-over-ne0
unfolding prices_of
returns-else-over-ne0 c = sym (given_yes _ _ _ (omega arith))

pub returns-else-admin-ne0 : goal.returns-else-admin-ne0
unfolding prices_of
returns-else-admin-ne0 c = sym (given_yes _ _ _ (omega arith))
