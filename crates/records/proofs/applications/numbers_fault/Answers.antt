-- `records::applications::numbers_fault` meets its contract: one law for each way out.
use native.Mathlib.Omega.{arith}
use mathlib.Core.Path.{sym}
use Rattle.records.specs.Numbers.{numbers_of}
use Rattle.laws_reading.specs.Walk.{given_yes, given_no}
use Rattle.records.proofs.applications.numbers_fault.Goals as goal

pub returns-then-technologies-x : goal.returns-then-technologies-x
unfolding numbers_of
returns-then-technologies-x c = sym (given_no _ _ _ (λ h. omega arith))

pub returns-then-x-eq0 : goal.returns-then-x-eq0
unfolding numbers_of
returns-then-x-eq0 c = sym (given_no _ _ _ (λ h. omega arith))

pub returns : goal.returns
unfolding numbers_of
returns c = sym (given_yes _ _ _ (omega arith))
