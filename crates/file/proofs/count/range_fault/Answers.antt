-- `file::count::range_fault` meets its contract: one law for each way out.
use native.Mathlib.Omega.{arith}
use mathlib.Core.Path.{sym}
use Rattle.laws_reading.specs.Walk.{given_yes, given_no}
use Rattle.file.specs.Reads.{range_fault}
use Rattle.file.proofs.count.range_fault.Goals as goal

pub returns-then-n-low : goal.returns-then-n-low
unfolding range_fault
returns-then-n-low c = sym (given_no _ _ _ (λ h. omega arith))

pub returns : goal.returns
unfolding range_fault
returns c = sym (given_yes _ _ _ (omega arith))
