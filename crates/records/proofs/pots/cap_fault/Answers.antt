-- `records::pots::cap_fault` meets its contract: one law for each way out.
use native.Mathlib.Omega.{arith}
use mathlib.Core.Path.{sym}
use Rattle.records.specs.Numbers.{cap_fault}
use Rattle.laws_reading.specs.Walk.{given_yes, given_no}
use Rattle.records.proofs.pots.cap_fault.Goals as goal

pub returns-then-cap-gt-HIGHEST_CAP : goal.returns-then-cap-gt-HIGHEST_CAP
unfolding cap_fault
returns-then-cap-gt-HIGHEST_CAP c = sym (given_no _ _ _ (λ h. omega (arith, h c.if-cap-ne-NO_CAP.true)))

pub returns : goal.returns
unfolding cap_fault
returns c = sym (given_yes _ _ _ (λ h. omega arith))
