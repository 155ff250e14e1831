use native.Mathlib.Omega.{arith}
use mathlib.Core.Path.{sym}
use Rattle.laws_reading.specs.Walk.{given_yes, given_no}
use Rattle.records.specs.Numbers.{draw_of}
use Rattle.records.proofs.applications.draw_fault.Goals as goal

pub returns-then-draw : goal.returns-then-draw
unfolding draw_of
returns-then-draw c = sym (given_no _ _ _ (λ h. h c.loop-earlier.earlier (omega arith) (omega arith)))

pub returns : goal.returns
unfolding draw_of
returns c = sym (given_yes _ _ _ (λ j l. c.loop-earlier.invariant j (omega arith)))
