-- `records::applications::app_fault` meets its contract: the numbers are wrong, or the draw is asked.
use native.Mathlib.Omega.{arith}
use mathlib.Core.Path.{refl, sym, ap, ◌∙◌}
use Rattle.rules.specs.Reading.{fault_in}
use Rattle.rules.specs.Refusals.{record_fault}
use Rattle.laws_reading.specs.Walk.{given_yes, given_no}
use Rattle.laws_reading.specs.Faults.{numbered, passed_on}
use Rattle.records.proofs.Laws.{numbers_wrong, draw_asked}
use Rattle.records.proofs.applications.app_fault.Goals as goal

pub returns-then-recs-a-lt-APP_WIDTH : goal.returns-then-recs-a-lt-APP_WIDTH
unfolding record_fault
returns-then-recs-a-lt-APP_WIDTH c = sym (given_no _ _ _ (λ h. omega arith))

pub returns-in_err-numbers_fault : goal.returns-in_err-numbers_fault
unfolding record_fault
returns-in_err-numbers_fault c =
    ap fault_in (passed_on _ c.from_residual.ensures.1)
    ∙ numbers_wrong _ _ _ _ _ c.in_err-numbers_fault.ensures c.read.ensures (numbered _)
    ∙ sym (given_yes _ _ _ (omega arith))

pub returns : goal.returns
unfolding record_fault
returns c =
    c.draw_fault.ensures ∙ draw_asked _ _ _ _ _ c.in_ok-numbers_fault.ensures c.read.ensures refl ∙ sym (given_yes _ _ _ (omega arith))
