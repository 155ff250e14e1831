use native.Mathlib.Omega.{arith}
use mathlib.Core.Path.{refl, sym, ap, ◌∙◌}
use Rattle.rules.specs.Reading.{fault_in}
use borrow.Author.Count.{below_more}
use Rattle.rules.specs.Refusals.{record_fault, tech_fault}
use Rattle.laws_reading.specs.Walk.{given_yes, given_no}
use Rattle.laws_reading.specs.Faults.{numbered, passed_on}
use Rattle.records.proofs.Laws.{prices_kept, prices_wrong, prices_right}
use Rattle.records.proofs.technologies.tech_fault.Goals as goal

pub returns-then-of-place : goal.returns-then-of-place
unfolding record_fault
returns-then-of-place c = sym (given_no _ _ _ (λ h. omega arith))

pub returns-then-pots-pot : goal.returns-then-pots-pot
unfolding record_fault tech_fault
returns-then-pots-pot c = sym (given_yes _ _ _ (omega arith) ∙ given_no _ _ _ (λ h. omega arith))

pub returns-in_err-prices_fault : goal.returns-in_err-prices_fault
unfolding record_fault tech_fault
returns-in_err-prices_fault c =
    let e = c.in_err-prices_fault.ensures in
    let kept = prices_kept _ _ e c.admin-admin.ensures.0 c.reference-reference.ensures.0 c.load-load.ensures.0 in
    let wrong = prices_wrong _ _ e c.admin-admin.ensures.0 c.reference-reference.ensures.0 c.load-load.ensures.0 (numbered _) in
    ap fault_in (passed_on _ c.from_residual.ensures.1)
    ∙ wrong
    ∙ sym (given_yes _ _ _ (omega (arith, c.if-of-place.false, c.width.ensures, c.place.ensures))
    ∙ given_no _ _ _ (λ h. numbered _ (kept (h.1.1 c.loop-y.y (omega arith)))))

pub loop-y-preserved : goal.loop-y-preserved
loop-y-preserved c =
    let right = prices_right _ _ c.in_ok-prices_fault.ensures c.admin-admin.ensures.0 c.reference-reference.ensures.0
    c.load-load.ensures.0 in
    below_more _ _ c.loop-y.invariant (right refl)

pub returns : goal.returns
unfolding record_fault tech_fault
returns c = sym (given_yes _ _ _ (omega arith) ∙ given_yes _ _ _ (omega arith, (omega arith, λ j l. c.loop-y.invariant j (omega arith))))
