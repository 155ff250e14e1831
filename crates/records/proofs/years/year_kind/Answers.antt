-- `records::years::year_kind` meets its contract: one law for each way out.
use native.Mathlib.Omega.{arith}
use borrow.Author.Tests.{eqb-true, ltb-true, ltb-false}
use mathlib.Core.Path.{sym, ap, ◌∙◌}
use Rattle.rules.specs.Refusals.{record_fault, year_fault}
use Rattle.laws_reading.specs.Walk.{given_yes, given_no}
use Rattle.layout.specs.Kind.{number_of}
use Rattle.records.proofs.years.year_kind.Goals as goal
use Rattle.records.proofs.years.year_kind.Goals.{in-ValuationOnly, in-Delivery+then-before-y, in-Delivery+else-before-y}

pub returns-then-recs-y-lt-YEAR_WIDTH : goal.returns-then-recs-y-lt-YEAR_WIDTH
unfolding record_fault year_fault
returns-then-recs-y-lt-YEAR_WIDTH c = sym (given_no _ _ _ (λ h. omega arith))

pub returns-then-days-lt-SHORT_YEAR : goal.returns-then-days-lt-SHORT_YEAR
unfolding record_fault year_fault
returns-then-days-lt-SHORT_YEAR c = sym (given_yes _ _ _ (omega arith) ∙ given_no _ _ _ (λ h. omega arith))

pub returns-in_default : goal.returns-in_default
unfolding record_fault year_fault
returns-in_default c = sym (given_yes _ _ _ (omega arith) ∙ given_no _ _ _ (λ h. omega arith))

pub returns-then-in_place : goal.returns-then-in_place
unfolding record_fault year_fault
returns-then-in_place c =
    let told = c.in-Ok.ensures.0 in
    elim c.match-kind.branch [
      | in-ValuationOnly w ↦
          let n = ap number_of w.in-ValuationOnly.is in
          (given_yes _ _ _ (omega arith) ∙ given_yes _ _ _ (omega (arith, n, told, ltb-true _ _ (sym w.in_place-is ∙ c.if-in_place.true))), told)
      | in-Delivery+then-before-y w ↦
          let n = ap number_of w.in-Delivery.is in
          (given_yes _ _ _ (omega arith) ∙ given_yes _ _ _ (omega (arith, n, told, ltb-true _ _ (sym w.in_place-is ∙ c.if-in_place.true))), told)
      | in-Delivery+else-before-y w ↦ absurd (omega (arith, eqb-true _ _ (sym w.in_place-is ∙ c.if-in_place.true)))
    ]

pub returns-else-in_place : goal.returns-else-in_place
unfolding record_fault year_fault
returns-else-in_place c =
    let told = c.in-Ok.ensures.0 in
    sym (
    given_yes _ _ _ (omega arith)
    ∙ given_no _ _ _ (λ h.
    elim c.match-kind.branch [
      | in-ValuationOnly w ↦
          let n = ap number_of w.in-ValuationOnly.is in
          omega (arith, h.1.1.1.1.0 (omega (arith, n, told)), ltb-false _ _ (sym w.in_place-is ∙ c.if-in_place.false))
      | in-Delivery+then-before-y w ↦
          let n = ap number_of w.in-Delivery.is in
          omega (arith, h.1.1.1.1.1 (omega (arith, n, told)), ltb-false _ _ (sym w.in_place-is ∙ c.if-in_place.false))
      | in-Delivery+else-before-y w ↦
          let n = ap number_of w.in-Delivery.is in
          omega (arith, h.1.1.1.1.1 (omega (arith, n, told)))
    ])
    )
