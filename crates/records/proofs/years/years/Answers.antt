use native.Mathlib.Omega.{arith}
use native.Mathlib.Nat.{sub-zero}
use mathlib.Core.Path.{◌≡◌, refl, ap, ◌∙◌}
use mir.Val.{bool_byte}
use denote.Enum.Bare.{sameb}
use Prim.Native.Nat.{ℕ}
use Rattle.rules.specs.Names.{year_width}
use Rattle.rules.specs.File.{deliveries}
use Rattle.rules.specs.Refusals.{year_fault}
use Rattle.rules.specs.Reading.{Accepted}
use Rattle.laws_reading.specs.Walk.{at_fault, goes_on_lem, at_end}
use Rattle.laws_reading.specs.Reading.{year_right, one_more_year}
use Rattle.laws_reading.specs.Faults.{numbered}
use Rattle.laws_reading.specs.Fault.{no_fault}
use Rattle.layout.specs.Kind.{number_of}
use Rattle.layout.specs.declared.kind.Kind.{Kind}
use Rattle.layout.specs.declared.kind.Kind.TheVariants.{ValuationOnly, Delivery}
use Rattle.layout.specs.contracts.kind.Kind.{the_type}
use Rattle.records.specs.Records.{with_years, years_of}
use Rattle.records.proofs.years.years.Goals as goal

pub loop-y-init : goal.loop-y-init
unfolding deliveries years_of
loop-y-init c = (omega arith, omega arith, refl, rw (sub-zero c.args.n))

pub returns-in-Err : goal.returns-in-Err
returns-in-Err c = at_fault _ year_width _ _ _ _ c.loop-y.invariant.3 (omega arith) c.in-Err.ensures (numbered _)

-- a delivery year adds its number, 1
added : (kind : Kind) → bool_byte (sameb the_type kind Delivery) ≡ number_of kind
added ValuationOnly = refl
added Delivery = refl

pub loop-y-preserved : goal.loop-y-preserved
loop-y-preserved c =
    let told = c.in-Ok.ensures in
    let whole = no_fault _ year_width (year_fault _) _ told.0 in
    let right = year_right _ _ whole.1 in
    let one = c.from-deliveries.ensures ∙ ap bool_byte c.eq.ensures ∙ added _ ∙ told.1 in (
      omega (arith, whole.0),
      omega (arith, one, right.kind),
      one_more_year _ _ c.loop-y.invariant.2 one,
      goes_on_lem _ year_width _ _ _ _ c.loop-y.invariant.3 (omega arith) told.0,
    )

pub returns : goal.returns
returns c =
    let l = c.loop-y in
    let a = c.args in
    let e : l.y ≡ a.n = omega arith in
    ap (λ (d : ℕ). Accepted (with_years a.n d a.base)) (l.invariant.2 ∙ ap (λ (i : ℕ). deliveries a.recs.now i) e)
    ∙ at_end _ year_width _ _ _ _ l.invariant.3 (omega arith)
