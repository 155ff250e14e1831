-- The invariant: those kept of the combinations passed are counted.
use native.Mathlib.Omega.{arith}
use mathlib.Core.Path.{refl, sym, ◌∙◌}
use Rattle.ties.proofs.Laws.{listed_few, listed_more, listed_same, power_low}
use Rattle.search.proofs.Ways.{listed_past, passed_unkept, near_full, near_not}
use Rattle.search.proofs.kept.walk.Goals as goal
use Rattle.search.proofs.kept.walk.Goals.{then-near+then-full, else-near, else-near-via-then-near+else-full, else-near-via-else-near}

pub rise-passed-requires : goal.rise-passed-requires
rise-passed-requires c = record { searching = (c.requires.seeking.0.drawing.searching, c.requires.seeking.0.cuts); left_nonzero = (omega (arith, c.loop-mask-test.true), omega (arith, c.loop-mask.invariant.0, c.requires.seeking.2, power_low c.requires.seeking.0.drawing.placed.few)) }

pub loop-mask-preserved-then-passed-gt0 : goal.loop-mask-preserved-then-passed-gt0
loop-mask-preserved-then-passed-gt0 c = (
  omega (arith, c.rise-passed.ensures.few, c.loop-mask.invariant.0),
  listed_past _ _ _ _ c.loop-mask.invariant.1 (passed_unkept _ _ _ _ _ c.requires.seeking.0.onto (omega (arith, c.loop-mask.invariant.0, c.requires.seeking.2)) c.rise-passed.ensures),
)

pub near-requires : goal.near-requires
near-requires c = (c.requires.seeking.0.drawing.searching, omega (arith, c.loop-mask-test.true, c.requires.seeking.2, power_low c.requires.seeking.0.drawing.placed.few))

pub full-requires : goal.full-requires
full-requires c = record { seeking = (c.requires.seeking.0, omega (arith, c.loop-mask-test.true, c.requires.seeking.2)); near = sym c.near.ensures ∙ c.if-near.true }

pub counted-list-requires : goal.counted-list-requires
counted-list-requires c = omega (arith, listed_few _ _ c.loop-mask.mask c.loop-mask.invariant.1, c.loop-mask-test.true, c.requires.seeking.2, power_low c.requires.seeking.0.drawing.placed.few)

pub loop-mask-preserved : goal.loop-mask-preserved
loop-mask-preserved c =
    let inv = c.loop-mask.invariant.1 in
    let n = c.near.ensures in (
      omega (arith, c.loop-mask-test.true),
      elim c.if-near.branch [
        | then-near+then-full w ↦ w.list-is ∙ listed_more _ _ _ inv (near_full _ _ _ c.args.tied _ _ n w.if-near.true w.full.ensures) w.if-full.true w.counted-list.ensures
        | else-near w ↦ w.list-is ∙ (elim w.else-near.branch [
          | else-near-via-then-near+else-full u ↦ listed_same _ _ _ inv (near_full _ _ _ c.args.tied _ _ n u.if-near.true u.full.ensures) u.if-full.false
          | else-near-via-else-near u ↦ listed_same _ _ _ inv (near_not _ _ _ c.args.tied _ _ n u.if-near.false) refl
        ])
      ],
    )
