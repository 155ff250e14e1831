-- The invariant: `list` has counted those kept of the combinations passed.
use native.Mathlib.Omega.{arith}
use mathlib.Core.Path.{◌∙◌}
use Rattle.ties.proofs.Laws.{listed_none, listed_few, listed_more, listed_same, mask_low}
use Rattle.ties.proofs.listing.list_kept.Goals as goal
use Rattle.ties.proofs.listing.list_kept.Goals.{else-kept, then-kept}

pub loop-mask-init : goal.loop-mask-init
loop-mask-init c = listed_none _ _

pub kept-requires : goal.kept-requires
kept-requires c =
    let g = c.requires in (g, mask_low g.placed.few c.power-mask-end.ensures c.loop-mask-test.true)

pub counted-list-requires : goal.counted-list-requires
counted-list-requires c =
    let g = c.requires in
    omega (
      arith,
      listed_few _ _ c.loop-mask.mask c.loop-mask.invariant,
      mask_low g.placed.few c.power-mask-end.ensures c.loop-mask-test.true,
    )

pub loop-mask-preserved : goal.loop-mask-preserved
loop-mask-preserved c = let inv = c.loop-mask.invariant in
    let f = c.kept.ensures in
    elim c.if-kept.branch [ then-kept w ↦ w.list-is ∙ listed_more _ _ _ inv f w.if-kept.true w.counted-list.ensures | else-kept w ↦ w.list-is ∙ listed_same _ _ _ inv f w.if-kept.false ]
