-- The invariant: `b` is the best of the combinations passed.
use mathlib.Core.Path.{◌∙◌}
use Rattle.ties.proofs.Laws.{best_none, best_more, best_same, mask_low}
use Rattle.ties.proofs.best.top.Goals as goal
use Rattle.ties.proofs.best.top.Goals.{else-fitting, then-fitting}

pub loop-mask-init : goal.loop-mask-init
loop-mask-init c = best_none _ _ c.last.ensures

pub fitting-requires : goal.fitting-requires
fitting-requires c =
    let g = c.requires in (g.0, mask_low g.1 c.power-mask-end.ensures c.loop-mask-test.true)

pub last-requires-then-fitting : goal.last-requires-then-fitting
last-requires-then-fitting c =
    let g = c.requires in (
      g.0.tables,
      g.0.ready.some,
      g.0.ready.years,
      mask_low g.1 c.power-mask-end.ensures c.loop-mask-test.true,
    )

pub loop-mask-preserved : goal.loop-mask-preserved
loop-mask-preserved c = let inv = c.loop-mask.invariant in
    let f = c.fitting.ensures in
    elim c.if-fitting.branch [ then-fitting w ↦ w.b-is ∙ best_more _ _ _ inv f w.if-fitting.true w.last-then-fitting.ensures w.better-b.ensures | else-fitting w ↦ w.b-is ∙ best_same _ _ _ inv f w.if-fitting.false ]
