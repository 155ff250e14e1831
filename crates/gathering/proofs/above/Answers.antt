-- The invariant: `n` counts those passed whose draw is above x.
use borrow.Author.Rules.{rules}
use native.Mathlib.Omega.{arith}
use mathlib.Core.Path.{◌∙◌}
use Rattle.combinations.specs.Combinations.{listed, above_of}
use Rattle.combinations.proofs.Laws.{above_hit, above_miss}
use Rattle.gathering.proofs.above.Goals as goal
use Rattle.gathering.proofs.above.Goals.{else-draw-x, then-draw-x}

pub loop-k-init : goal.loop-k-init
unfolding above_of listed
loop-k-init c = search rules

pub loop-k-preserved : goal.loop-k-preserved
loop-k-preserved c =
    let inv = c.loop-k.invariant in (
      elim c.if-draw-x.branch [
        | then-draw-x w ↦ w.n-is ∙ above_hit _ _ _ _ inv.0 c.draw.ensures w.if-draw-x.true
        | else-draw-x w ↦ w.n-is ∙ above_miss _ _ _ _ inv.0 c.draw.ensures w.if-draw-x.false
      ],
      elim c.if-draw-x.branch [ then-draw-x w ↦ omega arith | else-draw-x w ↦ omega arith ],
    )
