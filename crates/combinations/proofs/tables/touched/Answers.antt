-- The invariant: `t` has the years of the bids passed that are in the combination.
use borrow.Author.Rules.{rules}
use native.Mathlib.Omega.{arith}
use mathlib.Core.Path.{◌∙◌}
use Rattle.combinations.specs.Combinations.{touched_of}
use Rattle.combinations.proofs.Laws.{touched_hit, touched_miss}
use Rattle.combinations.proofs.tables.touched.Goals as goal
use Rattle.combinations.proofs.tables.touched.Goals.{else-member, then-member}

pub loop-j-init : goal.loop-j-init
unfolding touched_of
loop-j-init c = search rules

pub loop-j-preserved : goal.loop-j-preserved
loop-j-preserved c =
    let inv = c.loop-j.invariant in (
      elim c.if-member.branch [ then-member w ↦ w.t-is ∙ touched_hit _ _ _ c.member.ensures _ inv.0 w.if-member.true w.touch-t.ensures.0 | else-member w ↦ w.t-is ∙ touched_miss _ _ _ c.member.ensures _ inv.0 w.if-member.false ],
      elim c.if-member.branch [ then-member w ↦ omega (arith, w.t-is, w.touch-t.ensures.1) | else-member w ↦ omega (arith, w.t-is) ],
    )
