-- The invariant: the list has the members passed, and `c` counts them.
use borrow.Author.Rules.{rules}
use native.Mathlib.Omega.{arith}
use Prim.Native.Nat.{◌+◌}
use mathlib.Core.Path.{ap, ◌∙◌}
use Rattle.arrays.proofs.Laws.{count_hit, count_miss}
use Rattle.arrays.specs.Sets.{members}
use Rattle.combinations.specs.Combinations.{no_list, compact_of}
use Rattle.combinations.proofs.Laws.{compact_hit, compact_miss}
use Rattle.combinations.proofs.Lists.{compact_room}
use Rattle.gathering.proofs.compact.Goals as goal
use Rattle.gathering.proofs.compact.Goals.{else-set-k, then-set-k}

pub loop-k-init : goal.loop-k-init
unfolding compact_of no_list members
loop-k-init c = search rules

pub bounds-list-c : goal.bounds-list-c
bounds-list-c c = compact_room _ _ _ c.if-set-k.true c.loop-k-test.true c.loop-k.invariant.1 c.requires.1

pub loop-k-preserved : goal.loop-k-preserved
loop-k-preserved c = let inv = c.loop-k.invariant in (
  elim c.if-set-k.branch [ then-set-k w ↦ w.list-is ∙ compact_hit _ _ inv.0 w.if-set-k.true inv.1 | else-set-k w ↦ w.list-is ∙ compact_miss _ _ inv.0 w.if-set-k.false ],
  elim c.if-set-k.branch [ then-set-k w ↦ w.c-is ∙ (ap (λ x. x + 1) inv.1 ∙ count_hit _ _ w.if-set-k.true) | else-set-k w ↦ w.c-is ∙ (inv.1 ∙ count_miss _ _ w.if-set-k.false) ],
  elim c.if-set-k.branch [ then-set-k w ↦ omega (arith, w.c-is) | else-set-k w ↦ omega (arith, w.c-is) ],
)
