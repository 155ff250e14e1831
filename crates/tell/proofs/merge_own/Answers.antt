-- `tell::merge_own` meets its contract: the places passed are merged.
use native.Mathlib.Omega.{arith}
use mathlib.Core.Path.{refl, ap, ◌∙◌}
use Prim.Native.Nat.{◌<◌}
use lib.ListN.{length, set}
use Rattle.std.proofs.lemmas.List.{get_or_read_under}
use Rattle.tell.specs.ToldTo.{merged}
use Rattle.tell.proofs.Laws.{merged_hit, merged_miss}
use Rattle.tell.proofs.merge_own.Goals as goal
use Rattle.tell.proofs.merge_own.Goals.{else-is_own, then-is_own}

pub loop-a-init : goal.loop-a-init
unfolding merged
loop-a-init g c = λ own d asked. refl

pub loop-a-preserved : goal.loop-a-preserved
loop-a-preserved g c = λ own d asked.
    let told = c.loop-a.invariant own d asked in
    let small = c.loop-a-test.true in
    let q = asked _ _ small c.is_own.ensures in
    let there : c.loop-a.a < length c.args.mine.now = omega arith in
    elim c.if-is_own.branch [
      | then-is_own w ↦ w.told-is ∙ ap (set _ _) (get_or_read_under _ _ _ _ d w.index-mine-a.is there refl) ∙ merged_hit own _ _ d _ told q w.if-is_own.true
      | else-is_own w ↦ w.told-is ∙ merged_miss own _ _ d _ told q w.if-is_own.false
    ]
