-- The invariant: `sum` is what the bids passed count, each at most the dearest.
use native.Mathlib.Omega.{arith}
use Prim.Native.Nat.{◌+◌, ◌*◌}
use mathlib.Core.Path.{refl, ◌∙◌}
use Rattle.sheet.specs.Sheet.{columns}
use Rattle.combinations.specs.Combinations.{combined_of}
use Rattle.combinations.proofs.Laws.{combined_hit, combined_miss}
use Rattle.combinations.proofs.tables.combined.Goals as goal
use Rattle.combinations.proofs.tables.combined.Goals.{else-member, then-member}

pub loop-j-init : goal.loop-j-init
unfolding combined_of
loop-j-init c = (refl, omega arith)

pub loop-j-preserved : goal.loop-j-preserved
loop-j-preserved c = let l = c.loop-j in
    let m = c.member.ensures in (
      elim c.if-member.branch [ then-member w ↦ w.sum-is ∙ combined_hit _ _ _ m _ _ l.invariant.0 w.if-member.true | else-member w ↦ w.sum-is ∙ combined_miss _ _ _ m _ _ l.invariant.0 w.if-member.false ],
      elim c.if-member.branch [
        | then-member w ↦ omega (
          arith,
          w.sum-is,
          c.requires.0.bids.small (l.j * columns + c.args.c),
        )
        | else-member w ↦ omega (arith, w.sum-is)
      ],
    )
