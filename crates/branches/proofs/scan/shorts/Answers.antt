-- The invariant: those passed have less, or more than the limit.
use native.Mathlib.Omega.{arith}
use mathlib.Core.Logic.{inl, inr}
use Rattle.branches.proofs.Scans.{shorts_more}
use Rattle.branches.proofs.scan.shorts.Goals as goal
use Rattle.branches.proofs.scan.shorts.Goals.{else-w-goal-via-then-w-goal+else-w-limit, else-w-goal-via-else-w-goal}

pub loop-v-preserved : goal.loop-v-preserved
loop-v-preserved c = let inv = c.loop-v.invariant in (inv.0, shorts_more _ _ _ inv.0.0 _ _ _ _ c.loop-v-test.true (omega (arith, c.loop-v.auto.v)) c.total-w.ensures (elim c.else-w-goal.branch [ else-w-goal-via-then-w-goal+else-w-limit w ↦ inr w.if-w-limit.false | else-w-goal-via-else-w-goal w ↦ inl w.if-w-goal.false ]) inv.1)
