-- The invariant: those passed have another total.
use Rattle.branches.proofs.Scans.{others_more}
use Rattle.branches.proofs.scan.others.Goals as goal

pub loop-v-preserved : goal.loop-v-preserved
loop-v-preserved c = let inv = c.loop-v.invariant in (inv.0, others_more _ _ _ inv.0.0 _ _ c.loop-v-test.true c.loop-v.auto.v c.total.ensures c.if-total-most.false inv.1)
