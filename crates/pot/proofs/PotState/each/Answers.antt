-- The invariant: the bids of the set that were passed have become what they become.
use Rattle.pot.proofs.Laws.{each_none, each_hit, each_miss, each_end}
use Rattle.pot.proofs.PotState.each.Goals as goal
use Rattle.pot.proofs.PotState.each.Goals.{else-set-k, then-set-k}

pub loop-k-init : goal.loop-k-init
loop-k-init g c = each_none _ _ _

pub loop-k-preserved : goal.loop-k-preserved
loop-k-preserved g c = elim c.if-set-k.branch [
  | then-set-k w ↦ each_hit _ _ _ _ w.if-set-k.true c.loop-k.invariant w.mark-t.ensures w.t-is
  | else-set-k w ↦ each_miss _ _ _ _ w.if-set-k.false c.loop-k.invariant w.t-is
]

pub returns : goal.returns
returns g c = each_end _ _ _ _ _ _ c.loop-k.auto.k-end c.loop-k-test.false c.loop-k.invariant
