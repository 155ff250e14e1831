-- The invariant: each place passed holds its test.
use borrow.Author.Rules.{rules}
use Rattle.arrays.specs.Sets.{fill, none, without}
use Rattle.arrays.proofs.Laws.{fill_next}
use Rattle.arrays.proofs.others.Goals as goal
use Rattle.arrays.proofs.others.Goals.{then-set-k, else-set-k}

pub loop-k-init : goal.loop-k-init
unfolding fill none
loop-k-init c = search rules

pub loop-k-preserved : goal.loop-k-preserved
unfolding without
loop-k-preserved c =
    fill_next _ _ _ c.loop-k.invariant
    (elim c.if-set-k.branch [
      | then-set-k w ↦ rw (w.rest-is, w.if-set-k.true)
      | else-set-k w ↦ rw (w.rest-is, w.if-set-k.false)
    ])
