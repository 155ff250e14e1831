-- The invariant: each place passed holds its test.
use borrow.Author.Rules.{rules}
use Rattle.arrays.proofs.Laws.{fill_next}
use Rattle.arrays.specs.Sets.{fill, none}
use Rattle.pot.proofs.Laws.{at_is}
use Rattle.pot.proofs.PotState.taken.Goals as goal

pub loop-k-init : goal.loop-k-init
unfolding fill none
loop-k-init c = search rules

pub loop-k-preserved : goal.loop-k-preserved
loop-k-preserved c =
    fill_next _ _ _ c.loop-k.invariant (at_is _ _ _ c.app-a.ensures c.year-d.ensures c.live.ensures _ c.price.ensures c.at.ensures)
