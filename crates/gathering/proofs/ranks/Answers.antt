-- The invariant: each place passed holds its number.
use borrow.Author.Rules.{rules}
use Rattle.arrays.proofs.Laws.{fill_next}
use Rattle.arrays.specs.Sets.{fill}
use Rattle.combinations.specs.Combinations.{no_list}
use Rattle.combinations.proofs.Laws.{rank_is}
use Rattle.gathering.proofs.ranks.Goals as goal

pub loop-j-init : goal.loop-j-init
unfolding fill no_list
loop-j-init c = search rules

pub loop-j-preserved : goal.loop-j-preserved
loop-j-preserved c = fill_next _ _ _ c.loop-j.invariant (rank_is _ _ _ _ c.draw.ensures c.above.ensures)
