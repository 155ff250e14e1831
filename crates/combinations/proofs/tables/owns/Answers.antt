-- The invariant: each place passed holds its value.
use borrow.Author.Rules.{rules}
use Rattle.arrays.proofs.Laws.{fill_next}
use Rattle.arrays.specs.Sets.{fill}
use Rattle.combinations.specs.Combinations.{no_own}
use Rattle.combinations.proofs.tables.owns.Goals as goal

pub loop-i-init : goal.loop-i-init
unfolding fill no_own
loop-i-init c = search rules

pub loop-i-preserved : goal.loop-i-preserved
loop-i-preserved c = fill_next _ _ _ c.loop-i.invariant c.own_at.ensures
