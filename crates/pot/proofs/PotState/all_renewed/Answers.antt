-- The invariant: the years passed are renewed.
use borrow.Author.Rules.{rules}
use Rattle.pot.specs.Marks.{renewed_to}
use Rattle.pot.proofs.Sums.{renewed_next}
use Rattle.pot.proofs.PotState.all_renewed.Goals as goal

pub loop-d-init : goal.loop-d-init
unfolding renewed_to
loop-d-init c = search rules

pub loop-d-preserved : goal.loop-d-preserved
loop-d-preserved c = renewed_next _ _ _ _ c.loop-d.invariant c.renewed-t.ensures
