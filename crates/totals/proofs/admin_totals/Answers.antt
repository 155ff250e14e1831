-- The invariant: the places of the columns passed hold their totals.
use borrow.Author.Rules.{rules}
use Rattle.arrays.proofs.Laws.{fill_next}
use Rattle.arrays.specs.Sets.{fill}
use Rattle.totals.specs.Totals.{no_row}
use Rattle.totals.proofs.admin_totals.Goals as goal

pub loop-c-init : goal.loop-c-init
unfolding fill no_row
loop-c-init c = search rules

pub loop-c-preserved : goal.loop-c-preserved
loop-c-preserved c = fill_next _ _ _ c.loop-c.invariant c.admin_total.ensures
