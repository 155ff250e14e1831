-- The invariant: the places of the columns passed hold their totals.
use borrow.Author.Rules.{rules}
use native.Mathlib.Omega.{arith}
use Rattle.arrays.proofs.Laws.{fill_next}
use Rattle.arrays.specs.Sets.{fill}
use Rattle.totals.specs.Totals.{no_row}
use Rattle.totals.proofs.Laws.{column_is, column_low}
use Rattle.totals.proofs.sums.column_totals.Goals as goal

pub loop-c-init : goal.loop-c-init
unfolding fill no_row
loop-c-init c = search rules

pub overflow_add-row-in-loop-c : goal.overflow_add-row-in-loop-c
overflow_add-row-in-loop-c c = omega (arith, (column_low _ _ (c.requires.small _ c.loop-c-test.true)).0)

pub overflow_add-row-in-loop-c-3 : goal.overflow_add-row-in-loop-c-3
overflow_add-row-in-loop-c-3 c = omega (arith, (column_low _ _ (c.requires.small _ c.loop-c-test.true)).1)

pub overflow_add-row-in-loop-c-5 : goal.overflow_add-row-in-loop-c-5
overflow_add-row-in-loop-c-5 c = omega (arith, (column_low _ _ (c.requires.small _ c.loop-c-test.true)).2)

pub loop-c-preserved : goal.loop-c-preserved
loop-c-preserved c = fill_next _ _ _ c.loop-c.invariant (column_is _ _)
