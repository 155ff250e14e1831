-- The invariant: the places of the columns passed hold their totals.
use mathlib.Core.Path.{◌≡◌}
use Rattle.totals.specs.Totals.{filled, column_sum}
use Rattle.totals.proofs.sums.column_totals.Given as goal

abbrev pub invariant-loop-c : goal.invariant-loop-c
invariant-loop-c l = l.row ≡ filled (column_sum l.sums) l.c
