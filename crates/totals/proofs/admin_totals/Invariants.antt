-- The invariant: the places of the columns passed hold their totals.
use mathlib.Core.Path.{◌≡◌}
use Rattle.totals.specs.Totals.{filled, admin_total_of}
use Rattle.totals.proofs.admin_totals.Given as goal

abbrev pub invariant-loop-c : goal.invariant-loop-c
invariant-loop-c l = l.row ≡ filled (λ x. admin_total_of l.sheet.cells.now l.sheet.size x l.sheet.size.applications) l.c
