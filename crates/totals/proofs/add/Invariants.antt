-- The invariant: what the bid counts is added in the columns passed.
use mathlib.Core.Path.{◌≡◌}
use Rattle.totals.specs.Totals.{worth_of, added_to}
use Rattle.totals.proofs.add.Given as goal

abbrev pub invariant-loop-c : goal.invariant-loop-c
invariant-loop-c l = l.row ≡ added_to (λ x. worth_of l.sheet.cells.now l.sheet.size l.k l.price x) l.initial.row l.c
