-- The invariant: the row holds the totals of the bids passed.
use mathlib.Core.Path.{◌≡◌}
use Rattle.sheet.specs.Sheet.{entrants}
use Rattle.totals.specs.Totals.{part_on, filled}
use Rattle.totals.proofs.part.Given as goal

abbrev pub invariant-loop-j : goal.invariant-loop-j
invariant-loop-j l = l.row ≡ filled (λ c. part_on l.sheet.cells.now l.sheet.size l.marks l.price l.d c (entrants l.sheet.cells.now l.j)) l.sheet.size.columns
