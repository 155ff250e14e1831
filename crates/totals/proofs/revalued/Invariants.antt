-- The invariant: the row holds the totals of the bids passed.
use mathlib.Core.Path.{◌≡◌}
use Rattle.totals.specs.Totals.{total_of, filled}
use Rattle.totals.proofs.revalued.Given as goal

abbrev pub invariant-loop-k : goal.invariant-loop-k
invariant-loop-k l = l.row ≡ filled (λ c. total_of l.sheet.cells.now l.sheet.size l.marks l.prices c l.k) l.sheet.size.columns
