-- The invariant: the bids that were passed have their first marks.
use mathlib.Core.Path.{◌≡◌}
use Rattle.arrays.specs.Sets.{fill}
use Rattle.sheet.specs.Sheet.{in_auction}
use Rattle.pot.specs.Marks.{first_mark, no_marks}
use Rattle.pot.proofs.start.started.Given as goal

abbrev pub invariant-loop-k : goal.invariant-loop-k
invariant-loop-k l = l.marks ≡ fill no_marks (λ k. first_mark (in_auction l.sheet.cells.now k)) l.k
