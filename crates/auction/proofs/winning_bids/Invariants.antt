-- The invariant: `out` has, for each application, the last of the bids passed that won for it.
use mathlib.Core.Path.{◌≡◌}
use Rattle.auction.specs.Numbers.{winning_of}
use Rattle.auction.proofs.winning_bids.Given as goal

abbrev pub invariant-loop-k : goal.invariant-loop-k
invariant-loop-k l = l.out ≡ winning_of l.sheet.cells.now l.marks l.k
