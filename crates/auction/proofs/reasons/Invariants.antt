-- `auction::reasons` meets its contract: the bids passed have their reasons.
use mathlib.Core.Path.{◌≡◌}
use Rattle.auction.specs.Numbers.{reasons_of}
use Rattle.auction.proofs.reasons.Given as goal

abbrev pub invariant-loop-j : goal.invariant-loop-j
invariant-loop-j l = l.out ≡ reasons_of l.sheet.cells.now l.marks l.won l.j
