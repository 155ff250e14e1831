-- `auction::automatics` meets its contract: the applications of the bids passed have no automatic reason.
use mathlib.Core.Path.{◌≡◌}
use Rattle.auction.specs.Numbers.{automatics_of}
use Rattle.auction.proofs.automatics.Given as goal

abbrev pub invariant-loop-j : goal.invariant-loop-j
invariant-loop-j l = l.out ≡ automatics_of l.sheet.cells.now l.why l.j
