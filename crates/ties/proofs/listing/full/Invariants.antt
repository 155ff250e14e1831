-- The invariant: none of the bids passed can be added.
use mathlib.Core.Bool.{true}
use mathlib.Core.Path.{◌≡◌}
use Rattle.ties.specs.Ties.{ok_by, full_to}
use Rattle.ties.proofs.listing.full.Given as goal

abbrev pub invariant-loop-j : goal.invariant-loop-j
invariant-loop-j l = true ≡ full_to (ok_by l.sheet.cells.now l.sheet.size l.table) l.tied.ranks l.mask l.j
