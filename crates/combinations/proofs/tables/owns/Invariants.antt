-- The invariant: each place passed holds its value.
use mathlib.Core.Path.{◌≡◌}
use Rattle.arrays.specs.Sets.{fill}
use Rattle.combinations.specs.Combinations.{own_at, no_own}
use Rattle.combinations.proofs.tables.owns.Given as goal

abbrev pub invariant-loop-i : goal.invariant-loop-i
invariant-loop-i l = l.own ≡ fill no_own (own_at l.sheet.cells.now l.sheet.size l.tied.bids l.price) l.i
