-- The invariant: each place passed holds its test.
use mathlib.Core.Path.{◌≡◌}
use Rattle.arrays.specs.Sets.{built}
use Rattle.pot.specs.Marks.{at_of}
use Rattle.pot.proofs.PotState.taken.Given as goal

abbrev pub invariant-loop-k : goal.invariant-loop-k
invariant-loop-k l = l.set ≡ built (at_of l.sheet.cells.now l.self l.price) l.k
