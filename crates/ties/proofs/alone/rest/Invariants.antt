-- The invariant: each place passed holds its test.
use mathlib.Core.Path.{◌≡◌}
use Rattle.arrays.specs.Sets.{built}
use Rattle.ties.specs.Ties.{keeps_of}
use Rattle.ties.proofs.alone.rest.Given as goal

abbrev pub invariant-loop-k : goal.invariant-loop-k
invariant-loop-k l = l.out ≡ built (keeps_of l.sheet.cells.now l.sheet.size l.base l.price l.set) l.k
