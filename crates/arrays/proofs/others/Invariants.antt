-- The invariant: each place passed holds its test.
use mathlib.Core.Path.{◌≡◌}
use Rattle.arrays.specs.Sets.{built, without}
use Rattle.arrays.proofs.others.Given as goal

abbrev pub invariant-loop-k : goal.invariant-loop-k
invariant-loop-k l = l.rest ≡ built (without l.set l.out) l.k
