-- The invariant: the list has the members passed, and `c` counts them.
use Prim.Native.Nat.{◌≤◌}
use mathlib.Core.Path.{◌≡◌}
use lib.ListN.{length}
use Rattle.arrays.specs.Sets.{members}
use Rattle.combinations.specs.Combinations.{compact_of}
use Rattle.gathering.proofs.compact.Given as goal

abbrev pub invariant-loop-k : goal.invariant-loop-k
invariant-loop-k l = (l.list ≡ compact_of l.set l.k) × (l.c ≡ length (members l.set l.k)) × (l.c ≤ l.k)
