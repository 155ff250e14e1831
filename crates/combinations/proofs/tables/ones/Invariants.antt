-- The invariant: each place passed holds its sum.
use mathlib.Core.Path.{◌≡◌}
use Rattle.arrays.specs.Sets.{fill}
use Rattle.combinations.specs.Combinations.{no_own, one_at}
use Rattle.combinations.proofs.tables.ones.Given as goal

abbrev pub invariant-loop-i : goal.invariant-loop-i
invariant-loop-i l = l.out ≡ fill no_own (one_at l.own l.tied.ranks l.tied.count) l.i
