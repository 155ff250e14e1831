-- The invariant: each place passed holds its sum, of whatever bids the places alone are.
use Prim.Native.Nat.{ℕ}
use mathlib.Core.Path.{◌≡◌}
use mathlib.Core.List.{List}
use Rattle.arrays.specs.Sets.{fill}
use Rattle.combinations.specs.Combinations.{ones_of, cost_at, no_costs}
use Rattle.combinations.proofs.tables.costs.Given as goal

abbrev pub invariant-loop-i : goal.invariant-loop-i
invariant-loop-i l = (ranks : List ℕ) (k : ℕ) → l.one ≡ ones_of l.own ranks k → l.out ≡ fill no_costs (cost_at l.own ranks k) l.i
