-- The invariant: each place passed holds its years, of whatever bids the places alone are.
use Prim.Native.Nat.{ℕ}
use mathlib.Core.Path.{◌≡◌}
use mathlib.Core.List.{List}
use Rattle.arrays.specs.Sets.{fill}
use Rattle.combinations.specs.Combinations.{one_years_of, year_at, no_years}
use Rattle.combinations.proofs.tables.years.Given as goal

abbrev pub invariant-loop-i : goal.invariant-loop-i
invariant-loop-i l = (ranks starts : List ℕ) (k : ℕ) → l.one ≡ one_years_of ranks starts k → l.out ≡ fill no_years (year_at ranks starts k) l.i
