-- The invariant: those passed have another total.
use Prim.Native.Nat.{ℕ, ◌+◌, ◌-◌, ◌/◌, ◌%◌, ◌<◌}
use mathlib.Core.Path.{◌≡◌}
use Rattle.combinations.specs.Combinations.{part_size}
use Rattle.ties.specs.Ties.{last_by}
use Rattle.branches.specs.Branches.{upper_of, Upright}
use Rattle.branches.proofs.scan.others.Given as goal

abbrev pub invariant-loop-v : goal.invariant-loop-v
invariant-loop-v l = ((l.up ≡ upper_of l.of l.table (l.mask / part_size)) × Upright l.up) × ((j : ℕ) → j < l.v - l.mask % part_size → last_by l.of l.table (l.mask + j) ≡ l.most → ⊥)
