-- The invariant: those passed have less, or more than the limit.
use Prim.Native.Nat.{◌+◌, ◌*◌}
use mathlib.Core.Path.{◌≡◌}
use Rattle.combinations.specs.Combinations.{part_size}
use Rattle.ties.specs.Ties.{last_by}
use Rattle.branches.specs.Branches.{upper_of, Upright}
use Rattle.branches.proofs.Scans.{Passing}
use Rattle.branches.proofs.scan.shorts.Given as goal

abbrev pub invariant-loop-v : goal.invariant-loop-v
invariant-loop-v l = ((l.up ≡ upper_of l.of l.table l.head) × Upright l.up) × Passing (last_by l.of l.table) l.goal l.limit (l.head * part_size + l.v) l.left
