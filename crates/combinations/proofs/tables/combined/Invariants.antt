-- The invariant: `sum` is what the bids passed count, each at most the dearest.
use Prim.Native.Nat.{◌≤◌, ◌*◌}
use mathlib.Core.Path.{◌≡◌}
use Rattle.rules.specs.Value.{dearest}
use Rattle.combinations.specs.Combinations.{combined_of}
use Rattle.combinations.proofs.tables.combined.Given as goal

abbrev pub invariant-loop-j : goal.invariant-loop-j
invariant-loop-j l = (l.sum ≡ combined_of l.own l.tied.ranks l.mask l.c l.j) × (l.sum ≤ dearest * l.j)
