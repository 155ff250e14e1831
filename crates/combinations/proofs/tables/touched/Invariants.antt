-- The invariant: `t` has the years of the bids passed that are in the combination.
use Prim.Native.Nat.{◌<◌}
use mathlib.Core.Path.{◌≡◌}
use Rattle.combinations.specs.Combinations.{year_sets, touched_of}
use Rattle.combinations.proofs.tables.touched.Given as goal

abbrev pub invariant-loop-j : goal.invariant-loop-j
invariant-loop-j l = (l.t ≡ touched_of l.tied.ranks l.tied.starts l.mask l.j) × (l.t < year_sets)
