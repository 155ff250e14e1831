-- The invariant: `n` counts those passed whose draw is above x.
use Prim.Native.Nat.{◌≤◌}
use mathlib.Core.Path.{◌≡◌}
use Rattle.combinations.specs.Combinations.{above_of}
use Rattle.gathering.proofs.above.Given as goal

abbrev pub invariant-loop-k : goal.invariant-loop-k
invariant-loop-k l = (l.n ≡ above_of l.sheet.cells.now l.list l.x l.k-index) × (l.n ≤ l.k-index)
