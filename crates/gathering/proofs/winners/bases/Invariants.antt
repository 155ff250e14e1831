-- The invariant: each row passed has its totals.
use Prim.Native.Nat.{◌*◌}
use mathlib.Core.Path.{◌≡◌}
use Rattle.arrays.specs.Sets.{fill}
use Rattle.sheet.specs.Sheet.{columns}
use Rattle.combinations.specs.Combinations.{base_at, no_base}
use Rattle.gathering.proofs.winners.bases.Given as goal

abbrev pub invariant-loop-t : goal.invariant-loop-t
invariant-loop-t l = l.base ≡ fill no_base (base_at l.sheet.cells.now l.sheet.size l.marks l.prices l.price) (l.t * columns)
