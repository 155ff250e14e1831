-- The invariant: `sum` is the total of the applications passed, each at most the dearest.
use Prim.Native.Nat.{◌≤◌, ◌*◌}
use mathlib.Core.Path.{◌≡◌}
use Rattle.rules.specs.Value.{dearest}
use Rattle.totals.specs.Totals.{admin_total_of}
use Rattle.totals.proofs.admin_total.Given as goal

abbrev pub invariant-loop-a : goal.invariant-loop-a
invariant-loop-a l = (l.sum ≡ admin_total_of l.sheet.cells.now l.sheet.size l.c l.a) × (l.sum ≤ dearest * l.a)
