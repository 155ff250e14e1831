-- The sections of an accepted file are held.
use native.Mathlib.Omega.{arith}
use mathlib.Core.Path.{sym}
use Rattle.rows.proofs.Accepted.{accepted}
use Rattle.show.proofs.show.Goals as goal

pub invariant_of-print : goal.invariant_of-print
invariant_of-print g c = record { held = (accepted _ (sym c.in-Ok.ensures)).1; bytes = λ i. omega (arith, c.type_inv.file i) }
