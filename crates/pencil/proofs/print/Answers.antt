-- The sections of an accepted file are held.
use native.Mathlib.Omega.{arith}
use mathlib.Core.Path.{sym}
use Rattle.rows.proofs.Accepted.{accepted}
use Rattle.pencil.proofs.print.Goals as goal

pub invariant_of-accepted : goal.invariant_of-accepted
invariant_of-accepted g c = record { held = (accepted _ (sym c.in-Ok.ensures)).1; bytes = λ i. omega (arith, c.type_inv.file i) }
