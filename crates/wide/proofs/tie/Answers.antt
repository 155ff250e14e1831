-- The sheet of an accepted file is filled.
use native.Mathlib.Omega.{arith}
use Rattle.sheet.specs.Sheet.{sheet_length}
use Rattle.arrays.proofs.Arrays.{zeros}
use Rattle.rows.proofs.Accepted.{accepted}
use Rattle.wide.proofs.tie.Goals as goal

pub invariant_of-fill : goal.invariant_of-fill
invariant_of-fill g c = record { held = (accepted c.args.file.now c.requires).1; bytes = λ i. omega (arith, c.type_inv.file i) }

pub fill-size-requires-clause-known : goal.fill-size-requires-clause-known
fill-size-requires-clause-known g c = omega arith

pub fill-size-requires-clause-blank : goal.fill-size-requires-clause-blank
fill-size-requires-clause-blank g c = zeros sheet_length

pub invariant_of-sheet : goal.invariant_of-sheet
invariant_of-sheet g c = record { ready = c.fill-size.ensures.result_after.1 }
