-- `round::told` meets its contract: an accepted file is held.
use native.Mathlib.Omega.{arith}
use Rattle.round.proofs.Laws.{handed, parts_told}
use Rattle.round.proofs.told.Goals as goal

pub invariant_of-tell : goal.invariant_of-tell
invariant_of-tell c = record { held = (handed c.args.file.now c.requires).held; bytes = λ i. omega (arith, c.type_inv.file i) }

pub returns : goal.returns
returns c = parts_told _ (handed c.args.file.now c.requires) c.tell.ensures
