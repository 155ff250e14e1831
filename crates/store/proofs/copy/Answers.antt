use Rattle.std.proofs.Common.{refl}
use Rattle.rules.specs.Bytes.{onto}
use Rattle.store.proofs.copy.Goals as goal

pub returns : goal.returns
unfolding onto
returns c = record { bytes = rw c.copy_from_slice.ensures.after refl; fits = c.requires }
