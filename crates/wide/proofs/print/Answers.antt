-- A file whose reading accepts it is filled in.
use mathlib.Core.Path.{sym}
use Rattle.wide.proofs.print.Goals as goal

pub tie-requires : goal.tie-requires
tie-requires g c = sym c.in-Ok.ensures
