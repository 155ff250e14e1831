-- `branches::greatest::ends` meets its contract.
use native.Mathlib.Omega.{arith}
use Rattle.branches.proofs.Branch.{ends_at}
use Rattle.branches.proofs.greatest.ends.Goals as goal

pub cut-requires : goal.cut-requires
cut-requires c = (c.requires.searching.0, c.requires.searching.1, (ends_at c.requires.left_nonzero.2 (omega arith) c.requires.left_nonzero.0 c.requires.left_nonzero.1).0)
