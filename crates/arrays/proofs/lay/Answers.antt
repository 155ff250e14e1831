-- `arrays::lay` meets its contract.
use native.Mathlib.Omega.{arith}
use Rattle.arrays.proofs.Arrays.{placed_over}
use Rattle.arrays.proofs.lay.Goals as goal

pub returns : goal.returns
returns c = placed_over _ _ _ _ (omega arith) (omega arith) c.copy_from_slice.ensures.after
