-- `result::needed` meets its contract. Assumes nothing.
use native.Mathlib.Omega.{arith}
use Rattle.result.proofs.Laws.{needed_is}
use Rattle.result.proofs.needed.Goals as goal

pub returns : goal.returns
returns c = record { sized = omega arith; small = omega arith; meant = λ R C. omega (arith, needed_is C) }
