-- `totals::sums::laid` meets its contract.
use native.Mathlib.Omega.{arith}
use mathlib.Core.Path.{◌∙◌}
use Rattle.arrays.proofs.Arrays.{placed_part}
use Rattle.totals.proofs.sums.laid.Goals as goal

pub returns : goal.returns
returns c = c.lay.ensures ∙ placed_part _ _ _ _ (omega arith)
