-- `pot::PotState::too_wide` meets its contract.
use mathlib.Core.Path.{refl}
use Rattle.pot.specs.Marks.{widened}
use Rattle.pot.proofs.PotState.too_wide.Goals as goal

pub returns : goal.returns
unfolding widened
returns c = refl
