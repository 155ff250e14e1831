-- `pot::PotState::hung` meets its contract.
use mathlib.Core.Path.{refl}
use Rattle.pot.specs.Marks.{hung_of}
use Rattle.pot.proofs.PotState.hung.Goals as goal

pub returns : goal.returns
unfolding hung_of
returns c = refl
