-- `pot::PotState::numbered` meets its contract.
use mathlib.Core.Path.{refl}
use Rattle.pot.specs.Marks.{numbered_of}
use Rattle.pot.proofs.PotState.numbered.Goals as goal

pub returns : goal.returns
unfolding numbered_of
returns c = refl
