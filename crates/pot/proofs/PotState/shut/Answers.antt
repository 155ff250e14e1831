-- `pot::PotState::shut` meets its contract.
use mathlib.Core.Path.{refl}
use Rattle.pot.specs.Marks.{shut_of}
use Rattle.pot.proofs.PotState.shut.Goals as goal

pub returns : goal.returns
unfolding shut_of
returns c = refl
