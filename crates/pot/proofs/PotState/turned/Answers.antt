-- `pot::PotState::turned` meets its contract.
use mathlib.Core.Path.{refl}
use Rattle.pot.specs.Marks.{turned_of}
use Rattle.pot.proofs.PotState.turned.Goals as goal

pub returns : goal.returns
unfolding turned_of
returns c = refl
