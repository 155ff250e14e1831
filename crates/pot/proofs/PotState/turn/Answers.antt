-- `pot::PotState::turn` meets its contract.
use Rattle.pot.proofs.Laws.{turn_is}
use Rattle.pot.proofs.PotState.turn.Goals as goal

pub returns : goal.returns
returns c = turn_is _ _ _ _ c.year-d.ensures
