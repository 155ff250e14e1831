-- `pot::PotState::win` meets its contract.
use Rattle.pot.proofs.Laws.{win_is}
use Rattle.pot.proofs.PotState.win.Goals as goal

pub returns : goal.returns
returns c = win_is _ _ _ _ c.year-d.ensures c.app-a.ensures
