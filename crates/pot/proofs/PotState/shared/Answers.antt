-- `pot::PotState::shared` meets its contract.
use Rattle.pot.proofs.Laws.{shared_is}
use Rattle.pot.proofs.PotState.shared.Goals as goal

pub returns : goal.returns
returns c =
    shared_is _ _ _ _ _ _ c.win_all.ensures c.others-outs.ensures
    c.turn_all.ensures c.hung.ensures c.numbered.ensures
