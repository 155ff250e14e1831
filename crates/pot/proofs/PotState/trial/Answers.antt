-- `pot::PotState::trial` meets its contract.
use Rattle.pot.proofs.Sums.{trial_is}
use Rattle.pot.proofs.PotState.trial.Goals as goal

pub returns : goal.returns
returns c = trial_is _ _ _ _ _ c.win_all.ensures c.revalued.ensures
