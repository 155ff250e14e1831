-- `pot::PotState::totalled` meets its contract.
use Rattle.pot.proofs.Sums.{totalled_is}
use Rattle.pot.proofs.PotState.totalled.Goals as goal

pub returns : goal.returns
returns c = totalled_is _ _ c.column_totals-self.ensures
