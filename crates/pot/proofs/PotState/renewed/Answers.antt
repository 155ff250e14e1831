-- `pot::PotState::renewed` meets its contract.
use Rattle.pot.proofs.Sums.{renewed_is}
use Rattle.pot.proofs.PotState.renewed.Goals as goal

pub returns : goal.returns
returns c = renewed_is _ _ _ _ c.part-row.ensures c.laid-self.ensures
