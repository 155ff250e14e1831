-- `pot::PotState::settled` meets its contract.
use Rattle.pot.proofs.Laws.{settled_shut, settled_past, settled_none}
use Rattle.pot.proofs.PotState.settled.Goals as goal
use Rattle.pot.proofs.PotState.settled.Goals.{in_default-via-in-Some+else-d-lt-MOST_DELIVERIES, in_default-via-in_default}

pub returns-in-Some : goal.returns-in-Some
returns-in-Some c = settled_shut _ c.in-Some.is c.if-d-lt-MOST_DELIVERIES.true c.shut.ensures

pub returns-in_default : goal.returns-in_default
returns-in_default c = elim c.in_default.branch [
  | in_default-via-in-Some+else-d-lt-MOST_DELIVERIES w ↦ settled_past _ w.in-Some.is w.if-d-lt-MOST_DELIVERIES.false c.hung.ensures
  | in_default-via-in_default w ↦ settled_none _ w.in_default.is c.hung.ensures
]
