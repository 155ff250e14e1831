-- `pot::PotState::turn_all` meets its contract.
use Rattle.std.proofs.Common.{rules, of_calls}
use Rattle.pot.proofs.Laws.{each_turn}
use Rattle.pot.proofs.PotState.turn_all.Goals as goal

pub returns : goal.returns
returns c = each_turn _ _ _ _ (λ t k r p. search (rules, of_calls)) _ _ c.each.ensures
