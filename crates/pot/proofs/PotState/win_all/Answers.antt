-- `pot::PotState::win_all` meets its contract.
use Rattle.std.proofs.Common.{rules, of_calls}
use Rattle.pot.proofs.Laws.{each_win}
use Rattle.pot.proofs.PotState.win_all.Goals as goal

pub returns : goal.returns
returns c = each_win _ _ _ _ (λ t k r p. search (rules, of_calls)) _ _ c.each.ensures
