-- `search::choose` meets its contract.
use mathlib.Core.Path.{◌∙◌}
use Rattle.search.proofs.Ways.{choice_undrawn, choice_drawn}
use Rattle.search.proofs.choose.Goals.{in-Some, in-None}
use Rattle.search.proofs.choose.Goals as goal

pub returns : goal.returns
returns c = elim c.match-drawn.branch [
  | in-Some w ↦ choice_drawn _ _ _ _ _ _ (w.answer-is ∙ w.search-answer.ensures) c.chosen.ensures
  | in-None w ↦ choice_undrawn _ _ _ _ _ w.in-None.is w.top.ensures w.answer-is c.chosen.ensures
]
