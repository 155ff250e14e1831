-- `pot::PotState::several` meets its contract.
use mathlib.Core.Path.{◌∙◌}
use Rattle.sheet.proofs.Columns.{columns_few}
use Rattle.pot.proofs.Sums.{summed_settled, summed_trial, summed_tie}
use Rattle.pot.proofs.Steps.{taken_is, many_tried, step_fits, step_tie}
use Rattle.pot.proofs.PotState.several.Goals as goal

pub returns-then-within : goal.returns-then-within
returns-then-within c =
    let pre = c.requires in
    let ok = pre.0.ready in
    let set = taken_is _ _ _ pre.0.looked.price c.taken-set.ensures in
    let right = summed_trial _ _ (columns_few ok) pre.0.summed _ _ c.trial-t.ensures in record {
      stepped =
          step_fits _ _ ok _ _ _ pre.0.looked.price (many_tried _ _ _ _ set c.trial-t.ensures) right
          c.within.ensures c.if-within.true c.settled.ensures;
      summed = summed_settled _ _ c.settled.ensures right;
    }

pub returns-else-within : goal.returns-else-within
returns-else-within c =
    let pre = c.requires in
    let ok = pre.0.ready in
    let set = taken_is _ _ _ pre.0.looked.price c.taken-set.ensures in
    let right = summed_trial _ _ (columns_few ok) pre.0.summed _ _ c.trial-t.ensures in record {
      stepped =
          step_tie _ _ ok _ _ _ pre.0.looked.price (many_tried _ _ _ _ set c.trial-t.ensures) right
          c.within.ensures c.if-within.false set (λ e. pre.1 (pre.0.looked.count ∙ e)) c.tie.ensures;
      summed = summed_tie _ _ (columns_few ok) pre.0.summed _ _ c.tie.ensures;
    }
