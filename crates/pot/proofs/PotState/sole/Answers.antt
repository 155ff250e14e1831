-- `pot::PotState::sole` meets its contract.
use Rattle.sheet.proofs.Columns.{columns_few}
use Rattle.pot.proofs.Seen.{sole_small, sole_fresh}
use Rattle.pot.proofs.Sums.{summed_settled, summed_one, summed_alone}
use Rattle.pot.proofs.Steps.{one_taken, one_tried, step_fits, step_alone}
use Rattle.pot.proofs.PotState.sole.Goals as goal

pub tried-t-requires : goal.tried-t-requires
tried-t-requires c = let pre = c.requires in
    (record { ready = pre.0.ready; summed = pre.0.summed }, sole_small pre.0.ready pre.0.looked pre.1)

pub returns-then-within : goal.returns-then-within
returns-then-within c =
    let pre = c.requires in
    let ok = pre.0.ready in
    let right = summed_one _ _ _ _ (columns_few ok) (ok.year _ (sole_small ok pre.0.looked pre.1)) c.tried-t.ensures
    pre.0.summed in record {
      stepped =
          step_fits _ _ ok _ _ _ pre.0.looked.price (one_tried pre.0.looked pre.1 c.tried-t.ensures) right
          c.within.ensures c.if-within.true c.settled.ensures;
      summed = summed_settled _ _ c.settled.ensures right;
    }

pub alone-requires : goal.alone-requires
alone-requires c = let pre = c.requires in
    (record { ready = pre.0.ready; others = pre.0.others }, sole_small pre.0.ready pre.0.looked pre.1)

pub returns-else-within : goal.returns-else-within
returns-else-within c =
    let pre = c.requires in
    let ok = pre.0.ready in
    let right = summed_one _ _ _ _ (columns_few ok) (ok.year _ (sole_small ok pre.0.looked pre.1)) c.tried-t.ensures
    pre.0.summed in record {
      stepped =
          step_alone _ _ ok _ _ _ pre.0.looked.price (one_tried pre.0.looked pre.1 c.tried-t.ensures) right
          c.within.ensures c.if-within.false (one_taken pre.0.looked pre.1) c.alone.ensures;
      summed = summed_alone _ _ _ c.alone.ensures (sole_fresh ok pre.0.looked pre.1) pre.0.summed;
    }
