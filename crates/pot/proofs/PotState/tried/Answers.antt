-- `pot::PotState::tried` meets its contract.
use Rattle.sheet.proofs.Columns.{columns_few}
use Rattle.pot.proofs.Sums.{parted_win, sum_most, tried_is}
use Rattle.pot.proofs.PotState.tried.Goals as goal

pub totalled-requires : goal.totalled-requires
totalled-requires c =
    let pre = c.requires in
    record {
      columns = columns_few pre.0.ready;
      small = λ y h. sum_most
          (parted_win _ _ _ _ _ (columns_few pre.0.ready) (pre.0.ready.year _ pre.1) c.year-d.ensures c.win.ensures
          c.renewed.ensures pre.0.summed.parts) y h pre.0.ready;
    }

pub returns : goal.returns
returns c = tried_is _ _ _ _ _ c.year-d.ensures c.win.ensures c.renewed.ensures c.totalled.ensures
