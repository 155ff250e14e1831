-- `pot::PotState::revalued` meets its contract.
use Rattle.sheet.proofs.Columns.{columns_few}
use Rattle.pot.proofs.Sums.{parted_renewed, sum_most, revalued_is}
use Rattle.pot.proofs.PotState.revalued.Goals as goal

pub totalled-requires : goal.totalled-requires
totalled-requires c = let pre = c.requires in
    let few = columns_few c.args.sheet.now.ready in
    record { columns = few; small = λ y h. sum_most (parted_renewed _ _ _ pre few c.all_renewed.ensures) y h c.args.sheet.now.ready }

pub returns : goal.returns
returns c = revalued_is _ _ _ c.all_renewed.ensures c.totalled.ensures
