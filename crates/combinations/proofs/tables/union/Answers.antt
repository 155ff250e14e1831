-- `combinations::tables::union` meets its contract.
use Rattle.combinations.proofs.Parts.{union_is, union_low}
use Rattle.combinations.proofs.tables.union.Goals as goal

pub returns : goal.returns
returns c =
    let low = c.part_years-low.ensures in
    let second = c.part_years-second.ensures in
    let third = c.part_years-third.ensures in
    let high = c.part_years-high.ensures in
    (union_is _ _ low.0 second.0 third.0 high.0, union_low _ _ _ _ low.1 second.1 third.1 high.1)
