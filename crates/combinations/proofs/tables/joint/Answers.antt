-- `combinations::tables::joint` meets its contract.
use Rattle.combinations.proofs.Laws.{joint_is}
use Rattle.combinations.proofs.tables.joint.Goals as goal

pub returns : goal.returns
returns c =
    joint_is _ _ _ _ c.part_cost-low.ensures.0 c.part_cost-second.ensures.0
    c.part_cost-third.ensures.0 c.part_cost-high.ensures.0
