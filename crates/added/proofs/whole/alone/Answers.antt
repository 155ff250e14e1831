-- `added::whole::alone` meets its contract.
use native.Mathlib.Omega.{arith}
use Prim.Native.Nat.{◌%◌}
use Rattle.combinations.specs.Combinations.{part_places}
use Rattle.added.proofs.Asked.{alone_part, part_low}
use Rattle.added.proofs.whole.alone.Goals as goal

pub part_cost-requires : goal.part_cost-requires
part_cost-requires c = (record { tables = c.requires.0; among = omega (arith, c.requires.1); number = part_low (c.args.place % part_places) (omega arith) c.power-v.ensures }, c.requires.2)

pub returns : goal.returns
returns c = (alone_part _ _ _ c.power-v.ensures c.part_cost.ensures.0, c.part_cost.ensures.1)
