-- `gathering::gathered` meets its contract.
use native.Mathlib.Omega.{arith}
use Rattle.combinations.proofs.Laws.{tied_is}
use Rattle.combinations.proofs.Lists.{numbers}
use Rattle.gathering.proofs.Laws.{numbers_first, ranks_first, starts_first}
use Rattle.gathering.proofs.gathered.Goals as goal

pub ranks-ranks-requires : goal.ranks-ranks-requires
ranks-ranks-requires c =
    let g = c.requires in numbers_first (omega (arith, g.few)) (numbers _ _ g.counted g.few c.compact-bids.ensures)

pub starts-starts-requires : goal.starts-starts-requires
starts-starts-requires c =
    let g = c.requires in numbers_first (omega (arith, g.few)) (numbers _ _ g.counted g.few c.compact-bids.ensures)

pub returns : goal.returns
returns c =
    let h = c.requires.few in
    tied_is _ _ _ _ c.compact-bids.ensures (ranks_first _ _ _ (omega (arith, h)) c.ranks-ranks.ensures) (starts_first _ _ _ (omega (arith, h)) c.starts-starts.ensures)
