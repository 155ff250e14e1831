-- `fill::fill_entrants` meets its contract. After k turns the first k bids have been looked at.
use native.Mathlib.Omega.{arith}
use Rattle.fill.proofs.Laws.{entering_none, entering_hit, entering_miss}
use Rattle.fill.proofs.fill_entrants.Goals as goal
use Rattle.fill.proofs.fill_entrants.Goals.{else-in_auction, then-in_auction}

pub loop-k-init : goal.loop-k-init
loop-k-init c = (omega arith, entering_none _ c.told-cells)

pub loop-k-preserved : goal.loop-k-preserved
loop-k-preserved c =
    let inv = c.loop-k.invariant in
    let small = c.loop-k-test.true in (
      elim c.if-in_auction.branch [ then-in_auction w ↦ omega (arith, inv.0, w.n-is) | else-in_auction w ↦ omega (arith, inv.0, w.n-is) ],
      elim c.if-in_auction.branch [
        | then-in_auction w ↦ entering_hit _ _ _ inv.1 c.in_auction.ensures (omega (arith, small, c.requires)) w.if-in_auction.true w.cells-is w.n-is
        | else-in_auction w ↦ entering_miss _ _ _ inv.1 c.in_auction.ensures w.if-in_auction.false w.cells-is w.n-is
      ],
    )
