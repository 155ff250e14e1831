-- `fill::fill_figures` meets its contract. After k turns the figures of the first k bids are right, and those after them are blank yet.
use mathlib.Core.Path.{sym, ap, ◌∙◌}
use lib.ListN.{length}
use native.Mathlib.Omega.{arith}
use Rattle.rows.proofs.Laws.{bid_in, good}
use Rattle.fill.proofs.Laws.{done_own, done_other, of_pot_lem, placed_bid, placed_none}
use Rattle.fill.proofs.fill_figures.Goals as goal
use Rattle.fill.proofs.fill_figures.Goals.{else-in_auction, then-in_auction}

pub bid-bid-requires : goal.bid-bid-requires
bid-bid-requires c =
    let pre = c.requires in
    let l = c.loop-k in
    let e = of_pot_lem _ _ _ c.args.cells.now l.cells c.loop-k-test.true pre.0
    (λ j h. l.invariant.1.rest j (omega (arith, c.loop-k-test.true))) c.in_auction.ensures in
    bid_in _ _ _ e c.if-in_auction.true

pub fill_years-requires : goal.fill_years-requires
fill_years-requires c =
    let pre = c.requires in
    let l = c.loop-k in
    let small = c.loop-k-test.true in
    let e = of_pot_lem _ _ _ c.args.cells.now l.cells small pre.0 (λ j h. l.invariant.1.rest j (omega (arith, small)))
    c.in_auction.ensures in
    let g = good _ c.args.round.now.held.sound _ (bid_in _ _ _ e c.if-in_auction.true) c.bid-bid.ensures in
    (g.app, g.days, g.capacity, omega (arith, small))

pub loop-k-preserved : goal.loop-k-preserved
loop-k-preserved c =
    let pre = c.requires in
    let l = c.loop-k in
    let small = c.loop-k-test.true in
    let S = c.args.round.now.held.sound in
    let e = of_pot_lem _ _ _ c.args.cells.now l.cells small pre.0 (λ j h. l.invariant.1.rest j (omega (arith, small))) c.in_auction.ensures in (
      elim c.if-in_auction.branch [
        | then-in_auction w ↦ ap length w.cells-is ∙ w.fill_years.ensures.long
        | else-in_auction w ↦ ap length w.cells-is ∙ l.invariant.0
      ],
      elim c.if-in_auction.branch [
        | then-in_auction w ↦ done_own _ _ _ l.invariant.1 _ w.cells-is S.years_most
            (placed_bid _ _ _ small (sym e ∙ w.if-in_auction.true) w.bid-bid.ensures) w.fill_years.ensures
        | else-in_auction w ↦ done_other _ _ _ l.invariant.1 w.cells-is (omega (arith, small)) S.years_most 0 (omega arith) pre.1
            (placed_none _ _ _ small (sym e ∙ w.if-in_auction.false))
      ],
    )
