-- `fill::fill_admin_figures` meets its contract. After a turns the figures of the bids and of the first a applications are right, and those after them are blank yet.
use native.Mathlib.Omega.{arith}
use mathlib.Core.Path.{sym, ap, ◌∙◌}
use lib.ListN.{length}
use Rattle.rules.specs.Names.{most_bids}
use Rattle.rows.proofs.Laws.{good_own}
use Rattle.laws_round.specs.Bids.{app_in}
use Rattle.fill.proofs.Laws.{done_own, done_other, done_next, of_test, placed_own, placed_other}
use Rattle.fill.proofs.fill_admin_figures.Goals as goal
use Rattle.fill.proofs.fill_admin_figures.Goals.{else-in_test, then-in_test}

pub at_admin_price-own-requires : goal.at_admin_price-own-requires
at_admin_price-own-requires c =
    let pre = c.requires in
    let l = c.loop-a in
    let e = of_test _ c.args.round.now.held.sound _ _ c.args.cells.now l.cells c.loop-a-test.true pre.admins_right l.invariant.1.kept c.in_test.ensures in
    (app_in _ _ _ (sym e ∙ c.if-in_test.true)).0

pub fill_years-requires : goal.fill_years-requires
fill_years-requires c =
    let pre = c.requires in
    let l = c.loop-a in
    let small = c.loop-a-test.true in
    let S = c.args.round.now.held.sound in
    let e = of_test _ S _ _ c.args.cells.now l.cells small pre.admins_right l.invariant.1.kept c.in_test.ensures in
    let h = (app_in _ _ _ (sym e ∙ c.if-in_test.true)).0 in
    let g = good_own _ S _ h c.at_admin_price-own.ensures in
    (g.app, g.days, g.capacity, omega (arith, small))

pub loop-a-preserved : goal.loop-a-preserved
loop-a-preserved c =
    let pre = c.requires in
    let l = c.loop-a in
    let small = c.loop-a-test.true in
    let S = c.args.round.now.held.sound in
    let e = of_test _ S _ _ c.args.cells.now l.cells small pre.admins_right l.invariant.1.kept c.in_test.ensures in (
      elim c.if-in_test.branch [ then-in_test w ↦ ap length w.cells-is ∙ w.fill_years.ensures.long | else-in_test w ↦ ap length w.cells-is ∙ l.invariant.0 ],
      done_next _ _ _ (elim c.if-in_test.branch [
        | then-in_test w ↦ done_own _ _ _ l.invariant.1 _ w.cells-is S.years_most
            (placed_own _ _ _ (sym e ∙ w.if-in_test.true) w.at_admin_price-own.ensures) w.fill_years.ensures
        | else-in_test w ↦ done_other _ _ _ l.invariant.1 w.cells-is (omega (arith, small)) S.years_most most_bids (omega arith) pre.all_figures.1
            (placed_other _ _ _ (sym e ∙ w.if-in_test.false))
      ]),
    )
