-- `fill::fill_admins` meets its contract. After a turns the prices of the first a applications are right, and those after them are blank yet.
use mathlib.Core.Path.{sym, ◌∙◌}
use Rattle.laws_round.specs.Bids.{app_in}
use Rattle.fill.proofs.Laws.{admins_own, admins_other, price_own, price_none}
use Rattle.fill.proofs.fill_admins.Goals as goal
use Rattle.fill.proofs.fill_admins.Goals.{else-app_mine, then-app_mine}

pub at_admin_price-own-requires : goal.at_admin_price-own-requires
at_admin_price-own-requires c =
    (app_in _ _ _ (sym c.app_mine.ensures ∙ c.if-app_mine.true)).0

pub loop-a-preserved : goal.loop-a-preserved
loop-a-preserved c =
    let pre = c.requires in
    let inv = c.loop-a.invariant in
    let small = c.loop-a-test.true in
    let S = c.args.round.now.held.sound in
    let e = sym c.app_mine.ensures in
    elim c.if-app_mine.branch [
      | then-app_mine w ↦ admins_own _ _ _ inv w.cells-is small (price_own _ S _ _ (e ∙ w.if-app_mine.true) w.at_admin_price-own.ensures)
      | else-app_mine w ↦ admins_other _ _ _ inv w.cells-is small pre (price_none _ S _ _ (e ∙ w.if-app_mine.false))
    ]
