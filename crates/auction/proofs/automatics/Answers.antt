-- `auction::automatics` meets its contract: the applications of the bids passed have no automatic reason.
use borrow.Author.Rules.{rules}
use native.Mathlib.Omega.{arith}
use Rattle.auction.specs.Numbers.{automatics_of}
use Rattle.auction.proofs.Laws.{automatic_next, app_below, row_there, entrant_there, entrant_below}
use Rattle.auction.proofs.automatics.Goals as goal

pub loop-j-init : goal.loop-j-init
unfolding automatics_of
loop-j-init c = search rules

pub entrant-requires : goal.entrant-requires
entrant-requires c = entrant_there _ _ _ c.args.sheet.now.ready c.loop-j-test.true

pub app-a-requires : goal.app-a-requires
app-a-requires c =
    row_there _ _ _ c.args.sheet.now.ready
    (entrant_below _ _ _ c.args.sheet.now.ready c.loop-j-test.true c.entrant.ensures)

pub offset_bounds-out-a : goal.offset_bounds-out-a
offset_bounds-out-a c =
    let pre = c.args.sheet.now.ready in
    let z = app_below _ _ _ pre (entrant_below _ _ _ pre c.loop-j-test.true c.entrant.ensures) c.app-a.ensures in
    omega arith

pub bounds-out-a : goal.bounds-out-a
bounds-out-a c =
    let pre = c.args.sheet.now.ready in
    app_below _ _ _ pre (entrant_below _ _ _ pre c.loop-j-test.true c.entrant.ensures) c.app-a.ensures

pub loop-j-preserved : goal.loop-j-preserved
loop-j-preserved c = automatic_next _ _ _ c.loop-j.invariant c.entrant.ensures c.app-a.ensures
