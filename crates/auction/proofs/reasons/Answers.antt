-- `auction::reasons` meets its contract: the bids passed have their reasons.
use borrow.Author.Rules.{rules}
use native.Mathlib.Omega.{arith}
use Rattle.auction.specs.Numbers.{reasons_of, no_reasons}
use Rattle.auction.proofs.Laws.{reason_next, app_below, row_there, entrant_there, entrant_below}
use Rattle.auction.proofs.reasons.Goals as goal

pub loop-j-init : goal.loop-j-init
unfolding reasons_of no_reasons
loop-j-init c = search rules

pub entrant-k-requires : goal.entrant-k-requires
entrant-k-requires c = entrant_there _ _ _ c.args.sheet.now.ready c.loop-j-test.true

pub app-a-requires : goal.app-a-requires
app-a-requires c =
    row_there _ _ _ c.args.sheet.now.ready
    (entrant_below _ _ _ c.args.sheet.now.ready c.loop-j-test.true c.entrant-k.ensures)

pub offset_bounds-marks-k : goal.offset_bounds-marks-k
offset_bounds-marks-k c =
    omega (
      arith,
      row_there _ _ _ c.args.sheet.now.ready
          (entrant_below _ _ _ c.args.sheet.now.ready c.loop-j-test.true c.entrant-k.ensures),
    )

pub bounds-marks-k : goal.bounds-marks-k
bounds-marks-k c =
    row_there _ _ _ c.args.sheet.now.ready
    (entrant_below _ _ _ c.args.sheet.now.ready c.loop-j-test.true c.entrant-k.ensures)

pub bounds-won-a : goal.bounds-won-a
bounds-won-a c =
    app_below _ _ _ c.args.sheet.now.ready
    (entrant_below _ _ _ c.args.sheet.now.ready c.loop-j-test.true c.entrant-k.ensures) c.app-a.ensures

pub offset_bounds-out-k : goal.offset_bounds-out-k
offset_bounds-out-k c =
    omega (
      arith,
      row_there _ _ _ c.args.sheet.now.ready
          (entrant_below _ _ _ c.args.sheet.now.ready c.loop-j-test.true
          c.entrant-k.ensures),
    )

pub bounds-out-k : goal.bounds-out-k
bounds-out-k c =
    row_there _ _ _ c.args.sheet.now.ready
    (entrant_below _ _ _ c.args.sheet.now.ready c.loop-j-test.true
    c.entrant-k.ensures)

pub loop-j-preserved : goal.loop-j-preserved
loop-j-preserved c = reason_next _ _ _ _ c.loop-j.invariant c.entrant-k.ensures c.app-a.ensures c.reason.ensures
