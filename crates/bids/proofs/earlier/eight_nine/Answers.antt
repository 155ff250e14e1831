use native.Mathlib.Omega.{arith}
use Rattle.bids.proofs.Laws.{counted}
use Rattle.bids.proofs.Chains.{walk_start, walk_on, eight_found, nine_counted}
use Rattle.bids.proofs.earlier.eight_nine.Goals as goal

pub loop-left-init : goal.loop-left-init
loop-left-init c = walk_start _ _ _ c.start-left.ensures

pub returns-then-same_price : goal.returns-then-same_price
returns-then-same_price c = eight_found _ _ _ (omega (arith, c.loop-left.invariant.within)) c.if-same_price.ensures

pub loop-left-preserved : goal.loop-left-preserved
loop-left-preserved c =
    walk_on _ _ _ _ _ _ c.loop-left.invariant (omega arith) c.next-left.ensures c.if-same_price.ensures
    (counted _ c.same_app.ensures c.from-of_app.ensures) (counted _ c.same_year.ensures c.from-of_year.ensures)

pub returns : goal.returns
returns c = nine_counted _ _ _ _ _ c.loop-left.invariant c.loop-left-test.false c.nine.ensures
