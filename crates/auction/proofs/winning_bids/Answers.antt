-- The invariant: `out` has, for each application, the last of the bids passed that won for it.
use mathlib.Core.Path.{◌∙◌}
use borrow.Author.Rules.{rules}
use Rattle.auction.specs.Numbers.{winning_of}
use Rattle.auction.proofs.Laws.{winning_hit, winning_miss}
use Rattle.auction.proofs.winning_bids.Goals as goal
use Rattle.auction.proofs.winning_bids.Goals.{else-marks-k-eq-WON, then-marks-k-eq-WON}

pub loop-k-init : goal.loop-k-init
unfolding winning_of
loop-k-init c = search rules

pub loop-k-preserved : goal.loop-k-preserved
loop-k-preserved c =
    let inv = c.loop-k.invariant in
    elim c.if-marks-k-eq-WON.branch [
      | then-marks-k-eq-WON w ↦ w.out-is ∙ winning_hit _ _ _ inv w.app-a.ensures w.if-marks-k-eq-WON.true
      | else-marks-k-eq-WON w ↦ w.out-is ∙ winning_miss _ _ _ inv w.if-marks-k-eq-WON.false
    ]
