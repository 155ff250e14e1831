-- `bids::earlier::eight_nine` meets its contract: the bids from `left` on are walked.
use Rattle.bids.proofs.Chains.{Walked}
use Rattle.bids.proofs.earlier.eight_nine.Given as goal

abbrev pub invariant-loop-left : goal.invariant-loop-left
invariant-loop-left l = Walked l.recs l.i l.left l.of_app l.of_year

abbrev pub decreases-loop-left : goal.decreases-loop-left
decreases-loop-left l = l.left
