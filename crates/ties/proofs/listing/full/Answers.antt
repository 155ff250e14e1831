-- The invariant: none of the bids passed can be added.
use borrow.Author.Rules.{rules}
use Rattle.ties.specs.Ties.{full_to}
use Rattle.ties.proofs.Laws.{full_more, full_stops}
use Rattle.ties.proofs.listing.full.Goals as goal

pub loop-j-init : goal.loop-j-init
unfolding full_to
loop-j-init c = search rules

pub returns-then-addable : goal.returns-then-addable
returns-then-addable c = full_stops _ _ _ _ c.addable.ensures _ c.if-addable.true c.loop-j-test.true

pub loop-j-preserved : goal.loop-j-preserved
loop-j-preserved c = full_more _ _ _ _ c.addable.ensures c.if-addable.false c.loop-j.invariant
