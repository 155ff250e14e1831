-- The invariant: the bids that were passed have their first marks.
use borrow.Author.Rules.{rules}
use mathlib.Core.Path.{◌∙◌, ap}
use Rattle.arrays.specs.Sets.{fill}
use Rattle.arrays.proofs.Laws.{fill_next}
use Rattle.pot.specs.Marks.{first_mark, no_marks}
use Rattle.pot.proofs.Laws.{started_done}
use Rattle.pot.proofs.start.started.Goals as goal

pub loop-k-init : goal.loop-k-init
unfolding fill no_marks
loop-k-init c = search rules

pub loop-k-preserved : goal.loop-k-preserved
loop-k-preserved c = fill_next _ _ _ c.loop-k.invariant (c.first_mark.ensures ∙ ap first_mark c.in_auction.ensures)

pub returns : goal.returns
returns c =
    started_done _ _ c.loop-k.invariant c.loop-k.auto.k-end c.loop-k-test.false c.drawn.ensures
