-- `auction::apps` meets its contract: the applications passed are told.
use borrow.Author.Rules.{rules}
use Rattle.arrays.specs.Sets.{fill}
use Rattle.arrays.proofs.Laws.{fill_next}
use Rattle.auction.specs.Numbers.{no_apps}
use Rattle.auction.proofs.apps.Goals as goal

pub loop-a-init : goal.loop-a-init
unfolding fill no_apps
loop-a-init c = search rules

pub loop-a-preserved : goal.loop-a-preserved
loop-a-preserved c = fill_next _ _ _ c.loop-a.invariant c.told.ensures
