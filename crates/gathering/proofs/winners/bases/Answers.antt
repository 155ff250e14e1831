-- The invariant: each row passed has its totals.
use borrow.Author.Rules.{rules}
use Rattle.arrays.specs.Sets.{fill}
use Rattle.sheet.proofs.Columns.{columns_few}
use Rattle.combinations.specs.Combinations.{no_base}
use Rattle.combinations.proofs.Laws.{bases_next}
use Rattle.gathering.proofs.winners.bases.Goals as goal

pub loop-t-init : goal.loop-t-init
unfolding fill no_base
loop-t-init c = search rules

pub loop-t-preserved : goal.loop-t-preserved
loop-t-preserved c =
    bases_next _ _ _ _ _ _ (columns_few c.args.sheet.now.ready) c.repriced-trial.ensures
    c.revalued-row.ensures c.loop-t.invariant c.lay.ensures
