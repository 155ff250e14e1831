-- The invariant: none of the bids passed can be added.
use mathlib.Core.Path.{refl}
use Rattle.sheet.proofs.Columns.{columns_few}
use Rattle.laws_pot.specs.Lists.{clash}
use Rattle.added.proofs.Asked.{none_narrow}
use Rattle.added.proofs.whole.whole.Goals as goal

pub returns-then-left-narrow : goal.returns-then-left-narrow
returns-then-left-narrow c = (λ e. none_narrow _ _ _ _ _ c.requires.1 (record { number = c.requires.4; years = c.union.ensures.0; few = c.union.ensures.1 }) (columns_few c.requires.0.ready) c.requires.2 c.requires.3 c.left-left.ensures c.if-left-narrow.true, λ e. clash refl e)
