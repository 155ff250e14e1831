-- The invariant: each place passed holds its sum.
use mathlib.Core.Path.{refl}
use Rattle.arrays.proofs.Laws.{fill_next}
use Rattle.arrays.specs.Sets.{fill}
use Rattle.combinations.specs.Combinations.{no_own}
use Rattle.combinations.proofs.Laws.{one_is}
use Rattle.combinations.proofs.Parts.{ones_end}
use Rattle.combinations.proofs.tables.ones.Goals as goal

pub loop-i-init : goal.loop-i-init
unfolding fill no_own
loop-i-init c = refl

pub loop-i-preserved : goal.loop-i-preserved
loop-i-preserved c = fill_next _ _ _ c.loop-i.invariant (one_is _ _ _ _ c.power-place.ensures c.combined.ensures)

pub returns : goal.returns
returns c = let placed = c.requires.placed in
    ones_end _ _ _ placed.ranks c.loop-i.invariant c.loop-i.auto.i-end c.loop-i-test.false placed.few
