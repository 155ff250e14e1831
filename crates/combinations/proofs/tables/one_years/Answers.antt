-- The invariant: each place passed holds its years.
use mathlib.Core.Path.{refl, ◌∙◌}
use Rattle.arrays.proofs.Laws.{fill_next}
use Rattle.arrays.specs.Sets.{fill}
use Rattle.combinations.specs.Combinations.{no_list}
use Rattle.combinations.proofs.Laws.{one_year_is}
use Rattle.combinations.proofs.Parts.{one_years_end}
use Rattle.combinations.proofs.tables.one_years.Goals as goal

pub loop-i-init : goal.loop-i-init
unfolding fill no_list
loop-i-init c = refl

pub loop-i-preserved : goal.loop-i-preserved
loop-i-preserved c = fill_next _ _ _ c.loop-i.invariant (one_year_is _ _ _ _ c.power.ensures (c.from.ensures ∙ c.touched.ensures.0))

pub returns : goal.returns
returns c = let placed = c.requires in
    one_years_end _ _ _ placed.ranks c.loop-i.invariant c.loop-i.auto.i-end c.loop-i-test.false placed.few
