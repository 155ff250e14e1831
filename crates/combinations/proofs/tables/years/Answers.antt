-- The invariant: each place passed holds its years, of whatever bids the places alone are.
use native.Mathlib.Omega.{arith}
use Prim.Native.Nat.{◌*◌, ◌<◌}
use mathlib.Core.Path.{refl, ◌∙◌}
use Rattle.arrays.proofs.Laws.{fill_next}
use Rattle.arrays.specs.Sets.{fill}
use Rattle.combinations.specs.Combinations.{parts, part_size, no_years}
use Rattle.combinations.proofs.Parts.{year_stays, year_next, years_end}
use Rattle.combinations.proofs.tables.years.Goals as goal
use Rattle.combinations.proofs.tables.years.Goals.{else-v-gt0, then-v-gt0}

pub loop-i-init : goal.loop-i-init
unfolding fill no_years
loop-i-init c = λ ranks starts k e. refl

pub loop-i-preserved : goal.loop-i-preserved
loop-i-preserved c = let inv = c.loop-i.invariant in
    let h : c.loop-i.i < parts * part_size = omega (arith, c.loop-i-test.true, c.parts_of-i-end.ensures.1) in
    λ ranks starts k e. (elim c.if-v-gt0.branch [
      | then-v-gt0 w ↦ w.out-is ∙ fill_next _ _ _ (inv ranks starts k e)
          (year_next _ _ _ _ _ (inv ranks starts k e) e h w.top-r.ensures.0 w.top-r.ensures.1 w.top-r.ensures.2 w.power-less.ensures)
      | else-v-gt0 w ↦ w.out-is ∙ year_stays _ _ _ _ (inv ranks starts k e) h w.if-v-gt0.false
    ])

pub returns : goal.returns
returns c = let inv = c.loop-i.invariant in
    let p = c.parts_of-i-end.ensures in
    years_end _ _ _ c.requires.ranks (inv _ _ _ c.one_years-one.ensures) c.loop-i.auto.i-end
    c.loop-i-test.false p.0 p.1
