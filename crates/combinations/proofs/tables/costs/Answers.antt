-- The invariant: each place passed holds its sum, of whatever bids the places alone are.
use native.Mathlib.Omega.{arith}
use Prim.Native.Nat.{◌<◌, ◌*◌}
use mathlib.Core.Path.{refl, ◌∙◌}
use Rattle.arrays.proofs.Laws.{fill_next}
use Rattle.arrays.specs.Sets.{fill}
use Rattle.combinations.specs.Combinations.{parts, part_rows, no_costs}
use Rattle.combinations.proofs.Parts.{cost_stays, cost_next, cost_le, costs_end}
use Rattle.combinations.proofs.tables.costs.Goals as goal
use Rattle.combinations.proofs.tables.costs.Goals.{else-v-gt0, then-v-gt0}

pub loop-i-init : goal.loop-i-init
unfolding fill no_costs
loop-i-init c = λ ranks k e. refl

pub overflow_add-out : goal.overflow_add-out
overflow_add-out c = let g = c.requires in
    let e = c.ones-one.ensures in
    let inv = c.loop-i.invariant in
    let n = cost_next _ _ _ _ _ (inv _ _ e) e (omega (arith, c.loop-i-test.true, c.parts_of-i-end.ensures.1)) c.top-r.ensures.0
    c.top-r.ensures.1 c.top-r.ensures.2 c.power-less.ensures in
    omega (
      arith,
      n,
      cost_le _ c.args.tied.ranks _ c.loop-i.i
          g.placed.few g.bids,
    )

pub loop-i-preserved : goal.loop-i-preserved
loop-i-preserved c = let inv = c.loop-i.invariant in
    let h : c.loop-i.i < parts * part_rows = omega (arith, c.loop-i-test.true, c.parts_of-i-end.ensures.1) in
    λ ranks k e. (elim c.if-v-gt0.branch [
      | then-v-gt0 w ↦ w.out-is ∙ fill_next _ _ _ (inv ranks k e)
          (cost_next _ _ _ _ _ (inv ranks k e) e h w.top-r.ensures.0 w.top-r.ensures.1 w.top-r.ensures.2 w.power-less.ensures)
      | else-v-gt0 w ↦ w.out-is ∙ cost_stays _ _ _ _ (inv ranks k e) h w.if-v-gt0.false
    ])

pub returns : goal.returns
returns c = let inv = c.loop-i.invariant in
    let p = c.parts_of-i-end.ensures in
    costs_end _ _ _ c.requires.placed.ranks (inv _ _ c.ones-one.ensures) c.loop-i.auto.i-end
    c.loop-i-test.false p.0 p.1
