-- The invariant: the best of those from `left` on is found.
use native.Mathlib.Omega.{arith}
use mathlib.Core.Path.{refl, sym, ◌∙◌}
use Rattle.std.specs.Prelude.{None, Some}
use Rattle.ties.proofs.Laws.{power_low}
use Rattle.branches.proofs.Best.{sought_none, sought_at, sought_next, sought_past, goal_small, found_best}
use Rattle.branches.proofs.greatest.greatest.Goals as goal

pub loop-left-init : goal.loop-left-init
loop-left-init c = (omega arith, sought_at _ _ _ _ (sym c.power-left.ensures) (sought_none _ _ _), refl)

pub fall-passed-requires-clause-left_nonzero : goal.fall-passed-requires-clause-left_nonzero
fall-passed-requires-clause-left_nonzero c = (c.loop-left-test.true, omega (arith, c.loop-left.invariant.0, c.power-left.ensures, power_low c.requires.2))

pub loop-left-preserved-then-passed-gt0 : goal.loop-left-preserved-then-passed-gt0
loop-left-preserved-then-passed-gt0 c = (omega (arith, c.loop-left.invariant.0), sought_past _ _ _ _ _ c.loop-left.invariant.1 (rw c.loop-left.invariant.2 at c.fall-passed.ensures), c.loop-left.invariant.2)

pub meet-requires : goal.meet-requires
meet-requires c = (c.requires.0, omega (arith, c.loop-left.invariant.0, c.loop-left-test.true, c.power-left.ensures, power_low c.requires.2))

pub overflow_add-goal : goal.overflow_add-goal
overflow_add-goal c =
    let F = sought_next _ _ _ _ c.loop-left.found (Some c.in-Some.best) (omega (arith, c.loop-left.invariant.0, c.power-left.ensures, c.loop-left-test.true)) (sought_at _ _ _ _ (omega (arith, c.loop-left-test.true)) c.loop-left.invariant.1) c.loop-left.invariant.2 (sym c.in-Some.is ∙ c.meet.ensures) in
    omega (arith, goal_small _ _ _ c.requires.0.tables F)

pub loop-left-preserved-in-Some : goal.loop-left-preserved-in-Some
loop-left-preserved-in-Some c =
    (omega (arith, c.loop-left.invariant.0), sought_next _ _ _ _ c.loop-left.found (Some c.in-Some.best) (omega (arith, c.loop-left.invariant.0, c.power-left.ensures, c.loop-left-test.true)) (sought_at _ _ _ _ (omega (arith, c.loop-left-test.true)) c.loop-left.invariant.1) c.loop-left.invariant.2 (sym c.in-Some.is ∙ c.meet.ensures), refl)

pub loop-left-preserved : goal.loop-left-preserved
loop-left-preserved c =
    (omega (arith, c.loop-left.invariant.0), sought_next _ _ _ _ c.loop-left.found None (omega (arith, c.loop-left.invariant.0, c.power-left.ensures, c.loop-left-test.true)) (sought_at _ _ _ _ (omega (arith, c.loop-left-test.true)) c.loop-left.invariant.1) c.loop-left.invariant.2 (sym c.in_default.is ∙ c.meet.ensures), c.loop-left.invariant.2)

pub returns : goal.returns
returns c = c.unwrap_or.ensures ∙ found_best _ _ _ _ (sought_at _ _ _ _ (omega (arith, c.loop-left-test.false)) c.loop-left.invariant.1) c.requires.1 (power_low c.requires.2) c.last.ensures
