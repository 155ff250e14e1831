-- The invariant: what the bid counts is added in the columns passed.
use native.Mathlib.Omega.{arith}
use mathlib.Core.Path.{refl}
use Rattle.arrays.specs.Sets.{fill}
use Rattle.totals.proofs.Laws.{added_next, added_low}
use Rattle.totals.proofs.add.Goals as goal

pub loop-c-init : goal.loop-c-init
unfolding fill
loop-c-init c = refl

pub overflow_add-row : goal.overflow_add-row
overflow_add-row c =
    omega (
      arith,
      c.worth.ensures.small,
      added_low _ _ _ c.loop-c.invariant (c.requires.low _ c.loop-c-test.true),
    )

pub loop-c-preserved : goal.loop-c-preserved
loop-c-preserved c = added_next _ _ _ c.loop-c.invariant c.worth.ensures.value
