-- The invariant: `sum` is the total of the applications passed, each at most the dearest.
use native.Mathlib.Omega.{arith}
use mathlib.Core.Path.{refl, ◌∙◌}
use Rattle.rules.specs.Lists.{sum}
use Rattle.totals.specs.Totals.{admin_total_of}
use Rattle.totals.proofs.Laws.{admin_hit, admin_miss}
use Rattle.totals.proofs.admin_total.Goals as goal
use Rattle.totals.proofs.admin_total.Goals.{else-in_test, then-in_test}

pub loop-a-init : goal.loop-a-init
unfolding admin_total_of sum
loop-a-init c = (refl, omega arith)

pub loop-a-preserved : goal.loop-a-preserved
loop-a-preserved c =
    let inv = c.loop-a.invariant in
    let tested = c.in_test.ensures in (
      elim c.if-in_test.branch [ then-in_test w ↦ w.sum-is ∙ admin_hit _ _ _ _ tested inv.0 w.if-in_test.true w.admin_price.ensures w.valued-sum.ensures.0 | else-in_test w ↦ w.sum-is ∙ admin_miss _ _ _ _ tested inv.0 w.if-in_test.false ],
      elim c.if-in_test.branch [ then-in_test w ↦ omega (arith, w.valued-sum.ensures.1) | else-in_test w ↦ omega arith ],
    )
