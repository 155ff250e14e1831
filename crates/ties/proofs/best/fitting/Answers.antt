-- The invariant: every column passed fits.
use borrow.Author.Rules.{rules}
use Rattle.arrays.proofs.Laws.{done}
use Rattle.totals.specs.Totals.{fits_to}
use Rattle.totals.proofs.Laws.{fits_more}
use Rattle.ties.proofs.Laws.{fits_stops, ok_is}
use Rattle.ties.proofs.best.fitting.Goals as goal

pub loop-c-init : goal.loop-c-init
unfolding fits_to
loop-c-init c = search rules

pub returns-then-joint-limit : goal.returns-then-joint-limit
returns-then-joint-limit c = ok_is _ _ _ _ c.union-t.ensures.0
    (fits_stops _ _ _ _ c.joint.ensures c.limit.ensures c.if-joint-limit.true c.loop-c-test.true)

pub loop-c-preserved : goal.loop-c-preserved
loop-c-preserved c = fits_more _ _ _ c.joint.ensures c.limit.ensures c.if-joint-limit.false c.loop-c.invariant

pub returns : goal.returns
returns c = ok_is _ _ _ _ c.union-t.ensures.0 (done (fits_to _ _) c.loop-c.invariant c.loop-c.auto.c-end c.loop-c-test.false)
