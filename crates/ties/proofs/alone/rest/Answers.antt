-- The invariant: each place passed holds its test.
use borrow.Author.Rules.{rules}
use mathlib.Core.Path.{◌∙◌}
use Rattle.arrays.proofs.Laws.{fill_next}
use Rattle.arrays.specs.Sets.{fill, none}
use Rattle.ties.proofs.Laws.{and_yes, and_no, keeps_is}
use Rattle.ties.proofs.alone.rest.Goals as goal
use Rattle.ties.proofs.alone.rest.Goals.{then-set-k, else-set-k}

pub loop-k-init : goal.loop-k-init
unfolding fill none
loop-k-init c = search rules

pub loop-k-preserved : goal.loop-k-preserved
loop-k-preserved c = fill_next _ _ _ c.loop-k.invariant (keeps_is _ _ _ _ _ _
    (elim c.if-set-k.branch [ then-set-k w ↦ w.out-is ∙ and_yes w.if-set-k.true w.fits_alone.ensures | else-set-k w ↦ w.out-is ∙ w.if-set-k.false ∙ and_no _ w.if-set-k.false ]))
