-- `ties::listing::kept` meets its contract.
use mathlib.Core.Path.{sym, ◌∙◌}
use borrow.Author.Tests.{eqb-true, eqb-false}
use Rattle.ties.proofs.Laws.{kept_misfit, kept_less, kept_full}
use Rattle.ties.proofs.listing.kept.Goals as goal
use Rattle.ties.proofs.listing.kept.Goals.{then-fitting, else-fitting}

pub returns-then-last-most : goal.returns-then-last-most
returns-then-last-most c = elim c.if-fitting.branch [
  | then-fitting w ↦ kept_full _ _ _ _ _ _ c.fitting.ensures w.if-fitting.true w.last.ensures (eqb-true _ _ (sym w.value-is ∙ c.if-last-most.true)) c.full.ensures
  | else-fitting w ↦ cc w.if-fitting.false
]

pub returns-else-last-most : goal.returns-else-last-most
returns-else-last-most c = c.if-last-most.false ∙ elim c.if-fitting.branch [
  | then-fitting w ↦ kept_less _ _ _ _ _ _ c.fitting.ensures w.if-fitting.true w.last.ensures (eqb-false _ _ (sym w.value-is ∙ c.if-last-most.false))
  | else-fitting w ↦ kept_misfit _ _ _ _ _ _ c.fitting.ensures w.if-fitting.false
]
