-- Case by case.
use native.Mathlib.Omega.{arith}
use borrow.Author.Tests.{eq-eqb, ne_eqb}
use Rattle.rules.specs.Listing.{price_word}
use Rattle.lines.proofs.Laws.{printed_within}
use Rattle.lines.proofs.price.Goals as goal

pub returns-then-p-eq-NO_PRICE : goal.returns-then-p-eq-NO_PRICE
unfolding price_word
returns-then-p-eq-NO_PRICE c = rw (eq-eqb _ _ c.if-p-eq-NO_PRICE.true) (printed_within 27 (omega arith) c.word.ensures)

pub returns : goal.returns
unfolding price_word
returns c = rw (ne_eqb _ _ c.if-p-eq-NO_PRICE.false) c.field.ensures
