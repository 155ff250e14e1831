-- Case by case.
use native.Mathlib.Omega.{arith}
use borrow.Author.Tests.{eq-eqb, ne_eqb}
use Rattle.rules.specs.Listing.{outcome_word}
use Rattle.lines.proofs.Laws.{printed_within}
use Rattle.lines.proofs.outcome.Goals as goal

pub returns-then-o-eq-ADMINISTRATIVE : goal.returns-then-o-eq-ADMINISTRATIVE
unfolding outcome_word
returns-then-o-eq-ADMINISTRATIVE c = rw (eq-eqb _ _ c.if-o-eq-ADMINISTRATIVE.true) (printed_within 15 (omega arith) c.word.ensures)

pub returns-then-o-eq-AUCTIONED : goal.returns-then-o-eq-AUCTIONED
unfolding outcome_word
returns-then-o-eq-AUCTIONED c = rw (ne_eqb _ _ c.if-o-eq-ADMINISTRATIVE.false, eq-eqb _ _ c.if-o-eq-AUCTIONED.true) (printed_within 15 (omega arith) c.word-then-o-eq-AUCTIONED.ensures)

pub returns : goal.returns
unfolding outcome_word
returns c = rw (ne_eqb _ _ c.if-o-eq-ADMINISTRATIVE.false, ne_eqb _ _ c.if-o-eq-AUCTIONED.false) (printed_within 15 (omega arith) c.word-2.ensures)
