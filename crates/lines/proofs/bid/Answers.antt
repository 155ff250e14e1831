-- Case by case.
use native.Mathlib.Omega.{arith}
use borrow.Author.Tests.{eq-eqb, ne_eqb}
use Rattle.rules.specs.Listing.{bid_word}
use Rattle.lines.proofs.Laws.{printed_within}
use Rattle.lines.proofs.bid.Goals as goal

pub returns-then-b-eq-NO_BID : goal.returns-then-b-eq-NO_BID
unfolding bid_word
returns-then-b-eq-NO_BID c = rw (eq-eqb _ _ c.if-b-eq-NO_BID.true) (printed_within 25 (omega arith) c.word.ensures)

pub returns : goal.returns
unfolding bid_word
returns c = rw (ne_eqb _ _ c.if-b-eq-NO_BID.false) c.field.ensures
