-- Case by case.
use native.Mathlib.Omega.{arith}
use borrow.Author.Tests.{eq-eqb, ne_eqb}
use Rattle.rules.specs.Listing.{app_line}
use Rattle.lines.proofs.Laws.{printed_within}
use Rattle.lines.proofs.application_line.Goals as goal

pub returns-then-won-eq0 : goal.returns-then-won-eq0
unfolding app_line
returns-then-won-eq0 c = rw (eq-eqb _ _ c.if-won-eq0.true) (printed_within 83 (omega arith) c.lost_line.ensures)

pub returns : goal.returns
unfolding app_line
returns c = rw (ne_eqb _ _ c.if-won-eq0.false) c.won_line.ensures
