-- The invariant: none of the bids passed counts less.
use Rattle.added.specs.Added.{Least}
use Rattle.added.proofs.whole.least.Given as goal

abbrev pub invariant-loop-place : goal.invariant-loop-place
invariant-loop-place l = Least l.table l.place l.c l.least
