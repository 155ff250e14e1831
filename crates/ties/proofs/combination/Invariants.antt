-- The invariant: the set has the bids passed that are in the combination.
use mathlib.Core.Path.{◌≡◌}
use Rattle.ties.specs.Ties.{combination_of}
use Rattle.ties.proofs.combination.Given as goal

abbrev pub invariant-loop-j : goal.invariant-loop-j
invariant-loop-j l = l.out ≡ combination_of l.tied.bids l.tied.ranks l.mask l.j
