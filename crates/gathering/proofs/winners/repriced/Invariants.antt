-- The invariant: the years passed have their prices.
use mathlib.Core.Path.{◌≡◌}
use Rattle.combinations.specs.Combinations.{repriced_to}
use Rattle.gathering.proofs.winners.repriced.Given as goal

abbrev pub invariant-loop-d : goal.invariant-loop-d
invariant-loop-d l = l.prices ≡ repriced_to l.initial.prices l.price l.t l.d
