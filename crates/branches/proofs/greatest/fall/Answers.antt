-- `branches::greatest::fall` meets its contract.
use mathlib.Core.Path.{refl}
use Rattle.branches.proofs.Best.{fallen_short, fallen_all, over}
use Rattle.branches.proofs.greatest.fall.Goals as goal

pub returns-then-left-gt0 : goal.returns-then-left-gt0
returns-then-left-gt0 c = fallen_short _ _ _ c.requires.searching.0.ready c.limit-limit.ensures c.shorts.ensures

pub returns-then-limit-goal : goal.returns-then-limit-goal
returns-then-limit-goal c = fallen_all _ _ _ (λ m. over _ _ _ c.requires.searching.0.ready c.limit-limit.ensures c.if-limit-goal.true m)

pub ends-requires : goal.ends-requires
ends-requires c = record { searching = c.requires.searching; left_nonzero = (c.requires.left_nonzero.0, c.requires.left_nonzero.1, record { places = 15; is = refl }) }

pub ends-requires-2 : goal.ends-requires-2
ends-requires-2 c = record { searching = c.requires.searching; left_nonzero = (c.requires.left_nonzero.0, c.requires.left_nonzero.1, record { places = 10; is = refl }) }

pub ends-requires-3 : goal.ends-requires-3
ends-requires-3 c = record { searching = c.requires.searching; left_nonzero = (c.requires.left_nonzero.0, c.requires.left_nonzero.1, record { places = 5; is = refl }) }

pub returns : goal.returns
returns c = fallen_short _ _ _ c.requires.searching.0.ready c.limit-limit.ensures c.shorts-2.ensures
