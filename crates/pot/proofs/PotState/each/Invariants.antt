-- The invariant: the bids of the set that were passed have become what they become.
use Rattle.arrays.specs.Sets.{members}
use Rattle.pot.specs.Marks.{Each}
use Rattle.pot.proofs.PotState.each.Given as goal

abbrev pub invariant-loop-k : goal.invariant-loop-k
invariant-loop-k g l = Each (λ s k r. goal.F-post g l.mark s k r) l.fn.self (members l.set l.k) l.t
