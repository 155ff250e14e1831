-- `bids::seven::seven` meets its contract: the application or the year is wrong, or the rest of rule 7 is asked.
use native.Mathlib.Omega.{arith}
use mathlib.Core.Path.{sym, ap}
use Rattle.rules.specs.File.{Bid}
use Rattle.rules.specs.Refusals.{seven_of}
use Rattle.laws_reading.specs.Walk.{given_no}
use Rattle.bids.proofs.Laws.{rest_asked}
use Rattle.bids.proofs.seven.seven.Goals as goal

pub returns-then-done-bid : goal.returns-then-done-bid
unfolding seven_of
returns-then-done-bid c =
    let e = c.read-bid.ensures in
    sym (given_no _ _ _ (λ h. omega (arith, ap (λ (b : Bid). b.app) e, ap (λ (b : Bid). b.year) e, h.0, h.1.0)))

pub returns : goal.returns
returns c = rest_asked _ _ _ _ c.held.ensures c.read-bid.ensures (omega arith) (omega arith)
