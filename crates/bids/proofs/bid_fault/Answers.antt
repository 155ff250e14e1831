-- `bids::bid_fault` meets its contract: 1 comes first, then 7, 8 and 9.
use native.Mathlib.Omega.{arith}
use mathlib.Core.Path.{sym, ap, ◌∙◌}
use Rattle.rules.specs.Reading.{fault_in}
use Rattle.rules.specs.Refusals.{record_fault}
use Rattle.laws_reading.specs.Walk.{given_yes, given_no}
use Rattle.bids.proofs.Laws.{seven_then}
use Rattle.bids.proofs.bid_fault.Goals as goal

pub returns-then-recs-i-lt-BID_WIDTH : goal.returns-then-recs-i-lt-BID_WIDTH
unfolding record_fault
returns-then-recs-i-lt-BID_WIDTH c = sym (given_no _ _ _ (λ h. omega arith))

pub returns : goal.returns
unfolding record_fault
returns c = ap fault_in c.and.ensures ∙ seven_then _ _ _ _ c.seven.ensures c.eight_nine.ensures ∙ sym (given_yes _ _ _ (omega arith))
