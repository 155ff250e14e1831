use native.Mathlib.Omega.{arith}
use native.Mathlib.Nat.{sub-zero}
use mathlib.Core.Path.{sym}
use Rattle.laws_reading.specs.Walk.{at_fault, goes_on_lem, at_end}
use Rattle.laws_reading.specs.Faults.{numbered}
use Rattle.bids.specs.Bids.{lowest_of}
use Rattle.bids.proofs.lowest.lowest.Goals as goal

pub loop-i-init : goal.loop-i-init
unfolding lowest_of
loop-i-init c = rw (sub-zero c.args.done.bids)

pub returns-in-Err : goal.returns-in-Err
returns-in-Err c = at_fault _ _ _ _ _ _ c.loop-i.invariant (omega arith) c.in-Err.ensures (numbered _)

pub loop-i-preserved : goal.loop-i-preserved
loop-i-preserved c = goes_on_lem _ _ _ _ _ _ c.loop-i.invariant (omega arith) (sym c.in_default.ensures)

pub returns : goal.returns
returns c = at_end _ _ _ _ _ _ c.loop-i.invariant (omega arith)
