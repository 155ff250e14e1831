-- `bids::judged` meets its contract: what is left to judge from bid i on is the answer, and the bids before it are chained.
use mathlib.Core.Path.{◌≡◌}
use Prim.Native.Nat.{◌-◌, ◌*◌, ◌≤◌}
use lib.ListN.{length}
use Rattle.rules.specs.Names.{bid_width}
use Rattle.rules.specs.Refusals.{record_fault, bid_fault, scan}
use Rattle.rules.specs.Reading.{Accepted}
use Rattle.bids.specs.Bids.{tables_of, bids_of, Latest, Previous}
use Rattle.bids.proofs.judged.Given as goal

abbrev pub invariant-loop-i : goal.invariant-loop-i
invariant-loop-i l =
    (l.i * bid_width ≤ length l.recs) × (length l.latest ≡ length l.initial.latest) × (length l.previous ≡ length l.initial.previous) × Latest l.recs l.latest l.i
    × Previous l.recs l.previous l.i
    × (scan (record_fault l.recs bid_width (bid_fault (tables_of l.file l.recs l.done))) bid_width l.base l.i (l.done.bids - l.i) (Accepted l.done) ≡ bids_of l.file l.recs l.base l.done)
