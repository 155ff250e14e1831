-- `bids::lowest::lowest` meets its contract: what is left to judge from bid i on is the answer.
use mathlib.Core.Path.{◌≡◌}
use Prim.Native.Nat.{◌-◌}
use Rattle.rules.specs.Names.{bid_width}
use Rattle.rules.specs.Reading.{Accepted}
use Rattle.rules.specs.Refusals.{eleven_of, scan}
use Rattle.bids.specs.Bids.{alone, lowest_of}
use Rattle.bids.proofs.lowest.lowest.Given as goal

abbrev pub invariant-loop-i : goal.invariant-loop-i
invariant-loop-i l =
    scan (eleven_of (alone l.recs l.done.bids)) bid_width l.base l.i (l.done.bids - l.i) (Accepted l.done) ≡ lowest_of l.recs l.base l.done
