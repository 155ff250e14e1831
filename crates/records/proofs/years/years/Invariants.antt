-- `records::years::years` meets its contract: before year y the delivery years are counted, and what is left to judge is the answer.
use mathlib.Core.Path.{◌≡◌}
use Prim.Native.Nat.{◌-◌, ◌*◌, ◌≤◌}
use lib.ListN.{length}
use Rattle.rules.specs.Names.{year_width}
use Rattle.rules.specs.File.{deliveries}
use Rattle.rules.specs.Refusals.{record_fault, year_fault, scan}
use Rattle.rules.specs.Reading.{Accepted}
use Rattle.records.specs.Records.{with_years, years_of}
use Rattle.records.proofs.years.years.Given as goal

abbrev pub invariant-loop-y : goal.invariant-loop-y
invariant-loop-y l =
    (l.y * year_width ≤ length l.recs) × (l.deliveries ≤ l.y) × (l.deliveries ≡ deliveries l.recs l.y)
    × (scan (record_fault l.recs year_width (year_fault l.recs)) year_width l.base l.y (l.n - l.y) (Accepted (with_years l.n (deliveries l.recs l.n) l.base)) ≡ years_of l.recs l.n l.base)
