-- `file::section::read_years` meets its contract: the count is refused, or the records' answer is the section's.
use Prim.Native.Nat.{◌≤◌}
use mathlib.Core.Path.{refl}
use lib.ListN.{length}
use Rattle.rules.specs.Names.{count_width}
use Rattle.laws_reading.specs.Faults.{numbered}
use Rattle.file.proofs.Laws.{counted, years_refused, years_read}
use Rattle.file.proofs.section.read_years.Goals as goal
use Rattle.file.proofs.section.read_years.Goals.{In_default}

pub returns-in-Err : goal.returns-in-Err
returns-in-Err c = years_refused _ c.in-Err.ensures (numbered _)

-- once the count is accepted, it stands in the file
room : (c : In_default) → count_width ≤ length c.args.file.now
room c = (counted _ _ _ _ _ c.in_default.ensures refl).0

pub count_at-n-requires : goal.count_at-n-requires
count_at-n-requires c = room (goal.at.count_at-n-requires c).In_default

pub returns : goal.returns
returns c =
    years_read _ c.in_default.ensures refl c.count_at-n.ensures.0 c.records_after.ensures.0 c.years.ensures
