-- `file::section::read_applications` meets its contract: the count is refused, or the records' answer is the section's.
use Prim.Native.Nat.{◌+◌, ◌≤◌}
use mathlib.Core.Path.{refl, ap}
use lib.ListN.{length}
use Rattle.rules.specs.Names.{count_width}
use native.Mathlib.Omega.{arith}
use Rattle.laws_reading.specs.Faults.{numbered}
use Rattle.file.proofs.Laws.{counted, Facts3, facts3, apps_refused, apps_read}
use Rattle.file.proofs.section.read_applications.Goals as goal
use Rattle.file.proofs.section.read_applications.Goals.{After-count_at-n}

-- what is known once the count is accepted: the records start within the file
room : (c : After-count_at-n) → let p = c.args in
    (p.past.applications_at + count_width ≤ length p.file.now) × Facts3 p.file.now p.past
room c = ((counted _ _ _ _ _ c.in_default.ensures refl).0, facts3 _ c.requires)

pub returns-in-Err : goal.returns-in-Err
returns-in-Err c = apps_refused _ c.requires c.in-Err.ensures (numbered _)

pub count_at-n-requires : goal.count_at-n-requires
count_at-n-requires c = omega (arith, counted _ _ _ _ _ c.in_default.ensures refl)

pub overflow_add-start : goal.overflow_add-start
overflow_add-start c = omega (arith, room (goal.at.overflow_add-start c).After-count_at-n)

pub overflow_add-next : goal.overflow_add-next
overflow_add-next c = omega (arith, room (goal.at.overflow_add-next c).After-count_at-n)

pub years-requires : goal.years-requires
years-requires c = omega (arith, room (goal.at.years-requires c).After-count_at-n)

pub records_after-requires : goal.records_after-requires
records_after-requires c = omega (arith, room (goal.at.records_after-requires c).After-count_at-n)

pub applications-requires : goal.applications-requires
applications-requires c = omega (arith, room (goal.at.applications-requires c).After-count_at-n, ap length c.years.ensures)

pub returns : goal.returns
returns c =
    apps_read _ c.requires c.in_default.ensures refl c.count_at-n.ensures.0
    c.years.ensures
    c.records_after.ensures.0 c.applications.ensures
