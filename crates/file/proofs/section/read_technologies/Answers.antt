-- `file::section::read_technologies` meets its contract: the count is refused, or the records' answer is the section's.
use native.Mathlib.Omega.{arith}
use Prim.Native.Nat.{◌+◌, ◌*◌, ◌≤◌}
use mathlib.Core.Path.{refl}
use lib.ListN.{length}
use Rattle.rules.specs.Names.{count_width, most_years, most_techs, tech_width}
use Rattle.laws_reading.specs.Faults.{numbered}
use Rattle.file.proofs.Laws.{counted, few_bytes, facts2, techs_refused, techs_read}
use Rattle.file.proofs.section.read_technologies.Goals as goal
use Rattle.file.proofs.section.read_technologies.Goals.{After-count_at-n}

pub returns-in-Err : goal.returns-in-Err
returns-in-Err c = techs_refused _ c.requires c.in-Err.ensures (numbered _)

pub count_at-n-requires : goal.count_at-n-requires
count_at-n-requires c = (counted _ _ _ _ _ c.in_default.ensures refl).0

-- once the count is accepted, the records start within the file, and are few and small
room : (k : After-count_at-n) → let p = k.args in
    (p.past.technologies_at + count_width ≤ length p.file.now)
    × ((p.past.years ≤ most_years) × (k.count_at-n.result * tech_width p.past.years ≤ most_techs * tech_width most_years))
room k =
    let n = counted _ _ _ _ _ k.in_default.ensures refl in
    let m = (facts2 _ k.requires).most in
    (n.0, (m, few_bytes most_techs (tech_width most_years) k.count_at-n.result (tech_width k.args.past.years) (omega (arith, n)) (omega arith)))

pub place-requires : goal.place-requires
place-requires c = omega (arith, room (goal.at.place-requires c).After-count_at-n)

pub overflow_add-start : goal.overflow_add-start
overflow_add-start c = omega (arith, room (goal.at.overflow_add-start c).After-count_at-n)

pub overflow_add-next : goal.overflow_add-next
overflow_add-next c = omega (arith, room (goal.at.overflow_add-next c).After-count_at-n, c.place.ensures)

pub records_after-requires : goal.records_after-requires
records_after-requires c = omega (arith, room (goal.at.records_after-requires c).After-count_at-n)

pub technologies-requires : goal.technologies-requires
technologies-requires c = omega (arith, room (goal.at.technologies-requires c).After-count_at-n)

pub returns : goal.returns
returns c =
    techs_read _ c.requires c.in_default.ensures refl c.count_at-n.ensures.0
    c.place.ensures
    c.records_after.ensures.0 c.technologies.ensures
