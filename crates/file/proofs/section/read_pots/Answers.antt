-- `file::section::read_pots` meets its contract: the count is refused, or the records' answer is the section's.
use native.Mathlib.Omega.{arith}
use Prim.Native.Nat.{◌+◌, ◌*◌, ◌≤◌}
use mathlib.Core.Path.{refl, ap}
use lib.ListN.{length}
use Rattle.rules.specs.Names.{count_width, cap_width, drawn_width, most_years, most_pots, pot_width}
use Rattle.rules.specs.File.{pots_told}
use Rattle.laws_reading.specs.Faults.{numbered}
use Rattle.file.proofs.Laws.{counted, gained_found, few_bytes, facts1, pots_refused, pots_read}
use Rattle.file.proofs.section.read_pots.Goals as goal
use Rattle.file.proofs.section.read_pots.Goals.{After-pots_told-n}

pub returns-in-Err : goal.returns-in-Err
returns-in-Err c = pots_refused _ c.requires c.in-Err.ensures (numbered _)

pub count_at-count-requires : goal.count_at-count-requires
count_at-count-requires c = (counted _ _ _ _ _ c.in_default.ensures refl).0

-- once the count is accepted, the records start within the file, and are few and small
room : (k : After-pots_told-n) → let p = k.args in
    (p.past.pots_at + count_width ≤ length p.file.now)
    × ((p.past.years ≤ most_years)
    × (k.pots_told-n.result * pot_width p.past.years k.gained_told-gained.result ≤ most_pots * pot_width most_years (cap_width + drawn_width)))
room k =
    let n = counted _ _ _ _ _ k.in_default.ensures refl in
    let few : k.pots_told-n.result ≤ most_pots = omega (arith, n, k.pots_told-n.ensures.0, ap pots_told k.count_at-count.ensures.0) in
    let m = (facts1 _ k.requires).most in (
      n.0,
      (
        m,
        few_bytes most_pots (pot_width most_years (cap_width + drawn_width)) k.pots_told-n.result
            (pot_width k.args.past.years k.gained_told-gained.result) few (omega (arith, k.gained_told-gained.ensures.1)),
      ),
    )

pub place-requires : goal.place-requires
place-requires c = omega (arith, room (goal.at.place-requires c).After-pots_told-n, c.gained_told-gained.ensures.1)

pub overflow_add-start : goal.overflow_add-start
overflow_add-start c = omega (arith, room (goal.at.overflow_add-start c).After-pots_told-n)

pub overflow_add-next : goal.overflow_add-next
overflow_add-next c = omega (arith, room (goal.at.overflow_add-next c).After-pots_told-n, c.place.ensures)

pub records_after-requires : goal.records_after-requires
records_after-requires c = omega (arith, room (goal.at.records_after-requires c).After-pots_told-n)

pub pots-requires : goal.pots-requires
pots-requires c =
    ((room (goal.at.pots-requires c).After-pots_told-n).1.0, (gained_found _ c.gained_told-gained.ensures.0, omega (arith, room (goal.at.pots-requires c).After-pots_told-n)))

pub returns : goal.returns
returns c =
    pots_read _ c.requires c.in_default.ensures refl c.count_at-count.ensures.0
    c.gained_told-gained.ensures.0 c.pots_told-n.ensures.0
    c.place.ensures
    c.records_after.ensures.0 c.pots.ensures
