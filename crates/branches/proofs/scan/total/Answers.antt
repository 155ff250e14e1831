-- `branches::scan::total` meets its contract.
use native.Mathlib.Omega.{arith}
use Rattle.branches.proofs.Scans.{years_low, total_is}
use Rattle.branches.proofs.scan.total.Goals as goal

pub bounds-table-t : goal.bounds-table-t
bounds-table-t c = omega (arith, years_low _ _ c.part_years.ensures.1 c.requires.1.years, c.requires.0.some, c.requires.0.years)

pub returns : goal.returns
returns c = total_is _ _ _ _ c.part_years.ensures.0 c.part_cost-low.ensures.0
