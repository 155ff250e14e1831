-- `branches::scan::above` meets its contract.
use native.Mathlib.Omega.{arith}
use Rattle.branches.proofs.Scans.{upper_is, years_low}
use Rattle.branches.proofs.scan.above.Goals as goal

pub returns : goal.returns
returns c = (
  upper_is _ _ _ c.part_years-a.ensures.0 c.part_years-b.ensures.0 c.part_years-d.ensures.0 c.part_cost-e.ensures.0 c.part_cost-f.ensures.0
      c.part_cost-g.ensures.0,
  record {
    years = years_low _ _ c.part_years-a.ensures.1 (years_low _ _ c.part_years-b.ensures.1 c.part_years-d.ensures.1);
    sum = omega (arith, c.part_cost-e.ensures.1, c.part_cost-f.ensures.1, c.part_cost-g.ensures.1);
  },
)
