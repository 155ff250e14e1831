-- The factors of a bid of technology t in year y of a round. Assumes nothing.
use Rattle.std.specs.Prelude.{◌≡◌, ℕ, ◌-◌, ◌*◌, ◌≤◌}
use Rattle.rules.specs.Names.{whole, long_year, largest_capacity, highest_price, day_hours}
use Rattle.rules.specs.Value.{hours_of}
use Rattle.rules.specs.File.{Round, Bid, year_at, tech_at}
use Rattle.rows.specs.declared.factors.Factors.{Factors}

pub record FactorsOf (R : Round) (t : ℕ) (b : Bid) (y : ℕ) (f : Factors) : Type 0 where
  pub reference_is : f.reference ≡ (tech_at R.y R.techs t).reference y
  pub load_is : f.load ≡ (tech_at R.y R.techs t).load y
  pub hours_is : f.hours ≡ hours_of y b.year b.days (year_at R.years y).days
  pub capacity_is : f.capacity ≡ b.capacity
  pub kept_is : f.kept ≡ whole - (year_at R.years y).tlm
  pub rqm_is : f.rqm ≡ (tech_at R.y R.techs t).rqm

-- each is within the range of its field
pub record InScale (f : Factors) : Type 0 where
  pub reference_most : f.reference ≤ highest_price
  pub load_most : f.load ≤ whole
  pub hours_most : f.hours ≤ day_hours * long_year
  pub capacity_most : f.capacity ≤ largest_capacity
  pub kept_most : f.kept ≤ whole
  pub rqm_most : f.rqm ≤ whole
