-- A valuation line by line: each line is the one above it over a scale, rounded up, and the last is the value. Assumes nothing.
use Rattle.std.specs.Prelude.{◌≡◌, ℕ, ◌-◌, ◌*◌, ◌≤◌}
use Rattle.rules.specs.Value.{ceil_div, penny, dearest}
use Rattle.value.specs.Scales.{price_scale, load_scale, capacity_scale, tlm_scale, rqm_scale}
use Rattle.value.specs.Wide.{number_of}
use Rattle.value.specs.declared.Valuation.{Valuation}

pub record LineByLine (price reference energy share : ℕ) (v : Valuation) : Type 0 where
  pub margin_is : v.margin ≡ price - reference
  pub product_is : number_of v.product ≡ (price - reference) * energy * share
  pub price_line : number_of v.by_price ≡ ceil_div (number_of v.product) price_scale
  pub load_line : number_of v.by_load ≡ ceil_div (number_of v.by_price) load_scale
  pub capacity_line : number_of v.by_capacity ≡ ceil_div (number_of v.by_load) capacity_scale
  pub tlm_line : v.by_tlm ≡ ceil_div (number_of v.by_capacity) tlm_scale
  pub rqm_line : v.by_rqm ≡ ceil_div v.by_tlm rqm_scale
  -- which is the exact cost, rounded up once
  pub once : v.by_rqm ≡ ceil_div ((price - reference) * energy * share) penny
  pub small : v.by_rqm ≤ dearest
