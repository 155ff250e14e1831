-- Laws of a bid's value, over the definitions alone. Assumes nothing.
use Rattle.std.specs.Prelude.{◌≡◌, ℕ, ◌+◌, ◌-◌, ◌*◌, ◌≤◌, ◌<◌}
use Rattle.std.proofs.Common.{arith, mul-le-mul, mul-le-mul_right}
use Rattle.rules.specs.Names.{highest_price, whole}
use Rattle.rules.specs.Value.{ceil_div, penny, exact_parts, dearest}
use Rattle.value.specs.Ranges.{InRange}

module _ (price reference energy share : ℕ) where
  -- the exact cost in parts, and its value
  abbrev exact : ℕ
  exact = (price - reference) * energy * share

  abbrev value : ℕ
  value = ceil_div exact penny

  -- the value is the exact cost, and less than a penny more
  pub covers : exact ≤ value * penny
  covers = omega arith

  pub close : value * penny < exact + penny
  close = omega arith

  -- and the only whole number of pence that is
  pub only : (v : ℕ) → exact ≤ v * penny → v * penny < exact + penny → v ≡ value
  only v p q = omega arith

  -- at or below the reference price it is 0
  pub none_below : price ≤ reference → value ≡ 0
  none_below h = let z : price - reference ≡ 0 = omega arith in rw z (omega arith)

  -- within the ranges it is at most the dearest
  pub at_most_lem : InRange price reference energy share → value ≤ dearest
  at_most_lem r =
      let d : price - reference ≤ highest_price = omega (arith, r.price_ok) in
      omega (arith, mul-le-mul (mul-le-mul d r.energy_ok) r.share_ok)

  -- a higher price costs no less
  pub mono_price : (higher : ℕ) → price ≤ higher → value ≤ ceil_div ((higher - reference) * energy * share) penny
  mono_price higher h =
      let d : price - reference ≤ higher - reference = omega arith in
      omega (arith, mul-le-mul_right (energy * share) d)

-- document 01's exact cost, with load factor × energy and (1 − TLM) × RQM each taken as one number
pub exact_is : (price reference load energy tlm rqm : ℕ)
    → exact_parts price reference load energy tlm rqm ≡ exact price reference (load * energy) ((whole - tlm) * rqm)
unfolding exact_parts
exact_is price reference load energy tlm rqm = omega arith
