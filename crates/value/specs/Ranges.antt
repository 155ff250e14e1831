-- The ranges of what a value is made of. Assumes nothing.
use Rattle.std.specs.Prelude.{ℕ, ◌≤◌}
use Rattle.rules.specs.Names.{highest_price}
use Rattle.rules.specs.Value.{most_energy, most_share}

pub record InRange (price reference energy share : ℕ) : Type 0 where
  pub price_ok : price ≤ highest_price
  pub reference_ok : reference ≤ highest_price
  pub energy_ok : energy ≤ most_energy
  pub share_ok : share ≤ most_share
