-- `combinations::places::top` meets its contract.
use Prim.Native.Nat.{ℕ, ◌^◌, ◌≤◌, ◌<◌}
use native.Mathlib.Decide.{dec_lt}
use native.Mathlib.Omega.{arith}
use lib.Pow.{pow_mono}
use Rattle.combinations.specs.Combinations.{part_size, part_places}
use Rattle.combinations.proofs.places.top.Goals as goal

-- the highest place of a number of one part is one of the part's
place : (r v : ℕ) → 2 ^ r ≤ v → v < part_size → r < part_places
place r v h g =
    elim (dec_lt r part_places) [
      | yes y ↦ y
      | no n ↦ let m : 2 ^ part_places ≤ 2 ^ r = pow_mono {i = part_places} {j = r} (omega (arith, n)) in absurd (omega arith)
    ]

pub returns : goal.returns
returns c = (place _ _ c.ilog2.ensures.power_le c.requires.1, c.ilog2.ensures.power_le, c.ilog2.ensures.next_power_gt)
