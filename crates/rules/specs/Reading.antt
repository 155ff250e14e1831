-- What reading a file answers, or reading one section of it; and how the code's answers say it. Assumes nothing.
use Rattle.std.specs.Prelude.{ℕ, ⊤, Result, Ok, Err}
use Rattle.rules.specs.Names.{ends_early, count_outside, year_broken, pot_broken, tech_broken, app_broken, bid_broken, price_twice}
use Rattle.rules.specs.Names.{bids_too_many, bytes_after, lowest_uneven, result_short}
use Rattle.rules.specs.declared.Sections.{Sections}
use Rattle.rules.specs.declared.Refusal.{Refusal}
use Rattle.rules.specs.declared.Rule.{Rule}
use Rattle.rules.specs.declared.Rule.TheVariants.{EndsEarly, CountOutside, YearBroken, PotBroken, TechBroken, AppBroken, BidBroken, PriceTwice}
use Rattle.rules.specs.declared.Rule.TheVariants.{BidsTooMany, BytesAfter, LowestUneven, ResultShort}

-- the sections, or a refusal's number and offset
pub data Reading : Type 0 where
  Accepted : (sections : Sections) → Reading
  Refused : (number at : ℕ) → Reading

-- ---- the code's answers

-- the number of a rule's refusal
abbrev pub number_of : Rule → ℕ
number_of EndsEarly = ends_early
number_of CountOutside = count_outside
number_of YearBroken = year_broken
number_of PotBroken = pot_broken
number_of TechBroken = tech_broken
number_of AppBroken = app_broken
number_of BidBroken = bid_broken
number_of PriceTwice = price_twice
number_of BidsTooMany = bids_too_many
number_of BytesAfter = bytes_after
number_of LowestUneven = lowest_uneven
number_of ResultShort = result_short

-- the number of a fault, 0 where there is none
abbrev pub fault_in : Result ⊤ Rule → ℕ
fault_in (Ok none) = 0
fault_in (Err rule) = number_of rule

abbrev pub reading_in : Result Sections Refusal → Reading
reading_in (Ok sections) = Accepted sections
reading_in (Err refusal) = Refused (number_of refusal.rule) refusal.at
