-- The listing of tellings: that of the round that they tell. Assumes nothing.
use Rattle.std.specs.Prelude.{ℕ, ◌+◌, ◌*◌, List, ◌++◌, get_or, ltb}
use Rattle.rules.specs.Names.{no_price, most_years, most_pots, most_apps, most_bids}
use Rattle.rules.specs.Lists.{pick}
use Rattle.rules.specs.Bytes.{each}
use Rattle.rules.specs.Listing.{pot_line, year_line, app_line, bid_line}
use Rattle.rules.specs.declared.Sections.{Sections}
use Rattle.result.specs.declared.PotTold.{PotTold}
use Rattle.result.specs.declared.Tellings.{Tellings}
use Rattle.result.specs.Tells.{untold, no_pot}

-- ---- the most bytes of a line: of a pot, a year, an application, a bid, a refusal; of a pot with its years, and of a listing
abbrev pub longest_pot_line : ℕ
longest_pot_line = 40

abbrev pub longest_year : ℕ
longest_year = 80

abbrev pub longest_app : ℕ
longest_app = 83

abbrev pub longest_bid : ℕ
longest_bid = 53

abbrev pub longest_refusal : ℕ
longest_refusal = 53

abbrev pub longest_pot : ℕ
longest_pot = longest_pot_line + longest_year * most_years

abbrev pub longest : ℕ
longest = longest_pot * most_pots + longest_app * most_apps + longest_bid * most_bids

-- ---- the lines of a pot
module _ (sections : Sections) (told : PotTold) where
  -- "a valuation-only year has no price"
  unfoldable pub price_told : (y : ℕ) → ℕ
  price_told y = pick (ltb y sections.deliveries) (get_or told.prices y 0) no_price

  unfoldable pub year_line_told : (y : ℕ) → List ℕ
  year_line_told y = year_line y (price_told y) (get_or told.totals y 0)

  -- pot p and its years
  unfoldable pub pot_lines_told : (p : ℕ) → List ℕ
  pot_lines_told p = pot_line p told.outcome ++ each year_line_told sections.years

-- ---- the lines of a round
module _ (t : Tellings) where
  abbrev pub pot_listed : Sections → (p : ℕ) → List ℕ
  pot_listed sections p = pot_lines_told sections (get_or t.pots p no_pot) p

  unfoldable pub app_line_told : (a : ℕ) → List ℕ
  app_line_told a = let x = get_or t.apps a untold in app_line a x.won x.paid x.bid

  unfoldable pub bid_line_told : (k : ℕ) → List ℕ
  bid_line_told k = bid_line k (get_or t.reasons k 0)

  unfoldable pub lines_told : Sections → List ℕ
  lines_told sections =
      (each (pot_listed sections) sections.pots ++ each app_line_told sections.applications) ++ each bid_line_told sections.bids
