-- What is to stand in the sheet of a pot for one bid, and for one application at its administrative price. Assumes nothing.
use Rattle.std.specs.Prelude.{ℕ, ◌+◌, ◌-◌, ◌*◌, ◌≤◌, List, [], ◌∷◌, length}
use Rattle.rules.specs.Names.{count_width, whole}
use Rattle.rules.specs.Lists.{pick}
use Rattle.rules.specs.File.{Round, Bid, year_at, tech_at, bid_at}
use Rattle.rules.specs.Round.{Row, blank, energy_of, at_admin_price, mine, app_mine, row_for}
use Rattle.rules.specs.declared.Sections.{Sections}
use Rattle.laws_reading.specs.Reading.{Sound}
use Rattle.layout.specs.Layout.{years_in, pots_in, technologies_in, applications_in, bids_in}
use Rattle.sheet.specs.Sheet.{absent, entered}

-- the round that a file shows whose sections these are: each is the part of the file that it occupies
abbrev pub round_in : List ℕ → Sections → Round
round_in s sections = record {
  years = years_in s sections;
  pots = pots_in s sections;
  techs = technologies_in s sections;
  apps = applications_in s sections;
  bids = bids_in s sections;
  y = sections.years;
  d = sections.deliveries;
  c = sections.gained;
  p = sections.pots;
  t = sections.technologies;
  n = sections.applications;
  b = sections.bids;
}

-- the sections stand one after the other in the file, and its round is sound
pub record Held (s : List ℕ) (sections : Sections) : Type 0 where
  pub sound : Sound (round_in s sections)
  pub one : count_width ≤ sections.pots_at
  pub two : sections.pots_at + count_width ≤ sections.technologies_at
  pub three : sections.technologies_at + count_width ≤ sections.applications_at
  pub four : sections.applications_at + count_width ≤ sections.bids_at
  pub five : sections.bids_at + count_width ≤ length s

-- ---- what is to stand in the sheet

-- the row of bid k in pot p, and of application a, as the clearing reads them
unfoldable pub row_of : Round → (p k : ℕ) → Row
row_of R p k = pick (mine R p k) (row_for R (bid_at R.bids k)) blank

unfoldable pub admin_row : Round → (p a : ℕ) → Row
admin_row R p a = pick (app_mine R p a) (row_for R (at_admin_price R a)) blank

-- the numbers of a bid's row
unfoldable pub row_numbers : Round → (p k : ℕ) → List ℕ
row_numbers R p k =
    let r = row_of R p k in
    pick (mine R p k) entered absent ∷ r.bid.app ∷ r.bid.year ∷ r.bid.price ∷ r.draw ∷ r.admin ∷ []

-- the figures of a row in year y
unfoldable pub figure_numbers : Round → Row → (y : ℕ) → List ℕ
figure_numbers R r y =
    r.reference y ∷ (r.load y * energy_of R.years r.bid y) ∷ ((whole - (year_at R.years y).tlm) * r.rqm) ∷ []

-- those of a bid of technology t
unfoldable pub figures_in : Round → (t : ℕ) → Bid → (y : ℕ) → List ℕ
figures_in R t b y =
    let r = tech_at R.y R.techs t in
    r.reference y ∷ (r.load y * energy_of R.years b y) ∷ ((whole - (year_at R.years y).tlm) * r.rqm) ∷ []
