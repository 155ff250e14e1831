-- The sheet of a pot: its limits, its drawn number, its bids, its applications' administrative prices, the rows of all bids, and the capacities and yearly
-- figures of bids and applications, as numbers in one list; and the pot that it shows. How much of the list is used, a size says. Assumes nothing.
use Rattle.std.specs.Prelude.{ℕ, zero, suc, ◌+◌, ◌-◌, ◌*◌, ◌≤◌, ◌<◌, min, Bool, true, not, ◌≡◌, List, [], ◌∷◌, eqb, ltb, get_or}
use Rattle.std.proofs.Math.Option.{Option, none, some}
use Rattle.std.specs.declared.option.Option as code
use Rattle.std.specs.Prelude.{None, Some}
use Rattle.rules.specs.Names.{most_bids, most_apps, most_years, most_deliveries, highest_price, highest_budget, largest_capacity, pence_per_pound}
use Rattle.rules.specs.Lists.{pick, sift, below}
use Rattle.rules.specs.Value.{penny, most_energy, most_share}
use Rattle.rules.specs.Pot.{Pot}
use Rattle.sheet.specs.declared.Size.{Size}

-- ---- what stands where: a limit for each column, the drawn number, the bids of the pot, the administrative prices of its applications, the figures, and last
-- the rows of the bids: there is no number after them, so that a bid past the last has a row of zeros

-- the columns of a row of totals: the years' money, and after it the capacity, where the pot has a cap on it
abbrev pub columns : ℕ
columns = most_years + 1

-- the numbers of a bid's row; of a capacity, of the figures in a year, and of the capacity and those in all years
abbrev pub row_width : ℕ
row_width = 6

abbrev pub capacity_width : ℕ
capacity_width = 1

abbrev pub figure_width : ℕ
figure_width = 3

abbrev pub figures_width : ℕ
figures_width = capacity_width + most_years * figure_width

-- the places for figures: those of bid k stand at place k, and after those of all bids the applications' have their places
abbrev pub places : ℕ
places = most_bids + most_apps

abbrev pub app_place : (a : ℕ) → ℕ
app_place a = most_bids + a

abbrev pub drawn_place : ℕ
drawn_place = columns

abbrev pub entrants_at : ℕ
entrants_at = drawn_place + 1

abbrev pub admins_at : ℕ
admins_at = entrants_at + most_bids

abbrev pub figures_at : ℕ
figures_at = admins_at + most_apps

abbrev pub rows_at : ℕ
rows_at = figures_at + places * figures_width

abbrev pub sheet_length : ℕ
sheet_length = rows_at + most_bids * row_width

-- where the row of bid k starts; the capacity at place k, which the figures follow, and those of year y
abbrev pub row_place : (k : ℕ) → ℕ
row_place k = rows_at + k * row_width

abbrev pub figures_place : (k : ℕ) → ℕ
figures_place k = figures_at + k * figures_width

abbrev pub figure_place : (k y : ℕ) → ℕ
figure_place k y = figures_place k + capacity_width + y * figure_width

-- the limit of column c: the budget of a year, in pence; in the column after the years the cap
unfoldable pub limit_at : List ℕ → ℕ → ℕ
limit_at sheet c = get_or sheet c 0

-- the number drawn for the pot's ties, as one more than it is; 0 where there is none
unfoldable pub drawn_in : List ℕ → ℕ
drawn_in sheet = get_or sheet drawn_place 0

unfoldable pub number_in : ℕ → Option ℕ
number_in zero = none
number_in (suc d) = some d

-- what stands there for a number, or for none: in code it is an `Option`
abbrev pub one_more : code.Option ℕ → ℕ
one_more None = 0
one_more (Some d) = suc d

-- the bids of the pot, which enter its auction, in the order of the file; the first k of them, the last first
unfoldable pub entrant_at : List ℕ → ℕ → ℕ
entrant_at sheet j = get_or sheet (entrants_at + j) 0

unfoldable pub entrants : List ℕ → ℕ → List ℕ
entrants sheet zero = []
entrants sheet (suc k) = entrant_at sheet k ∷ entrants sheet k

-- the administrative price of application a. That of another pot's has 0 in its place, which no administrative price is
unfoldable pub admin_at : List ℕ → ℕ → ℕ
admin_at sheet a = get_or sheet (admins_at + a) 0

-- ---- the row of a bid by number: standing, application, start year, price, draw of the application, administrative price

-- a bid of another pot has a row of zeros; one of this pot enters its auction
abbrev pub absent : ℕ
absent = 0

abbrev pub entered : ℕ
entered = 1

unfoldable pub row_standing : List ℕ → ℕ → ℕ
row_standing sheet k = get_or sheet (row_place k) 0

unfoldable pub row_app : List ℕ → ℕ → ℕ
row_app sheet k = get_or sheet (row_place k + 1) 0

unfoldable pub row_year : List ℕ → ℕ → ℕ
row_year sheet k = get_or sheet (row_place k + 2) 0

unfoldable pub row_price : List ℕ → ℕ → ℕ
row_price sheet k = get_or sheet (row_place k + 3) 0

unfoldable pub row_draw : List ℕ → ℕ → ℕ
row_draw sheet k = get_or sheet (row_place k + 4) 0

unfoldable pub row_admin : List ℕ → ℕ → ℕ
row_admin sheet k = get_or sheet (row_place k + 5) 0

-- ---- the capacity at place k; and the figures there in a year: reference price, load factor × hours × capacity, (1 − TLM) × RQM
unfoldable pub capacity_at : List ℕ → (k : ℕ) → ℕ
capacity_at sheet k = get_or sheet (figures_place k) 0

unfoldable pub fig_reference : List ℕ → (k y : ℕ) → ℕ
fig_reference sheet k y = get_or sheet (figure_place k y) 0

unfoldable pub fig_energy : List ℕ → (k y : ℕ) → ℕ
fig_energy sheet k y = get_or sheet (figure_place k y + 1) 0

unfoldable pub fig_share : List ℕ → (k y : ℕ) → ℕ
fig_share sheet k y = get_or sheet (figure_place k y + 2) 0

-- the exact cost in parts, at a strike price, of what has its figures at place k
unfoldable pub parts_at : List ℕ → (k strike y : ℕ) → ℕ
parts_at sheet k strike y = (strike - fig_reference sheet k y) * fig_energy sheet k y * fig_share sheet k y

-- of bid k at a clearing price, capped
unfoldable pub sheet_cost : List ℕ → (k price y : ℕ) → ℕ
sheet_cost sheet k price y = parts_at sheet k (min price (row_admin sheet k)) y

-- ---- the pot that a sheet shows, of a size: so many years, columns, bids and applications
abbrev pub in_auction : List ℕ → (k : ℕ) → Bool
in_auction sheet k = eqb (row_standing sheet k) entered

abbrev pub in_test : List ℕ → (a : ℕ) → Bool
in_test sheet a = not (eqb (admin_at sheet a) 0)

-- the administrative price of application a, of n
abbrev pub admin_of : List ℕ → (n a : ℕ) → ℕ
admin_of sheet n a = pick (ltb a n) (admin_at sheet a) 0

unfoldable pub pot_in : List ℕ → Size → Pot
pot_in sheet of = record {
  bids = sift (in_auction sheet) (below of.bids);
  apps = sift (in_test sheet) (below of.applications);
  years = of.years;
  scale = penny;
  app = row_app sheet;
  yr = row_year sheet;
  price = row_price sheet;
  cost = λ k price y. pick (ltb y of.years) (sheet_cost sheet k price y) 0;
  budget = λ y. pick (ltb y of.years) (limit_at sheet y) 0;
  draw = row_draw sheet;
  admin = row_admin sheet;
  capacity = λ k. pick (in_auction sheet k) (capacity_at sheet k) 0;
  cap = pick (ltb of.years of.columns) (some (limit_at sheet of.years)) none;
  drawn = number_in (drawn_in sheet);
  admin_price = admin_of sheet of.applications;
  admin_cost = λ a y. pick (ltb y of.years) (parts_at sheet (app_place a) (admin_of sheet of.applications a) y) 0;
  app_capacity = λ a. pick (ltb a of.applications) (pick (in_test sheet a) (capacity_at sheet (app_place a)) 0) 0;
}

-- what has been seen to before a pot is cleared
pub record Ready (sheet : List ℕ) (of : Size) : Type 0 where
  pub few : of.bids ≤ most_bids
  pub apps : of.applications ≤ most_apps
  pub some : 0 < of.years
  pub years : of.years ≤ most_years
  -- a column for each year, and at most one more
  pub columns_least : of.years ≤ of.columns
  pub columns_most : of.columns ≤ of.years + 1
  pub app : (k : ℕ) → k < of.bids → row_app sheet k < most_apps
  pub year : (k : ℕ) → k < of.bids → row_year sheet k < most_deliveries
  pub price : (k : ℕ) → k < of.bids → row_price sheet k ≤ highest_price
  pub admin : (k : ℕ) → k < of.bids → row_admin sheet k ≤ highest_price
  pub draw : (k : ℕ) → k < of.bids → row_draw sheet k < 65536
  pub admins : (a : ℕ) → a < of.applications → admin_at sheet a ≤ highest_price
  pub capacity : (k : ℕ) → k < places → capacity_at sheet k ≤ largest_capacity
  pub reference : (k y : ℕ) → k < places → y < of.years → fig_reference sheet k y ≤ highest_price
  pub energy : (k y : ℕ) → k < places → y < of.years → fig_energy sheet k y ≤ most_energy
  pub share : (k y : ℕ) → k < places → y < of.years → fig_share sheet k y ≤ most_share
  pub limit : (y : ℕ) → y < of.years → limit_at sheet y ≤ pence_per_pound * highest_budget
  -- two bids of the auction at one price are of applications with different draws
  pub apart : (c d : ℕ) → c < of.bids → d < of.bids → in_auction sheet c ≡ true → in_auction sheet d ≡ true
      → row_price sheet c ≡ row_price sheet d → row_draw sheet c ≡ row_draw sheet d → c ≡ d
  -- the entrants are the bids of the auction
  pub listed : entrants sheet of.entered ≡ sift (in_auction sheet) (below of.bids)
