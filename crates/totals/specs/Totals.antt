-- What the functions of `totals` compute from a sheet and rows of numbers, and what of the sheet they need. Assumes nothing.
use Rattle.std.specs.Prelude.{ℕ, zero, suc, ◌+◌, ◌*◌, ◌≤◌, ◌<◌, min, Bool, true, ◌&&◌, List, [], ◌∷◌, ◌≡◌, get_or, replicate, eqb, leb, ltb}
use Rattle.rules.specs.Names.{most_bids, most_deliveries, highest_price, because_won}
use Rattle.rules.specs.Lists.{pick, sift, below, sum}
use Rattle.rules.specs.Value.{ceil_div, penny, dearest}
use Rattle.arrays.specs.Sets.{fill}
use Rattle.sheet.specs.declared.Size.{Size}
use Rattle.sheet.specs.Sheet.{columns, places, app_place, limit_at, row_year, row_admin, admin_at, capacity_at, parts_at, in_auction, in_test, Ready}

-- ---- values and totals

-- what column c counts, at a strike price, of what has its figures at place k: in a year its value, in the column after the years its capacity
unfoldable pub counts : (sheet : List ℕ) (of : Size) (k strike c : ℕ) → ℕ
counts sheet of k strike c = pick (ltb c of.years) (ceil_div (parts_at sheet k strike c) penny) (capacity_at sheet k)

-- what this needs: a sheet that is ready, a place for figures, and a column of the pot
pub record Struck (sheet : List ℕ) (of : Size) (k strike c : ℕ) : Type 0 where
  pub ready : Ready sheet of
  pub place : k < places
  pub price : strike ≤ highest_price
  pub column : c < of.columns

-- of bid k at a clearing price, capped
unfoldable pub worth_of : (sheet : List ℕ) (of : Size) (k price c : ℕ) → ℕ
worth_of sheet of k price c = counts sheet of k (min price (row_admin sheet k)) c

-- bid k and column c, of a sheet that is ready; and what is answered of the bid there
pub record Asked (sheet : List ℕ) (of : Size) (k c : ℕ) : Type 0 where
  pub ready : Ready sheet of
  pub bid : k < of.bids
  pub column : c < of.columns

pub record Worth (sheet : List ℕ) (of : Size) (k price c r : ℕ) : Type 0 where
  pub value : r ≡ worth_of sheet of k price c
  pub small : r ≤ dearest

-- at the price of its start year in a row of prices
unfoldable pub cost_of : (sheet : List ℕ) (of : Size) (prices : List ℕ) (c k : ℕ) → ℕ
cost_of sheet of prices c k = worth_of sheet of k (get_or prices (row_year sheet k) 0) c

-- the total of the bids below n that are marked as won
unfoldable pub total_of : (sheet : List ℕ) (of : Size) (marks prices : List ℕ) (c n : ℕ) → ℕ
total_of sheet of marks prices c zero = 0
total_of sheet of marks prices c (suc i) = total_of sheet of marks prices c i + pick (eqb (get_or marks i 0) because_won) (cost_of sheet of prices c i) 0

-- of a list of bids those that are marked as won and start in year d, all at one price; and of the pot's bids below n
unfoldable pub part_on : (sheet : List ℕ) (of : Size) (marks : List ℕ) (price d c : ℕ) → List ℕ → ℕ
part_on sheet of marks price d c [] = 0
part_on sheet of marks price d c (i ∷ l) =
    part_on sheet of marks price d c l + pick (eqb (get_or marks i 0) because_won && eqb (row_year sheet i) d) (worth_of sheet of i price c) 0

unfoldable pub part_of : (sheet : List ℕ) (of : Size) (marks : List ℕ) (price d c n : ℕ) → ℕ
part_of sheet of marks price d c n = part_on sheet of marks price d c (sift (in_auction sheet) (below n))

-- a row of totals, the first n of its columns filled
unfoldable pub no_row : List ℕ
no_row = replicate columns 0

abbrev pub filled : (ℕ → ℕ) → ℕ → List ℕ
filled f n = fill no_row f n

-- a row with what f gives added in each of the first n places; and what this needs where it is what bid k counts
abbrev pub added_to : (ℕ → ℕ) → (row : List ℕ) → ℕ → List ℕ
added_to f row n = fill row (λ c. get_or row c 0 + f c) n

pub record Adding (sheet : List ℕ) (of : Size) (row : List ℕ) (k : ℕ) : Type 0 where
  pub ready : Ready sheet of
  pub known : k < of.bids
  pub low : (c : ℕ) → c < of.columns → get_or row c 0 ≤ dearest * most_bids

-- no figure of the first n columns is above its limit; and of a row
unfoldable pub fits_to : (ℕ → ℕ) → (sheet : List ℕ) → ℕ → Bool
fits_to f sheet zero = true
fits_to f sheet (suc c) = leb (f c) (limit_at sheet c) && fits_to f sheet c

abbrev pub row_fits : (sheet row : List ℕ) → ℕ → Bool
row_fits sheet row n = fits_to (λ c. get_or row c 0) sheet n

-- of application a at its administrative price; and the first test's total of the pot's applications below n
unfoldable pub admin_worth : (sheet : List ℕ) (of : Size) (a c : ℕ) → ℕ
admin_worth sheet of a c = counts sheet of (app_place a) (admin_at sheet a) c

unfoldable pub admin_total_of : (sheet : List ℕ) (of : Size) (c n : ℕ) → ℕ
admin_total_of sheet of c n = sum (λ a. admin_worth sheet of a c) (sift (in_test sheet) (below n))

-- ---- a row for each delivery year, and their sum

-- what the winners of the four delivery years count in column c, and the most that this can be
unfoldable pub column_sum : List ℕ → ℕ → ℕ
column_sum l c = get_or l c 0 + (get_or l (columns + c) 0 + (get_or l (2 * columns + c) 0 + get_or l (3 * columns + c) 0))

abbrev pub most_sum : ℕ
most_sum = most_deliveries * (dearest * most_bids)

-- the places of the sums: a row of columns for each delivery year
abbrev pub sums_size : ℕ
sums_size = most_deliveries * columns

pub record Totalling (of : Size) (sums : List ℕ) : Type 0 where
  pub columns : of.columns ≤ columns
  pub small : (c : ℕ) → c < of.columns → column_sum sums c ≤ most_sum
