-- What the functions of `combinations` compute from a sheet and rows of numbers, and what they need. No rule of document 01 is stated here. Assumes nothing.
use Rattle.std.specs.Prelude.{ℕ, zero, suc, ◌+◌, ◌-◌, ◌*◌, ◌/◌, ◌%◌, ◌^◌, ◌≤◌, ◌<◌, ◌≡◌, Bool, false, List, [], ◌∷◌, length, get_or, set, replicate, ltb}
use Rattle.std.specs.Int.Bits.{bit_or}
use Rattle.rules.specs.Names.{most_bids, most_deliveries, widest_tie}
use Rattle.rules.specs.Value.{dearest}
use Rattle.rules.specs.Lists.{pick, sift}
use Rattle.rules.specs.Pot.{has}
use Rattle.arrays.specs.Sets.{fill, members}
use Rattle.sheet.specs.declared.Size.{Size}
use Rattle.sheet.specs.Sheet.{columns, row_year, row_draw}
use Rattle.totals.specs.Totals.{worth_of, total_of}
use Rattle.combinations.specs.declared.Tied.{Tied}

-- ---- numbers as sets, by their binary places

-- the sets of delivery years; the combinations of as many bids as a tie may have; the parts of a combination's number, and the places of one; the numbers of
-- one part, of two and of three; and those of one with a row of columns for each
abbrev pub year_sets : ℕ
year_sets = 16

abbrev pub combinations : ℕ
combinations = 1048576

abbrev pub parts : ℕ
parts = 4

abbrev pub part_places : ℕ
part_places = 5

abbrev pub part_size : ℕ
part_size = 32

abbrev pub two_parts : ℕ
two_parts = part_size * part_size

abbrev pub three_parts : ℕ
three_parts = part_size * two_parts

abbrev pub part_rows : ℕ
part_rows = part_size * columns

-- no number of a list is above so much
pub record Bounded (l : List ℕ) (most : ℕ) : Type 0 where
  pub small : (i : ℕ) → get_or l i 0 ≤ most

-- ---- the present winners, for each set t of delivery years, a number with one binary place for each

-- the clearing prices of a trial: one price in the years below n of the set
unfoldable pub repriced_to : (prices : List ℕ) (price t : ℕ) → ℕ → List ℕ
repriced_to prices price t zero = prices
repriced_to prices price t (suc d) = pick (has t d) (set (repriced_to prices price t d) d price) (repriced_to prices price t d)

-- what the winners count: a row of columns to a set
unfoldable pub base_at : (sheet : List ℕ) (of : Size) (marks prices : List ℕ) (price i : ℕ) → ℕ
base_at sheet of marks prices price i =
    pick (ltb (i % columns) of.columns) (total_of sheet of marks (repriced_to prices price (i / columns) most_deliveries) (i % columns) of.bids) 0

unfoldable pub no_base : List ℕ
no_base = replicate (year_sets * columns) 0

abbrev pub bases_of : (sheet : List ℕ) (of : Size) (marks prices : List ℕ) (price : ℕ) → List ℕ
bases_of sheet of marks prices price = fill no_base (base_at sheet of marks prices price) (year_sets * columns)

-- no winner is dearer than the dearest
abbrev pub most_base : ℕ
most_base = dearest * most_bids

-- ---- the bids that remain, as a list of numbers

-- the first n of an array, the last first
unfoldable pub listed : List ℕ → ℕ → List ℕ
listed a zero = []
listed a (suc n) = get_or a n 0 ∷ listed a n

unfoldable pub no_list : List ℕ
no_list = replicate widest_tie 0

-- the members of a set below n, written one after the other
unfoldable pub compact_of : List Bool → ℕ → List ℕ
compact_of l zero = no_list
compact_of l (suc k) = pick (get_or l k false) (set (compact_of l k) (length (members l k)) k) (compact_of l k)

-- how many of the first have a draw above x; the binary place, the start year of the bid at place j
unfoldable pub above_of : (sheet list : List ℕ) (x count : ℕ) → ℕ
above_of sheet list x count = length (sift (λ k. ltb x (row_draw sheet k)) (listed list count))

unfoldable pub rank_of : (sheet list : List ℕ) (count j : ℕ) → ℕ
rank_of sheet list count j = above_of sheet list (row_draw sheet (get_or list j 0)) count

unfoldable pub start_of : (sheet list : List ℕ) (j : ℕ) → ℕ
start_of sheet list j = row_year sheet (get_or list j 0)

abbrev pub ranks_of : (sheet list : List ℕ) (count : ℕ) → List ℕ
ranks_of sheet list count = fill no_list (rank_of sheet list count) count

abbrev pub starts_of : (sheet list : List ℕ) (count : ℕ) → List ℕ
starts_of sheet list count = fill no_list (start_of sheet list) count

unfoldable pub tied_of : (sheet : List ℕ) (of : Size) (l : List Bool) (count : ℕ) → Tied
tied_of sheet of l count = record {
  count = count;
  bids = compact_of l of.bids;
  ranks = ranks_of sheet (compact_of l of.bids) count;
  starts = starts_of sheet (compact_of l of.bids) count;
}

-- a set of few bids; few numbers of bids, below m; and their binary places and start years
pub record Few (of : Size) (l : List Bool) (count : ℕ) : Type 0 where
  pub counted : count ≡ length (members l of.bids)
  pub few : count ≤ widest_tie

pub record Numbers (list : List ℕ) (count m : ℕ) : Type 0 where
  pub few : count ≤ widest_tie
  pub small : (j : ℕ) → j < count → get_or list j 0 < m

pub record Placed (tied : Tied) : Type 0 where
  pub few : tied.count ≤ widest_tie
  pub ranks : (j : ℕ) → j < tied.count → get_or tied.ranks j 0 < tied.count
  pub starts : (j : ℕ) → j < tied.count → get_or tied.starts j 0 < most_deliveries

-- what is gathered of a set of few bids
pub record Gathered (of : Size) (tied : Tied) : Type 0 where
  pub numbers : Numbers tied.bids tied.count of.bids
  pub placed : Placed tied

-- what the bids count at a price: a row of columns to a bid
unfoldable pub own_at : (sheet : List ℕ) (of : Size) (list : List ℕ) (price i : ℕ) → ℕ
own_at sheet of list price i = pick (ltb (i % columns) of.columns) (worth_of sheet of (get_or list (i / columns) 0) price (i % columns)) 0

unfoldable pub no_own : List ℕ
no_own = replicate (widest_tie * columns) 0

abbrev pub owns_of : (sheet : List ℕ) (of : Size) (list : List ℕ) (price count : ℕ) → List ℕ
owns_of sheet of list price count = fill no_own (own_at sheet of list price) (count * columns)

-- ---- combinations: the j-th bid is in the combination number `mask` where that has its binary place

-- a set of years with one more; the years in which the bids start that are in the combination
unfoldable pub touch_of : (t d : ℕ) → ℕ
touch_of t d = pick (has t d) t (t + 2 ^ d)

unfoldable pub touched_of : (ranks starts : List ℕ) (mask count : ℕ) → ℕ
touched_of ranks starts mask zero = 0
touched_of ranks starts mask (suc j) =
    pick (has mask (get_or ranks j 0)) (touch_of (touched_of ranks starts mask j) (get_or starts j 0)) (touched_of ranks starts mask j)

-- what the bids of a tie count, and where these stand
pub record Owned (own : List ℕ) (tied : Tied) : Type 0 where
  pub bids : Bounded own dearest
  pub placed : Placed tied

-- ---- the same by the four parts of its number: that of its five lowest places, of the next five, of those after them and of the five highest

-- what the bids of a combination count in column c
unfoldable pub combined_of : (own ranks : List ℕ) (mask c count : ℕ) → ℕ
combined_of own ranks mask c zero = 0
combined_of own ranks mask c (suc j) = combined_of own ranks mask c j + pick (has mask (get_or ranks j 0)) (get_or own (j * columns + c) 0) 0

-- of the combination of one place alone, and of each combination of the places of one part: a row of columns to each
unfoldable pub one_at : (own ranks : List ℕ) (count i : ℕ) → ℕ
one_at own ranks count i = combined_of own ranks (2 ^ (i / columns)) (i % columns) count

abbrev pub ones_of : (own ranks : List ℕ) (count : ℕ) → List ℕ
ones_of own ranks count = fill no_own (one_at own ranks count) (widest_tie * columns)

unfoldable pub cost_at : (own ranks : List ℕ) (count i : ℕ) → ℕ
cost_at own ranks count i = combined_of own ranks (i / columns % part_size * 2 ^ (i / part_rows * part_places)) (i % columns) count

unfoldable pub no_costs : List ℕ
no_costs = replicate (parts * part_rows) 0

abbrev pub costs_of : (own ranks : List ℕ) (count : ℕ) → List ℕ
costs_of own ranks count = fill no_costs (cost_at own ranks count) (parts * part_rows)

-- and the years that they touch
unfoldable pub one_year_at : (ranks starts : List ℕ) (count i : ℕ) → ℕ
one_year_at ranks starts count i = touched_of ranks starts (2 ^ i) count

abbrev pub one_years_of : (ranks starts : List ℕ) (count : ℕ) → List ℕ
one_years_of ranks starts count = fill no_list (one_year_at ranks starts count) widest_tie

unfoldable pub year_at : (ranks starts : List ℕ) (count i : ℕ) → ℕ
year_at ranks starts count i = touched_of ranks starts (i % part_size * 2 ^ (i / part_size * part_places)) count

unfoldable pub no_years : List ℕ
no_years = replicate (parts * part_size) 0

abbrev pub years_of : (ranks starts : List ℕ) (count : ℕ) → List ℕ
years_of ranks starts count = fill no_years (year_at ranks starts count) (parts * part_size)

-- ---- by one table: what the winners count for each set of delivery years, and then of each number of each part what its bids count and which years they touch
abbrev pub costs_at : ℕ
costs_at = year_sets * columns

abbrev pub dates_at : ℕ
dates_at = costs_at + parts * part_rows

abbrev pub table_length : ℕ
table_length = dates_at + parts * part_size

unfoldable pub table_at : (base costs dates : List ℕ) (i : ℕ) → ℕ
table_at base costs dates i = pick (ltb i costs_at) (get_or base i 0) (pick (ltb i dates_at) (get_or costs (i - costs_at) 0) (get_or dates (i - dates_at) 0))

unfoldable pub no_table : List ℕ
no_table = replicate table_length 0

unfoldable pub table_by : (base own ranks starts : List ℕ) (count : ℕ) → List ℕ
table_by base own ranks starts count = fill no_table (table_at base (costs_of own ranks count) (years_of ranks starts count)) table_length

-- of the number v of one part what its bids count in column c, and the years that they touch
abbrev pub part_cost : (table : List ℕ) (part v c : ℕ) → ℕ
part_cost table part v c = get_or table (costs_at + part * part_rows + v * columns + c) 0

abbrev pub part_years : (table : List ℕ) (part v : ℕ) → ℕ
part_years table part v = get_or table (dates_at + part * part_size + v) 0

-- the total of a combination, and the years that it touches
unfoldable pub joint_of : (table : List ℕ) (mask t c : ℕ) → ℕ
joint_of table mask t c =
    get_or table (t * columns + c) 0 + part_cost table 0 (mask % part_size) c + part_cost table 1 (mask / part_size % part_size) c
    + part_cost table 2 (mask / two_parts % part_size) c + part_cost table 3 (mask / three_parts) c

unfoldable pub union_of : (table : List ℕ) (mask : ℕ) → ℕ
union_of table mask =
    bit_or (part_years table 0 (mask % part_size))
    (bit_or (part_years table 1 (mask / part_size % part_size))
    (bit_or (part_years table 2 (mask / two_parts % part_size)) (part_years table 3 (mask / three_parts))))

-- what the table holds: no number above the dearest winners, and there are four delivery years
pub record Tabled (table : List ℕ) : Type 0 where
  pub small : Bounded table most_base
  pub years : (i : ℕ) → dates_at ≤ i → get_or table i 0 < year_sets

-- what is read of the number v of one part; and of the combination `mask`, which touches the years t
pub record Parted (table : List ℕ) (part v : ℕ) : Type 0 where
  pub tables : Tabled table
  pub among : part < parts
  pub number : v < part_size

pub record Joining (table : List ℕ) (mask t : ℕ) : Type 0 where
  pub tables : Tabled table
  pub number : mask < combinations
  pub years : t < year_sets
