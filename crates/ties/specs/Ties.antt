-- What the functions of `ties` compute from a sheet and rows of numbers, and what they need. No rule of document 01 is stated here. Assumes nothing.
use Rattle.std.specs.Prelude.{ℕ, zero, suc, ◌+◌, ◌-◌, ◌*◌, ◌/◌, ◌%◌, ◌^◌, ◌≤◌, ◌<◌, ◌≡◌, Bool, true, false, not, ◌&&◌, List, length, get_or, set, eqb, leb, Option, None, Some}
use Rattle.rules.specs.Lists.{pick, sift, below}
use Rattle.rules.specs.Pot.{has, best, at_place}
use Rattle.arrays.specs.Sets.{none}
use Rattle.sheet.specs.declared.Size.{Size}
use Rattle.sheet.specs.Sheet.{columns, one_more, row_year, Ready}
use Rattle.totals.specs.Totals.{worth_of, fits_to}
use Rattle.combinations.specs.declared.Tied.{Tied}
use Rattle.combinations.specs.Combinations.{combinations, Bounded, most_base, Placed, owns_of, table_by, joint_of, union_of, Tabled}
use Rattle.ties.specs.declared.best.Best.{Best}
use Rattle.ties.specs.declared.listing.Listed.{Listed}
use Rattle.ties.specs.declared.listing.Answer.{Answer}
use Rattle.ties.specs.declared.Choice.{Choice}

-- ---- a bid alone

unfoldable pub alone_total : (sheet : List ℕ) (of : Size) (base : List ℕ) (price k c : ℕ) → ℕ
alone_total sheet of base price k c = get_or base (2 ^ row_year sheet k * columns + c) 0 + worth_of sheet of k price c

abbrev pub alone_fits : (sheet : List ℕ) (of : Size) (base : List ℕ) (price k : ℕ) → Bool
alone_fits sheet of base price k = fits_to (alone_total sheet of base price k) sheet of.columns

-- of the set, and fits alone
unfoldable pub keeps_of : (sheet : List ℕ) (of : Size) (base : List ℕ) (price : ℕ) → List Bool → ℕ → Bool
keeps_of sheet of base price l k = get_or l k false && alone_fits sheet of base price k

-- what the totals of a tie are read off; and those of a trial of bid k alone
pub record Based (sheet : List ℕ) (of : Size) (base : List ℕ) : Type 0 where
  pub ready : Ready sheet of
  pub winners : Bounded base most_base

pub record Trying (sheet : List ℕ) (of : Size) (base : List ℕ) (k : ℕ) : Type 0 where
  pub ready : Ready sheet of
  pub bid : k < of.bids
  pub winners : Bounded base most_base

-- ---- a combination, by the table: whether it fits, and its total in the last year
unfoldable pub ok_by : (sheet : List ℕ) (of : Size) (table : List ℕ) (mask : ℕ) → Bool
ok_by sheet of table mask = fits_to (joint_of table mask (union_of table mask)) sheet of.columns

unfoldable pub last_by : (of : Size) (table : List ℕ) (mask : ℕ) → ℕ
last_by of table mask = joint_of table mask (union_of table mask) (of.years - 1)

-- the better of the best so far and a combination that fits
unfoldable pub better_of : Best → (mask total : ℕ) → Best
better_of b mask total = pick (leb b.total total) (record { mask = mask; total = total }) b

-- the best combination so far, with its figure
abbrev pub best_of : (ℕ → Bool) → (ℕ → ℕ) → ℕ → Best
best_of ok tot n = record { mask = best ok tot n; total = tot (best ok tot n) }

-- the bids of a combination, as a set
unfoldable pub combination_of : (list ranks : List ℕ) (mask count : ℕ) → List Bool
combination_of list ranks mask zero = none
combination_of list ranks mask (suc j) =
    pick (has mask (get_or ranks j 0)) (set (combination_of list ranks mask j) (get_or list j 0) true) (combination_of list ranks mask j)

-- what is read of any combination; and of those of the gathered bids
pub record Searching (sheet : List ℕ) (of : Size) (table : List ℕ) : Type 0 where
  pub ready : Ready sheet of
  pub tables : Tabled table

pub record Drawing (sheet : List ℕ) (of : Size) (table : List ℕ) (tied : Tied) : Type 0 where
  pub searching : Searching sheet of table
  pub placed : Placed tied

-- ---- those of the best combinations to which no other of the bids can be added

-- the bid at a binary place can be added to the combination; and none of the first bids can be
unfoldable pub addable_of : (ok : ℕ → Bool) (mask place : ℕ) → Bool
addable_of ok mask place = not (has mask place) && ok (mask + 2 ^ place)

unfoldable pub full_to : (ok : ℕ → Bool) (ranks : List ℕ) (mask count : ℕ) → Bool
full_to ok ranks mask zero = true
full_to ok ranks mask (suc j) = not (addable_of ok mask (get_or ranks j 0)) && full_to ok ranks mask j

unfoldable pub kept_by : (sheet : List ℕ) (of : Size) (table : List ℕ) (tied : Tied) (most mask : ℕ) → Bool
kept_by sheet of table tied most mask =
    ok_by sheet of table mask && (eqb (last_by of table mask) most && full_to (ok_by sheet of table) tied.ranks mask tied.count)

-- of the numbers below n that pass a test, how many there are and the one at a place; and one more than such a number
unfoldable pub listed_of : (ℕ → Bool) → (place n : ℕ) → Listed
listed_of f place n = record { count = length (sift f (below n)); mask = at_place place (sift f (below n)) }

unfoldable pub counted_of : Listed → (mask place : ℕ) → Listed
counted_of l mask place = record { count = l.count + 1; mask = pick (eqb l.count place) mask l.mask }

-- the number of the best combination; those kept; and the combination that is taken, by one more than the drawn number, with the number of those kept
unfoldable pub top_by : (sheet : List ℕ) (of : Size) (table : List ℕ) (count : ℕ) → ℕ
top_by sheet of table count = best (ok_by sheet of table) (last_by of table) (2 ^ count)

unfoldable pub ways_by : (sheet : List ℕ) (of : Size) (table : List ℕ) (tied : Tied) → List ℕ
ways_by sheet of table tied = sift (kept_by sheet of table tied (last_by of table (top_by sheet of table tied.count))) (below (2 ^ tied.count))

unfoldable pub answer_by : (sheet : List ℕ) (of : Size) (table : List ℕ) (tied : Tied) (drawn : ℕ) → Answer
answer_by sheet of table tied zero = record { mask = top_by sheet of table tied.count; ways = length (ways_by sheet of table tied) }
answer_by sheet of table tied (suc d) =
    let l = ways_by sheet of table tied in
    record { mask = at_place (d % length l) l; ways = length l }

-- what is left of the drawn number
unfoldable pub left_of : (drawn : Option ℕ) (ways : ℕ) → Option ℕ
left_of None ways = None
left_of (Some d) ways = Some (d / ways)

-- ---- the table of the gathered bids at a price; what a tie of them takes; and what is chosen then
abbrev pub table_for : (sheet : List ℕ) (of : Size) (base : List ℕ) (tied : Tied) (price : ℕ) → List ℕ
table_for sheet of base tied price = table_by base (owns_of sheet of tied.bids price tied.count) tied.ranks tied.starts tied.count

unfoldable pub answer_of : (sheet : List ℕ) (of : Size) (base : List ℕ) (tied : Tied) (price drawn : ℕ) → Answer
answer_of sheet of base tied price drawn = answer_by sheet of (table_for sheet of base tied price) tied drawn

unfoldable pub chosen_of : Tied → Answer → (drawn : Option ℕ) → Choice
chosen_of tied answer drawn = record {
  wins = combination_of tied.bids tied.ranks answer.mask tied.count;
  drawn = left_of drawn answer.ways;
}

unfoldable pub choice_of : (sheet : List ℕ) (of : Size) (base : List ℕ) (tied : Tied) (price : ℕ) (drawn : Option ℕ) → Choice
choice_of sheet of base tied price drawn = chosen_of tied (answer_of sheet of base tied price (one_more drawn)) drawn

-- ---- what passing over combinations rests on, where it can be

-- every binary place of m is one of n: combination n has the bids of m, and perhaps more
abbrev pub Within : (m n : ℕ) → Type 0
Within m n = (i : ℕ) → has m i ≡ true → has n i ≡ true

-- with more bids a combination comes to no less, and it fits only if one with fewer does
pub record Cuttable (ok : ℕ → Bool) (tot : ℕ → ℕ) : Type 0 where
  pub down : (m n : ℕ) → m < combinations → n < combinations → Within m n → ok n ≡ true → ok m ≡ true
  pub reach : (m n : ℕ) → m < combinations → n < combinations → Within m n → tot m ≤ tot n
