-- What the functions over a pot's arrays compute, as functions of the arrays. No rule of document 01 is stated here: crate rules has the rules, and
-- specs/Rep.antt says what the arrays stand for. Assumes nothing.
use Rattle.std.specs.Prelude.{ℕ, zero, suc, ◌+◌, ◌*◌, min, ◌<◌, ◌≡◌, Bool, true, false, not, ◌&&◌, List, [], ◌∷◌, Option, None, Some, get_or, set, replicate, length, eqb, ltb}
use Rattle.rules.specs.Names.{most_bids, most_apps, most_deliveries, no_price, no_reason, because_won, down_alone, down_tied, widest_tie}
use Rattle.rules.specs.Lists.{pick, sift, below}
use Rattle.arrays.specs.Sets.{fill, placed, built, members, head_or, without}
use Rattle.sheet.specs.declared.Size.{Size}
use Rattle.sheet.specs.Sheet.{columns, drawn_in, row_app, row_year, row_price, in_auction, Ready}
use Rattle.totals.specs.Totals.{part_of, filled, column_sum, sums_size}
use Rattle.ties.specs.declared.Choice.{Choice}
use Rattle.combinations.specs.Combinations.{bases_of, tied_of}
use Rattle.ties.specs.Ties.{keeps_of, choice_of}
use Rattle.pot.specs.declared.PotState.{PotState}
use Rattle.pot.specs.declared.Look.{Look}

-- the mark of a bid that is not of this auction
abbrev pub not_here : ℕ
not_here = 9

-- the lowest price of a list of bids, none where there is no bid
unfoldable pub least_or : (sheet : List ℕ) → List ℕ → ℕ
least_or sheet [] = no_price
least_or sheet (x ∷ l) = min (row_price sheet x) (least_or sheet l)

-- not yet looked at, the application has not won, the year is open
unfoldable pub live_of : (sheet : List ℕ) → PotState → ℕ → Bool
live_of sheet s k = eqb (get_or s.marks k 0) no_reason && (not (get_or s.won (row_app sheet k) false) && get_or s.opened (row_year sheet k) false)

unfoldable pub lowest_of : (sheet : List ℕ) → PotState → ℕ → ℕ
lowest_of sheet s n = least_or sheet (sift (live_of sheet s) (below n))

-- live, and at a price
unfoldable pub at_of : (sheet : List ℕ) → PotState → ℕ → ℕ → Bool
at_of sheet s price k = live_of sheet s k && eqb (row_price sheet k) price

-- a bid wins at a price; a bid is turned down for a reason, and its year closes
unfoldable pub win_of : (sheet : List ℕ) (price k : ℕ) → PotState → PotState
win_of sheet price k s = record {
  marks = set s.marks k because_won;
  won = set s.won (row_app sheet k) true;
  opened = s.opened;
  prices = set s.prices (row_year sheet k) price;
  sums = s.sums;
  totals = s.totals;
  hang = s.hang;
  wide = s.wide;
  drawn = s.drawn;
}

unfoldable pub turn_of : (sheet : List ℕ) (v k : ℕ) → PotState → PotState
turn_of sheet v k s = record {
  marks = set s.marks k v;
  won = s.won;
  opened = set s.opened (row_year sheet k) false;
  prices = s.prices;
  sums = s.sums;
  totals = s.totals;
  hang = s.hang;
  wide = s.wide;
  drawn = s.drawn;
}

-- a step for each bid of a list, the last of the list first
abbrev pub Each : (step : PotState → ℕ → PotState → Type 0) → PotState → List ℕ → PotState → Type 0
Each step s [] r = r ≡ s
Each step s (k ∷ l) r = (t : PotState) × Each step s l t × step t k r

unfoldable pub win_all : (sheet : List ℕ) (price : ℕ) → PotState → List ℕ → PotState
win_all sheet price s [] = s
win_all sheet price s (k ∷ l) = win_of sheet price k (win_all sheet price s l)

unfoldable pub turn_all : (sheet : List ℕ) (v : ℕ) → PotState → List ℕ → PotState
turn_all sheet v s [] = s
turn_all sheet v s (k ∷ l) = turn_of sheet v k (turn_all sheet v s l)

-- a bid is turned down alone; a year hangs, or none; the year d closes; the year that hangs closes, if one does; a tie was too wide
unfoldable pub turned_of : ℕ → PotState → PotState
turned_of k s = record {
  marks = set s.marks k down_alone;
  won = s.won;
  opened = s.opened;
  prices = s.prices;
  sums = s.sums;
  totals = s.totals;
  hang = None;
  wide = s.wide;
  drawn = s.drawn;
}

unfoldable pub hung_of : Option ℕ → PotState → PotState
hung_of year s = record {
  marks = s.marks;
  won = s.won;
  opened = s.opened;
  prices = s.prices;
  sums = s.sums;
  totals = s.totals;
  hang = year;
  wide = s.wide;
  drawn = s.drawn;
}

unfoldable pub shut_of : ℕ → PotState → PotState
shut_of d s = record {
  marks = s.marks;
  won = s.won;
  opened = set s.opened d false;
  prices = s.prices;
  sums = s.sums;
  totals = s.totals;
  hang = None;
  wide = s.wide;
  drawn = s.drawn;
}

unfoldable pub shut_in : Option ℕ → PotState → PotState
shut_in None s = hung_of None s
shut_in (Some d) s = pick (ltb d most_deliveries) (shut_of d s) (hung_of None s)

unfoldable pub settled_of : PotState → PotState
settled_of s = shut_in s.hang s

unfoldable pub widened : PotState → PotState
widened s = record {
  marks = s.marks;
  won = s.won;
  opened = s.opened;
  prices = s.prices;
  sums = s.sums;
  totals = s.totals;
  hang = s.hang;
  wide = true;
  drawn = s.drawn;
}

-- the live bids at the lowest live price, as a set
unfoldable pub taken_of : (sheet : List ℕ) (of : Size) → PotState → List Bool
taken_of sheet of s = built (at_of sheet s (lowest_of sheet s of.bids)) of.bids

-- ---- one pass over the bids of the pot

-- no other bid is marked as not yet looked at
abbrev pub Others : (sheet : List ℕ) (of : Size) → PotState → Type 0
Others sheet of s = (k : ℕ) → k < of.bids → in_auction sheet k ≡ false → eqb (get_or s.marks k 0) no_reason ≡ false

-- what a look reads
pub record Looking (sheet : List ℕ) (of : Size) (s : PotState) : Type 0 where
  pub ready : Ready sheet of
  pub others : Others sheet of s

-- a look that sees one more bid, k at a price; and of a list of bids
unfoldable pub joined_of : Option Look → (q k : ℕ) → Look
joined_of None q k = record { price = q; count = 1; last = k }
joined_of (Some l) q k =
    pick (ltb l.price q) l (pick (ltb q l.price) (record { price = q; count = 1; last = k }) (record { price = q; count = l.count + 1; last = k }))

unfoldable pub look_of : (sheet : List ℕ) → List ℕ → Option Look
look_of sheet [] = None
look_of sheet (k ∷ l) = Some (joined_of (look_of sheet l) (row_price sheet k) k)

-- what a look has seen: that no bid is live; or the lowest live price, how many bids carry it, and the last of these
abbrev pub NoneLive : (sheet : List ℕ) (of : Size) → PotState → Type 0
NoneLive sheet of s = sift (live_of sheet s) (below of.bids) ≡ []

pub record Looked (sheet : List ℕ) (of : Size) (s : PotState) (l : Look) : Type 0 where
  pub price : l.price ≡ lowest_of sheet s of.bids
  pub count : l.count ≡ length (members (taken_of sheet of s) of.bids)
  pub last : l.last ≡ head_or 0 (members (taken_of sheet of s) of.bids)

-- a set's only bid is of bid k's application and year
unfoldable pub sole_of : (sheet : List ℕ) (k : ℕ) → List ℕ → Bool
sole_of sheet k l = eqb (length l) 1 && (eqb (row_app sheet (head_or 0 l)) (row_app sheet k) && eqb (row_year sheet (head_or 0 l)) (row_year sheet k))

unfoldable pub follows_of : (sheet : List ℕ) (of : Size) (k : ℕ) → PotState → Bool
follows_of sheet of k s = sole_of sheet k (members (taken_of sheet of s) of.bids)

-- a bid that was taken alone does not fit
unfoldable pub alone_of : (sheet : List ℕ) (of : Size) (k : ℕ) → PotState → PotState
alone_of sheet of k s = pick (follows_of sheet of k (turned_of k s)) (hung_of (Some (row_year sheet k)) (turned_of k s)) (shut_of (row_year sheet k) (turned_of k s))

-- another number is the one that the next tie is drawn by, or none
unfoldable pub numbered_of : Option ℕ → PotState → PotState
numbered_of d s = record {
  marks = s.marks;
  won = s.won;
  opened = s.opened;
  prices = s.prices;
  sums = s.sums;
  totals = s.totals;
  hang = s.hang;
  wide = s.wide;
  drawn = d;
}

-- those chosen of a set win, the others are turned down, and the drawn number is what the choice left of it
unfoldable pub shared_of : (sheet : List ℕ) (of : Size) (l : List Bool) (c : Choice) (price : ℕ) → PotState → PotState
shared_of sheet of l c price s =
    numbered_of c.drawn
    (hung_of None (turn_all sheet down_tied (win_all sheet price s (members c.wins of.bids)) (members (built (without l c.wins) of.bids) of.bids)))

-- ---- the sums by delivery year

-- other sums and totals, and all else as it was
unfoldable pub with_sums : (sums totals : List ℕ) → PotState → PotState
with_sums l q s = record {
  marks = s.marks;
  won = s.won;
  opened = s.opened;
  prices = s.prices;
  sums = l;
  totals = q;
  hang = s.hang;
  wide = s.wide;
  drawn = s.drawn;
}

-- what the winners that start in year d count; they are revalued; and so in each year below n
abbrev pub renewed_row : (sheet : List ℕ) (of : Size) (d : ℕ) → PotState → List ℕ
renewed_row sheet of d s = filled (λ c. part_of sheet of s.marks (get_or s.prices d 0) d c of.bids) of.columns

unfoldable pub renewed_of : (sheet : List ℕ) (of : Size) (d : ℕ) → PotState → PotState
renewed_of sheet of d s = with_sums (placed (λ c. get_or (renewed_row sheet of d s) c 0) s.sums (d * columns) of.columns) s.totals s

unfoldable pub renewed_to : (sheet : List ℕ) (of : Size) → PotState → ℕ → PotState
renewed_to sheet of s zero = s
renewed_to sheet of s (suc d) = renewed_of sheet of d (renewed_to sheet of s d)

-- the row of totals, from the sums
unfoldable pub totalled_of : Size → PotState → PotState
totalled_of of s = with_sums s.sums (filled (column_sum s.sums) of.columns) s

-- every winner is revalued: the row of totals
unfoldable pub revalued_of : (sheet : List ℕ) (of : Size) → PotState → PotState
revalued_of sheet of s = totalled_of of (renewed_to sheet of s most_deliveries)

-- a trial: of one bid, and of a set
unfoldable pub tried_of : (sheet : List ℕ) (of : Size) (price k : ℕ) → PotState → PotState
tried_of sheet of price k s = totalled_of of (renewed_of sheet of (row_year sheet k) (win_of sheet price k s))

unfoldable pub trial_of : (sheet : List ℕ) (of : Size) (price : ℕ) (l : List Bool) → PotState → PotState
trial_of sheet of price l s = revalued_of sheet of (win_all sheet price s (members l of.bids))

-- the sums are those of the winners; and the totals are those of the sums
pub record Parted (sheet : List ℕ) (of : Size) (s : PotState) : Type 0 where
  pub size : length s.sums ≡ sums_size
  pub part : (d c : ℕ) → d < most_deliveries → c < of.columns
      → get_or s.sums (d * columns + c) 0 ≡ part_of sheet of s.marks (get_or s.prices d 0) d c of.bids

pub record Summed (sheet : List ℕ) (of : Size) (s : PotState) : Type 0 where
  pub parts : Parted sheet of s
  pub row : s.totals ≡ filled (column_sum s.sums) of.columns

-- what a trial and a tie read
pub record Valued (sheet : List ℕ) (of : Size) (s : PotState) : Type 0 where
  pub ready : Ready sheet of
  pub summed : Summed sheet of s

-- several do not fit: those that remain, and what becomes of them
unfoldable pub rest_of : (sheet : List ℕ) (of : Size) (l : List Bool) (price : ℕ) → PotState → List Bool
rest_of sheet of l price s = built (keeps_of sheet of (bases_of sheet of s.marks s.prices price) price l) of.bids

unfoldable pub choice_in : (sheet : List ℕ) (of : Size) (l : List Bool) (price : ℕ) → PotState → Choice
choice_in sheet of l price s =
    choice_of sheet of (bases_of sheet of s.marks s.prices price)
    (tied_of sheet of (rest_of sheet of l price s) (length (members (rest_of sheet of l price s) of.bids))) price s.drawn

unfoldable pub tie_of : (sheet : List ℕ) (of : Size) (l : List Bool) (price : ℕ) → PotState → PotState
tie_of sheet of l price s =
    pick (ltb widest_tie (length (members (rest_of sheet of l price s) of.bids))) (widened s)
    (revalued_of sheet of (shared_of sheet of l (choice_in sheet of l price s) price s))

-- ---- no bid has been looked at

unfoldable pub first_mark : (entered : Bool) → ℕ
first_mark t = pick t no_reason not_here

-- the number that another is one more than; none of 0
unfoldable pub one_less : ℕ → Option ℕ
one_less zero = None
one_less (suc d) = Some d

-- the marks of no bid
unfoldable pub no_marks : List ℕ
no_marks = replicate most_bids not_here

unfoldable pub started_of : (sheet : List ℕ) (of : Size) → PotState
started_of sheet of = record {
  marks = fill no_marks (λ k. first_mark (in_auction sheet k)) of.bids;
  won = replicate most_apps false;
  opened = replicate most_deliveries true;
  prices = replicate most_deliveries no_price;
  sums = replicate sums_size 0;
  totals = replicate columns 0;
  hang = None;
  wide = false;
  drawn = one_less (drawn_in sheet);
}
