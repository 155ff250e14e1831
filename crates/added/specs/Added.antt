-- What the functions of `added` compute and need: bids added to a combination. Assumes nothing.
use Rattle.std.specs.Prelude.{ℕ, ◌+◌, ◌-◌, ◌*◌, ◌/◌, ◌%◌, ◌^◌, ◌≤◌, ◌<◌, ◌≡◌, ⊤, Bool, true, false, List, get_or, Option, None, Some}
use Rattle.rules.specs.Names.{most_deliveries, widest_tie}
use Rattle.rules.specs.Pot.{has}
use Rattle.sheet.specs.declared.Size.{Size}
use Rattle.sheet.specs.Sheet.{columns, limit_at}
use Rattle.combinations.specs.declared.Tied.{Tied}
use Rattle.combinations.specs.Combinations.{year_sets, combinations, part_places, part_cost, joint_of, union_of}
use Rattle.ties.specs.Ties.{ok_by, addable_of}
use Rattle.added.specs.declared.whole.Narrow.{Narrow}
use Rattle.added.specs.declared.whole.Room.{Room}

-- ---- when it then comes to no less

-- one delivery year more costs the winners no less: of the i-th set, year and column; and of all
unfoldable pub Rises : (base : List ℕ) (i : ℕ) → Type 0
Rises base i =
    let c = i % columns in
    let d = i / columns % most_deliveries in
    let t = i / columns / most_deliveries in
    has t d ≡ false → get_or base (t * columns + c) 0 ≤ get_or base ((t + 2 ^ d) * columns + c) 0

pub record Rising (base : List ℕ) : Type 0 where
  pub rise : (t d c : ℕ) → t < year_sets → d < most_deliveries → c < columns → has t d ≡ false
      → get_or base (t * columns + c) 0 ≤ get_or base ((t + 2 ^ d) * columns + c) 0

-- a binary place is that of a bid; and so is each of the tie
pub record Held (tied : Tied) (place : ℕ) : Type 0 where
  pub bid : ℕ
  pub low : bid < tied.count
  pub is : get_or tied.ranks bid 0 ≡ place

abbrev pub Onto : (tied : Tied) → Type 0
Onto tied = (place : ℕ) → place < tied.count → Held tied place

pub record Sound (base : List ℕ) (tied : Tied) : Type 0 where
  pub rising : Rising base
  pub onto : Onto tied

-- what the j-th bid is worth in the last year; and each is worth something, so that adding it adds to the total
unfoldable pub last_worth : (own : List ℕ) (last j : ℕ) → ℕ
last_worth own last j = get_or own (j * columns + last) 0

abbrev pub Busy : (of : Size) (own : List ℕ) (tied : Tied) → Type 0
Busy of own tied = (j : ℕ) → j < tied.count → 0 < last_worth own (of.years - 1) j

-- ---- whether a bid can be added: what the bid at a binary place counts in column c; and what the combination m, which touches t, leaves of its limit
unfoldable pub alone_by : (table : List ℕ) (place c : ℕ) → ℕ
alone_by table place c = part_cost table (place / part_places) (2 ^ (place % part_places)) c

unfoldable pub left_by : (sheet table : List ℕ) (m t c : ℕ) → ℕ
left_by sheet table m t c = limit_at sheet c - joint_of table m t c

-- a bid adds at least what it counts
pub record Adds (table : List ℕ) : Type 0 where
  pub adds : (m place c : ℕ) → m < combinations → place < widest_tie → has m place ≡ false → c < columns
      → joint_of table m (union_of table m) c + alone_by table place c ≤ joint_of table (m + 2 ^ place) (union_of table (m + 2 ^ place)) c

-- a combination, with the years that it touches
pub record Known (table : List ℕ) (m t : ℕ) : Type 0 where
  pub number : m < combinations
  pub years : t ≡ union_of table m
  pub few : t < year_sets

-- none of so many bids counts less in column c; and so in a column of the pot
abbrev pub Least : (table : List ℕ) (count c r : ℕ) → Type 0
Least table count c r = (place : ℕ) → place < count → r ≤ alone_by table place c

pub record Narrows (of : Size) (table : List ℕ) (count : ℕ) (r : Narrow) : Type 0 where
  pub column : r.column < of.columns
  pub least : Least table count r.column r.least

-- what is left in a column of the pot; that this is less than the bid at a binary place counts, or none; and that it cannot be added, or none and it can
pub record Roomed (sheet : List ℕ) (of : Size) (table : List ℕ) (m t : ℕ) (r : Room) : Type 0 where
  pub column : r.column < of.columns
  pub is : r.left ≡ left_by sheet table m t r.column

abbrev pub Bars : (sheet : List ℕ) (of : Size) (table : List ℕ) (m t place : ℕ) → Option Room → Type 0
Bars sheet of table m t place (Some r) = Roomed sheet of table m t r × (r.left < alone_by table place r.column)
Bars sheet of table m t place None = ⊤

abbrev pub Asks : (sheet : List ℕ) (of : Size) (table : List ℕ) (m t place : ℕ) → Option Room → Type 0
Asks sheet of table m t place (Some r) = Roomed sheet of table m t r × (addable_of (ok_by sheet of table) m place ≡ false)
Asks sheet of table m t place None = addable_of (ok_by sheet of table) m place ≡ true

-- a bid at a binary place below n can be added to the combination m; and that none can be, or one
pub record Addable (ok : ℕ → Bool) (m n : ℕ) : Type 0 where
  pub place : ℕ
  pub low : place < n
  pub is : addable_of ok m place ≡ true

abbrev pub Closes : (ok : ℕ → Bool) (m n : ℕ) (r : Bool) → Type 0
Closes ok m n r = (r ≡ true → (place : ℕ) → place < n → addable_of ok m place ≡ false) × (r ≡ false → Addable ok m n)
