-- What a pot's arrays stand for: a trace of crate rules. Assumes nothing.
use Rattle.std.specs.Prelude.{ℕ, ◌<◌, ◌≡◌, false, not, List, [], ◌∷◌, Option, None, Some, map, length, get_or, eqb}
use Rattle.rules.specs.Names.{most_bids, most_apps, most_deliveries, no_price, no_reason, because_won}
use Rattle.rules.specs.Lists.{memb}
use Rattle.rules.specs.Pot.{Pot, Trace, winners, seen, closed, hanging, wide_end, mark, price_from, drawn_after, taken, look}
use Rattle.laws_pot.specs.Lists.{In}
use Rattle.sheet.specs.declared.Size.{Size}
use Rattle.sheet.specs.Sheet.{number_in, one_more, pot_in, Ready}
use Rattle.pot.specs.declared.PotState.{PotState}
use Rattle.pot.specs.declared.Look.{Look}
use Rattle.pot.specs.Marks.{not_here, Others, Looked, Summed}

-- the year that hangs, as the trace has it
unfoldable pub hangs : Option ℕ → List ℕ
hangs None = []
hangs (Some d) = d ∷ []

pub record Sizes (s : PotState) : Type 0 where
  pub marks : length s.marks ≡ most_bids
  pub won : length s.won ≡ most_apps
  pub opened : length s.opened ≡ most_deliveries
  pub prices : length s.prices ≡ most_deliveries

-- The arrays s stand for the trace t
pub record Rep (P : Pot) (t : Trace) (s : PotState) : Type 0 where
  pub sizes : Sizes s
  pub other : (k : ℕ) → k < most_bids → memb k P.bids ≡ false → get_or s.marks k 0 ≡ not_here
  pub why : (k : ℕ) → In k P.bids → get_or s.marks k 0 ≡ mark t k
  pub one : (k : ℕ) → In k P.bids → eqb (get_or s.marks k 0) because_won ≡ memb k (winners t)
  pub fresh : (k : ℕ) → In k P.bids → eqb (get_or s.marks k 0) no_reason ≡ not (memb k (seen t))
  pub has : (a : ℕ) → a < most_apps → get_or s.won a false ≡ memb a (map P.app (winners t))
  pub free : (d : ℕ) → d < most_deliveries → get_or s.opened d false ≡ not (memb d (closed t))
  pub price : (d : ℕ) → d < most_deliveries → get_or s.prices d 0 ≡ price_from P no_price (winners t) d
  pub hang : hanging t ≡ hangs s.hang
  pub drawn : drawn_after P t ≡ number_in (one_more s.drawn)

-- .. or say that a tie was too wide, and then no more than that
pub record Stands (P : Pot) (t : Trace) (s : PotState) : Type 0 where
  pub wide : s.wide ≡ wide_end t
  pub rep : wide_end t ≡ false → Rep P t s

-- The arrays r are one step on from s: whatever trace with a bid to look at s stands for, r stands for it with that look in front
abbrev pub Stepped : Pot → PotState → PotState → Type 0
Stepped P s r = (t : Trace) (x : ℕ) → Stands P t s → wide_end t ≡ false → In x (taken P t) → Stands P (look P t (taken P t) ∷ t) r

-- What a step from s needs: the sheet, a look at s, and sums that are those of the winners
pub record Seen (sheet : List ℕ) (of : Size) (s : PotState) (l : Look) : Type 0 where
  pub ready : Ready sheet of
  pub others : Others sheet of s
  pub looked : Looked sheet of s l
  pub summed : Summed sheet of s

-- What a step gives: r is one step on, and its sums are those of its winners
pub record Onward (sheet : List ℕ) (of : Size) (s r : PotState) : Type 0 where
  pub stepped : Stepped (pot_in sheet of) s r
  pub summed : Summed sheet of r
