-- What the functions of `search` compute and need: those kept. Assumes nothing.
use Rattle.std.specs.Prelude.{ℕ, ◌+◌, ◌*◌, ◌^◌, ◌≤◌, ◌<◌, min, ◌≡◌, ⊤, Bool, true, false, List, length, get_or, None, MatchOption}
use Rattle.rules.specs.Lists.{sift, below}
use Rattle.rules.specs.Pot.{has, at_place}
use Rattle.sheet.specs.declared.Size.{Size}
use Rattle.combinations.specs.declared.Tied.{Tied}
use Rattle.combinations.specs.Combinations.{part_size, three_parts}
use Rattle.ties.specs.Ties.{Cuttable, Drawing, ok_by, last_by}
use Rattle.added.specs.Added.{Onto, Adds, Narrows}
use Rattle.search.specs.declared.kept.Aim.{Aim}

-- ---- what is sought among the combinations of a tie: none that fits has more in the last year; where no bid is idle each adds to it
pub record Seeking (sheet : List ℕ) (of : Size) (table : List ℕ) (tied : Tied) (aim : Aim) : Type 0 where
  pub drawing : Drawing sheet of table tied
  pub cuts : Cuttable (ok_by sheet of table) (last_by of table)
  pub onto : Onto tied
  pub adding : Adds table
  pub narrow : MatchOption aim.idle ⊤ (Narrows of table tied.count)
  pub top : (m : ℕ) → m < 2 ^ tied.count → ok_by sheet of table m ≡ true → last_by of table m ≤ aim.most
  pub gain : aim.idle ≡ None → (m j : ℕ) → m < 2 ^ tied.count → j < tied.count → has m (get_or tied.ranks j 0) ≡ false
      → last_by of table m < last_by of table (m + 2 ^ get_or tied.ranks j 0)

-- ---- the branches of a tie in which the lowest three parts are undecided: where the first k of them end, of n combinations
abbrev pub stretches : ℕ
stretches = part_size

unfoldable pub stretch_end : (n k : ℕ) → ℕ
stretch_end n k = min (k * three_parts) n

-- how many are kept before a number, and before each of the first of these ends
unfoldable pub kept_before : (kept : ℕ → Bool) (n : ℕ) → ℕ
kept_before kept n = length (sift kept (below n))

pub record Tallied (kept : ℕ → Bool) (n k : ℕ) (counts : List ℕ) : Type 0 where
  pub size : length counts ≡ stretches + 1
  pub each : (i : ℕ) → i ≤ k → get_or counts i 0 ≡ kept_before kept (stretch_end n i)

-- the first of them that has more than `place` before its end; or none has
pub record Stands (counts : List ℕ) (place r : ℕ) : Type 0 where
  pub low : r < stretches
  pub past : (k : ℕ) → k < r → get_or counts (k + 1) 0 ≤ place
  pub here : place < get_or counts (r + 1) 0

abbrev pub TooFew : (counts : List ℕ) (place : ℕ) → Type 0
TooFew counts place = (k : ℕ) → k < stretches → get_or counts (k + 1) 0 ≤ place

-- the one at a place
unfoldable pub place_of : (kept : ℕ → Bool) (n place : ℕ) → ℕ
place_of kept n place = at_place place (sift kept (below n))
