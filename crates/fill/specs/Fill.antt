-- What a sheet holds once it is filled. Assumes nothing.
use Rattle.std.specs.Prelude.{ℕ, ◌+◌, ◌-◌, ◌*◌, ◌≤◌, ◌<◌, ◌≡◌, List, length, get_or, ltb}
use Rattle.std.proofs.Math.Option.{none, some}
use Rattle.rules.specs.Names.{most_bids, most_apps, pence_per_pound}
use Rattle.rules.specs.Lists.{pick, sift, below}
use Rattle.rules.specs.File.{Round, Bid, app_at, budget_at}
use Rattle.rules.specs.Round.{Row, cap_of, drawn_of}
use Rattle.sheet.specs.declared.Size.{Size}
use Rattle.sheet.specs.Sheet.{sheet_length, drawn_place, entrants_at, admins_at, figures_at, rows_at, figures_width, row_place, figures_place, figure_place, limit_at}
use Rattle.sheet.specs.Sheet.{drawn_in, number_in, entrants, in_auction}
use Rattle.rows.specs.Rows.{row_of, admin_row, row_numbers, figure_numbers, figures_in}

-- the numbers v stand at a place of s
abbrev pub Stands : (v s : List ℕ) (at : ℕ) → Type 0
Stands v s at = (j : ℕ) → j < length v → get_or s (at + j) 0 ≡ get_or v j 0

-- every number of s is 0
abbrev pub Blank : List ℕ → Type 0
Blank s = (j : ℕ) → get_or s j 0 ≡ 0

-- and those of the administrative prices; of the figures, from place k on
abbrev pub BlankAdmins : List ℕ → Type 0
BlankAdmins s = (j : ℕ) → admins_at ≤ j → j < figures_at → get_or s j 0 ≡ 0

abbrev pub BlankFrom : ℕ → List ℕ → Type 0
BlankFrom k s = (j : ℕ) → figures_place k ≤ j → j < rows_at → get_or s j 0 ≡ 0

-- t has what s has before a place; and from a place on
abbrev pub Kept : (at : ℕ) (s t : List ℕ) → Type 0
Kept at s t = (j : ℕ) → j < at → get_or t j 0 ≡ get_or s j 0

abbrev pub Rest : (at : ℕ) (s t : List ℕ) → Type 0
Rest at s t = (j : ℕ) → at ≤ j → get_or t j 0 ≡ get_or s j 0

-- in t the first n of the numbers v were put at a place of s, and nothing before or after them was changed
pub record Put (v : List ℕ) (n at : ℕ) (s t : List ℕ) : Type 0 where
  pub inside : (j : ℕ) → j < n → get_or t (at + j) 0 ≡ get_or v j 0
  pub kept : Kept at s t
  pub rest : Rest (at + n) s t
  pub same : length t ≡ length s

-- the technology of a bid
abbrev pub tech_of : Round → Bid → ℕ
tech_of R b = (app_at R.apps b.app).tech

-- the figures of bid b, of technology t, stand at place k, for the first n years
abbrev pub Figured : Round → (t : ℕ) → Bid → (k n : ℕ) → List ℕ → Type 0
Figured R t b k n sheet = (y : ℕ) → y < n → Stands (figures_in R t b y) sheet (figure_place k y)

-- whose figures are to stand at place k: bid k's, and after the places of all bids those of an application at its administrative price
unfoldable pub placed : Round → (p k : ℕ) → Row
placed R p k = pick (ltb k most_bids) (row_of R p k) (admin_row R p (k - most_bids))

-- the rows of the first n bids of pot p are right; the administrative prices of the first n applications; the capacity and the figures of a row at place k;
-- those at the first n places; the first n limits
abbrev pub RowsRight : Round → (p n : ℕ) → List ℕ → Type 0
RowsRight R p n sheet = (k : ℕ) → k < n → Stands (row_numbers R p k) sheet (row_place k)

abbrev pub AdminsRight : Round → (p n : ℕ) → List ℕ → Type 0
AdminsRight R p n sheet = (a : ℕ) → a < n → get_or sheet (admins_at + a) 0 ≡ (admin_row R p a).admin

pub record FiguresRight (R : Round) (r : Row) (k : ℕ) (sheet : List ℕ) : Type 0 where
  pub capacity : get_or sheet (figures_place k) 0 ≡ r.bid.capacity
  pub years : (y : ℕ) → y < R.y → Stands (figure_numbers R r y) sheet (figure_place k y)

abbrev pub AllFigures : Round → (p n : ℕ) → List ℕ → Type 0
AllFigures R p n sheet = (k : ℕ) → k < n → FiguresRight R (placed R p k) k sheet

abbrev pub LimitsRight : (years gained : ℕ) (pots : List ℕ) (p n : ℕ) → List ℕ → Type 0
LimitsRight years gained pots p n sheet = (y : ℕ) → y < n → get_or sheet y 0 ≡ pence_per_pound * budget_at years gained pots p y

-- ---- from s to t: the rows of all bids were written; the administrative prices of all applications; the capacity and the figures of one bid at place k; those
-- at all places below n; the limits of the years; the cap, with which there are m limits; the drawn number; the first n of m bids that enter. Nothing else was
-- changed, and t is as long as a sheet
pub record RowsWritten (R : Round) (p : ℕ) (s t : List ℕ) : Type 0 where
  pub right : RowsRight R p most_bids t
  pub kept : Kept rows_at s t
  pub long : length t ≡ sheet_length

pub record AdminsWritten (R : Round) (p : ℕ) (s t : List ℕ) : Type 0 where
  pub right : AdminsRight R p most_apps t
  pub kept : Kept admins_at s t
  pub rest : Rest figures_at s t
  pub long : length t ≡ sheet_length

pub record FiguresOf (R : Round) (t : ℕ) (b : Bid) (k : ℕ) (s u : List ℕ) : Type 0 where
  pub capacity : get_or u (figures_place k) 0 ≡ b.capacity
  pub right : Figured R t b k R.y u
  pub kept : Kept (figures_place k) s u
  pub rest : Rest (figures_place k + figures_width) s u
  pub long : length u ≡ sheet_length

pub record FiguresWritten (R : Round) (p n : ℕ) (s t : List ℕ) : Type 0 where
  pub right : AllFigures R p n t
  pub kept : Kept figures_at s t
  pub rest : Rest (figures_place n) s t
  pub long : length t ≡ sheet_length

pub record LimitsWritten (R : Round) (p : ℕ) (s t : List ℕ) : Type 0 where
  pub right : LimitsRight R.y R.c R.pots p R.y t
  pub rest : Rest entrants_at s t
  pub long : length t ≡ sheet_length

pub record CapWritten (R : Round) (p : ℕ) (s t : List ℕ) (m : ℕ) : Type 0 where
  pub right : pick (ltb R.y m) (some (limit_at t R.y)) none ≡ cap_of R p
  pub least : R.y ≤ m
  pub most : m ≤ R.y + 1
  pub kept : Kept R.y s t
  pub rest : Rest entrants_at s t
  pub long : length t ≡ sheet_length

pub record DrawnWritten (R : Round) (p : ℕ) (s t : List ℕ) : Type 0 where
  pub right : number_in (drawn_in t) ≡ drawn_of R p
  pub kept : Kept drawn_place s t
  pub rest : Rest entrants_at s t
  pub long : length t ≡ sheet_length

pub record Entered (m : ℕ) (s t : List ℕ) (n : ℕ) : Type 0 where
  pub few : n ≤ m
  pub right : entrants t n ≡ sift (in_auction s) (below m)
  pub kept : Kept entrants_at s t
  pub rest : Rest admins_at s t
  pub long : length t ≡ sheet_length

-- the size of a round's sheet that has m limits, where n bids enter
abbrev pub size_of : Round → (m n : ℕ) → Size
size_of R m n = record { years = R.y; columns = m; bids = R.b; applications = R.n; entered = n }
