-- "Units and the round file": the sections of a file, and the fields of their records. Assumes nothing.
use Rattle.std.specs.Prelude.{ℕ, zero, suc, ◌+◌, ◌-◌, ◌*◌, List, ltb}
use Rattle.rules.specs.Names.{count_width, year_width, cap_width, caps_added, drawn_width, drawn_added, pot_width, tech_width, app_width, bid_width}
use Rattle.rules.specs.Lists.{pick}
use Rattle.rules.specs.Bytes.{le, part}
use Rattle.rules.specs.declared.Sections.{Sections}

-- "years: days 2, kind 2 (1 delivery, 0 valuation only), TLM 2"
pub record Year : Type 0 where
  pub days : ℕ
  pub kind : ℕ
  pub tlm : ℕ

abbrev pub year_at : List ℕ → ℕ → Year
year_at s i = record { days = le 2 s (i * year_width); kind = le 2 s (i * year_width + 2); tlm = le 2 s (i * year_width + 4) }

-- how many of the first n years are delivery years: a delivery year's kind is 1 and any other's 0, so the sum of the kinds
unfoldable pub deliveries : List ℕ → ℕ → ℕ
deliveries s zero = 0
deliveries s (suc n) = deliveries s n + (year_at s n).kind

-- "the pots count of such a file has 32,768 added" (02, CR 5), "has 16,384 added as well" (02, CR 6): one of three by what a count of pots has added. "16,384
-- added without 32,768 is refusal 2": then the count is taken as it stands, and is too high
abbrev pub by_added : {A : Type 0} → (count : ℕ) → (nothing caps both : A) → A
by_added n nothing caps both = pick (ltb n caps_added) nothing (pick (ltb n (caps_added + drawn_added)) caps both)

-- how many pots a count tells, and how many bytes each pot's record has then gained
unfoldable pub pots_told : (count : ℕ) → ℕ
pots_told n = by_added n n (n - caps_added) (n - (caps_added + drawn_added))

unfoldable pub gained_told : (count : ℕ) → ℕ
gained_told n = by_added n 0 cap_width (cap_width + drawn_width)

-- "pots: budget 8 for each year", of y years; "a 4-byte cap after its budgets" (02, CR 5), "a 4-byte drawn number after the cap" (02, CR 6), where a record has
-- gained c bytes
abbrev pub budget_at : (y c : ℕ) → List ℕ → (i k : ℕ) → ℕ
budget_at y c s i k = le 8 s (i * pot_width y c + 8 * k)

abbrev pub cap_at : (y c : ℕ) → List ℕ → (i : ℕ) → ℕ
cap_at y c s i = le 4 s (i * pot_width y c + 8 * y)

abbrev pub drawn_at : (y c : ℕ) → List ℕ → (i : ℕ) → ℕ
drawn_at y c s i = le 4 s (i * pot_width y c + (8 * y + cap_width))

-- "technologies: pot 2, RQM 2, then for each year: administrative price 4, reference price 4, load factor 2"
pub record Tech : Type 0 where
  pub pot : ℕ
  pub rqm : ℕ
  pub admin : ℕ → ℕ
  pub reference : ℕ → ℕ
  pub load : ℕ → ℕ

abbrev pub tech_at : (y : ℕ) → List ℕ → ℕ → Tech
tech_at y s i = record {
  pot = le 2 s (i * tech_width y);
  rqm = le 2 s (i * tech_width y + 2);
  admin = λ k. le 4 s (i * tech_width y + (4 + 10 * k));
  reference = λ k. le 4 s (i * tech_width y + (8 + 10 * k));
  load = λ k. le 2 s (i * tech_width y + (12 + 10 * k));
}

-- "applications: technology 2, year 2, first-year days 2, draw 2, capacity 4, declared cost 8". Nothing reads the declared cost
pub record App : Type 0 where
  pub tech : ℕ
  pub year : ℕ
  pub days : ℕ
  pub draw : ℕ
  pub capacity : ℕ

abbrev pub app_at : List ℕ → ℕ → App
app_at s i = record {
  tech = le 2 s (i * app_width);
  year = le 2 s (i * app_width + 2);
  days = le 2 s (i * app_width + 4);
  draw = le 2 s (i * app_width + 6);
  capacity = le 4 s (i * app_width + 8);
}

-- "bids: application 2, year 2, first-year days 2, capacity 4, price 4"
pub record Bid : Type 0 where
  pub app : ℕ
  pub year : ℕ
  pub days : ℕ
  pub capacity : ℕ
  pub price : ℕ

abbrev pub bid_at : List ℕ → ℕ → Bid
bid_at s i = record {
  app = le 2 s (i * bid_width);
  year = le 2 s (i * bid_width + 2);
  days = le 2 s (i * bid_width + 4);
  capacity = le 4 s (i * bid_width + 6);
  price = le 4 s (i * bid_width + 10);
}

-- The parts of a file that its sections' records occupy, and how many records each has: y years, d of them delivery years, p pots that have gained c
-- bytes each, t technologies, n applications, b bids
pub record Round : Type 0 where
  pub years : List ℕ
  pub pots : List ℕ
  pub techs : List ℕ
  pub apps : List ℕ
  pub bids : List ℕ
  pub y : ℕ
  pub d : ℕ
  pub c : ℕ
  pub p : ℕ
  pub t : ℕ
  pub n : ℕ
  pub b : ℕ

-- the offsets of the counts of the last four sections, and of the end, where the counts before them are these
abbrev pub pots_at : (y : ℕ) → ℕ
pots_at y = count_width + y * year_width

abbrev pub techs_at : (y c p : ℕ) → ℕ
techs_at y c p = pots_at y + count_width + p * pot_width y c

abbrev pub apps_at : (y c p t : ℕ) → ℕ
apps_at y c p t = techs_at y c p + count_width + t * tech_width y

abbrev pub bids_at : (y c p t n : ℕ) → ℕ
bids_at y c p t n = apps_at y c p t + count_width + n * app_width

abbrev pub end_at : (y c p t n b : ℕ) → ℕ
end_at y c p t n b = bids_at y c p t n + count_width + b * bid_width

-- "Five sections stand in this order, each after its 2-byte count." The sections of a file whose counts are these
unfoldable pub sections : List ℕ → (y c p t n b : ℕ) → Round
sections s y c p t n b = record {
  years = part s count_width (pots_at y);
  pots = part s (pots_at y + count_width) (techs_at y c p);
  techs = part s (techs_at y c p + count_width) (apps_at y c p t);
  apps = part s (apps_at y c p t + count_width) (bids_at y c p t n);
  bids = part s (bids_at y c p t n + count_width) (end_at y c p t n b);
  y = y;
  d = deliveries (part s count_width (pots_at y)) y;
  c = c;
  p = p;
  t = t;
  n = n;
  b = b;
}

-- the sections of a file, each count read where the section before ends
unfoldable pub round_of : List ℕ → Round
round_of s =
    let y = le count_width s 0 in
    let c = gained_told (le count_width s (pots_at y)) in
    let p = pots_told (le count_width s (pots_at y)) in
    let t = le count_width s (techs_at y c p) in
    let n = le count_width s (apps_at y c p t) in
    let b = le count_width s (bids_at y c p t n) in
    sections s y c p t n b

-- "hands on each section as the part of the file that it occupies": the counts and the places of the sections
unfoldable pub sections_of : Round → Sections
sections_of R = record {
  years = R.y;
  deliveries = R.d;
  gained = R.c;
  pots = R.p;
  technologies = R.t;
  applications = R.n;
  bids = R.b;
  pots_at = pots_at R.y;
  technologies_at = techs_at R.y R.c R.p;
  applications_at = apps_at R.y R.c R.p R.t;
  bids_at = bids_at R.y R.c R.p R.t R.n;
}
