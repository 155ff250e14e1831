-- What is known of a file that is not turned away: every record satisfies its rule. Assumes nothing.
use Prim.Native.Nat.{ℕ, zero, suc, ◌+◌, ◌*◌, ◌%◌, ◌≤◌, ◌<◌}
use Rattle.std.specs.Prelude.{◌≡◌, refl, Bool, true, false, List, ◌⊎◌, ltb, length}
use Rattle.std.proofs.Common.{sym, ap, ◌∙◌, inl, inr, ⊎_elim, not-suc-le-zero, add-one}
use Rattle.rules.specs.Bytes.{le}
use native.Mathlib.Omega.{arith}
use Rattle.std.proofs.Math.Decide.{dec_lt}
use Rattle.rules.specs.Names.{most_years, most_pots, most_techs, most_apps, most_bids, year_width, pot_width, tech_width, app_width, bid_width, delivery}
use Rattle.rules.specs.Names.{cap_width, caps_added, drawn_width, drawn_added, highest_cap, no_cap}
use Rattle.rules.specs.Names.{most_deliveries, short_year, long_year, whole, highest_budget, highest_price, price_step, largest_capacity, bids_each, bids_a_year}
use Rattle.rules.specs.Lists.{given, pick, how_many}
use Rattle.rules.specs.File.{Round, round_of, sections, deliveries, year_at, pots_told, gained_told, budget_at, cap_at, tech_at, app_at, bid_at, pots_at, techs_at, apps_at}
use Rattle.rules.specs.File.{bids_at}
use Rattle.rules.specs.Refusals.{refusal, or_fault, scan, count_fault, record_fault, section, year_fault, pot_fault, tech_fault, app_fault, seven_of, eight_of, nine_of}
use Rattle.rules.specs.Refusals.{bid_fault, same_app?, same_year?, eleven_of, judged, reading, IsAccepted}
use Rattle.rules.specs.Reading.{Reading}
use Rattle.laws_reading.specs.Walk.{or_passed}

-- a number given that is 0 though the other is not: the rule holds
pub holds : {P : Type 0} (q : Dec P) (a b : ℕ) → given q a b ≡ 0 → (b ≡ 0 → ⊥) → P × (a ≡ 0)
unfolding given
holds (yes p) a b e h = (p, e)
holds (no n) a b e h = absurd (h e)

pub all_passed : (f : ℕ → ℕ) (w base i k : ℕ) (r : Reading) → refusal (scan f w base i k r) ≡ 0 → ((j : ℕ) → j < k → f (i + j) ≡ 0) × (refusal r ≡ 0)
unfolding scan
all_passed f w base i zero r e = (λ j h. absurd (not-suc-le-zero h), e)
all_passed f w base i (suc k) r e =
    let p = or_passed _ _ _ e in
    let h = all_passed f w base (i + 1) k r p.1 in
    let z : i + 0 ≡ i = omega arith in (
      λ j. elim j as (λ (j : ℕ). j < suc k → f (i + j) ≡ 0)
          [ zero ↦ (λ l. ap f z ∙ p.0) | suc j ↦ (λ l. let q : i + suc j ≡ i + 1 + j = omega arith in ap f q ∙ h.0 j (omega arith)) ],
      h.1,
    )

-- an accepted section: its count is in range, each record is whole and nothing is wrong with it, and the rest is accepted
pub record Section (n low high width : ℕ) (recs : List ℕ) (fault : ℕ → ℕ) (r : Reading) : Type 0 where
  pub least : low ≤ n
  pub most : n ≤ high
  pub whole : (i : ℕ) → i < n → i * width + width ≤ length recs
  pub right : (i : ℕ) → i < n → fault i ≡ 0
  pub rest : refusal r ≡ 0

pub section_right : (told : ℕ → ℕ) (s : List ℕ) (at low high width : ℕ) (recs : List ℕ) (fault : ℕ → ℕ) (r : Reading)
    → refusal (section told s at low high width recs fault r) ≡ 0 → Section (told (le 2 s at)) low high width recs fault r
unfolding section record_fault count_fault
section_right told s at low high width recs fault r e =
    let p = or_passed _ _ _ e in
    let h = all_passed _ _ _ 0 (told (le 2 s at)) r p.1 in
    let g : (i : ℕ) → i < told (le 2 s at) → (i * width + width ≤ length recs) × (fault i ≡ 0) = λ i l.
    let z : 0 + i ≡ i = omega arith in holds _ _ _ (ap (record_fault recs width fault) (sym z) ∙ h.0 i l) (λ q. omega arith) in
    let c = holds _ _ _ p.0 (λ q. omega arith) in
    let b = holds _ _ _ c.1 (λ q. omega arith) in
    record { least = b.0.0; most = b.0.1; whole = λ i l. (g i l).0; right = λ i l. (g i l).1; rest = h.1 }

-- the whole records of a section end within its part
pub all_whole : (n width : ℕ) (recs : List ℕ) → ((i : ℕ) → i < n → i * width + width ≤ length recs) → n * width ≤ length recs
all_whole zero width recs h = omega arith
all_whole (suc n) width recs h = omega (arith, h n (omega arith))

-- the first of two faults is none: both are none
pub none_of : (m k : ℕ) → or_fault m k ≡ 0 → (m ≡ 0) × (k ≡ 0)
unfolding or_fault
none_of zero k e = (refl, e)
none_of (suc m) k e = absurd (omega arith)

-- ---- the rules of the records

pub record YearRight (years : List ℕ) (i : ℕ) : Type 0 where
  pub days_least : short_year ≤ (year_at years i).days
  pub days_most : (year_at years i).days ≤ long_year
  pub kind : (year_at years i).kind ≤ delivery
  pub tlm : (year_at years i).tlm ≤ whole
  pub first : (year_at years i).kind ≡ 0 → 0 < i
  pub next : (year_at years i).kind ≡ delivery → (deliveries years i ≡ i) × (deliveries years i < most_deliveries)

pub year_right : (years : List ℕ) (i : ℕ) → year_fault years i ≡ 0 → YearRight years i
unfolding year_fault
year_right years i e =
    let h = (holds _ _ _ e (λ q. omega arith)).0 in
    record { days_least = h.0; days_most = h.1.0; kind = h.1.1.0; tlm = h.1.1.1.0; first = h.1.1.1.1.0; next = h.1.1.1.1.1 }

pub record PotRight (y c : ℕ) (pots : List ℕ) (i : ℕ) : Type 0 where
  pub budget : (k : ℕ) → k < y → budget_at y c pots i k ≤ highest_budget
  pub cap : 0 < c → (cap_at y c pots i ≡ no_cap → ⊥) → cap_at y c pots i ≤ highest_cap

pub pot_right : (y c : ℕ) (pots : List ℕ) (i : ℕ) → pot_fault y c pots i ≡ 0 → PotRight y c pots i
unfolding pot_fault
pot_right y c pots i e = let h = (holds _ _ _ e (λ q. omega arith)).0 in record { budget = h.0; cap = h.1 }

pub record TechRight (y d p : ℕ) (techs : List ℕ) (i : ℕ) : Type 0 where
  pub pot : (tech_at y techs i).pot < p
  pub rqm : (tech_at y techs i).rqm ≤ whole
  pub load : (k : ℕ) → k < y → (tech_at y techs i).load k ≤ whole
  pub reference : (k : ℕ) → k < y → (tech_at y techs i).reference k ≤ highest_price
  pub admin : (k : ℕ) → k < y → k < d → (price_step ≤ (tech_at y techs i).admin k)
      × (((tech_at y techs i).admin k ≤ highest_price) × ((tech_at y techs i).admin k % price_step ≡ 0))
  pub no_admin : (k : ℕ) → k < y → d ≤ k → (tech_at y techs i).admin k ≡ 0

pub tech_right : (y d p : ℕ) (techs : List ℕ) (i : ℕ) → tech_fault y d p techs i ≡ 0 → TechRight y d p techs i
unfolding tech_fault
tech_right y d p techs i e =
    let h = (holds _ _ _ e (λ q. omega arith)).0 in
    record {
      pot = h.0;
      rqm = h.1.0;
      load = λ k l. (h.1.1 k l).0;
      reference = λ k l. (h.1.1 k l).1.0;
      admin = λ k l. (h.1.1 k l).1.1.0;
      no_admin = λ k l. (h.1.1 k l).1.1.1;
    }

pub record AppRight (years : List ℕ) (d t : ℕ) (apps : List ℕ) (i : ℕ) : Type 0 where
  pub tech : (app_at apps i).tech < t
  pub year : (app_at apps i).year < d
  pub days_some : 0 < (app_at apps i).days
  pub days_most : (app_at apps i).days ≤ (year_at years (app_at apps i).year).days
  pub capacity_some : 0 < (app_at apps i).capacity
  pub capacity_most : (app_at apps i).capacity ≤ largest_capacity
  pub draw : (k : ℕ) → k < i → (app_at apps k).draw ≡ (app_at apps i).draw → ⊥

pub app_right : (years : List ℕ) (d t : ℕ) (apps : List ℕ) (i : ℕ) → app_fault years d t apps i ≡ 0 → AppRight years d t apps i
unfolding app_fault
app_right years d t apps i e =
    let h = (holds _ _ _ e (λ q. omega arith)).0 in
    record {
      tech = h.0;
      year = h.1.0;
      days_some = h.1.1.0;
      days_most = h.1.1.1.0;
      capacity_some = h.1.1.1.1.0;
      capacity_most = h.1.1.1.1.1.0;
      draw = h.1.1.1.1.1.1;
    }

pub record BidRight (R : Round) (i : ℕ) : Type 0 where
  pub app : (bid_at R.bids i).app < R.n
  pub year : (bid_at R.bids i).year < R.d
  pub days_some : 0 < (bid_at R.bids i).days
  pub days_most : (bid_at R.bids i).days ≤ (year_at R.years (bid_at R.bids i).year).days
  pub capacity_some : 0 < (bid_at R.bids i).capacity
  pub capacity_most : (bid_at R.bids i).capacity ≤ (app_at R.apps (bid_at R.bids i).app).capacity
  pub not_earlier : (app_at R.apps (bid_at R.bids i).app).year ≤ (bid_at R.bids i).year
  pub same_year : (app_at R.apps (bid_at R.bids i).app).year ≡ (bid_at R.bids i).year
      → (bid_at R.bids i).days ≤ (app_at R.apps (bid_at R.bids i).app).days
  pub price : (bid_at R.bids i).price ≤ (tech_at R.y R.techs (app_at R.apps (bid_at R.bids i).app).tech).admin (bid_at R.bids i).year
  pub differ : (k : ℕ) → k < i → ((bid_at R.bids k).app ≡ (bid_at R.bids i).app) × ((bid_at R.bids k).price ≡ (bid_at R.bids i).price) → ⊥
  pub each : how_many i (λ k. same_app? R k i) < bids_each
  pub a_year : how_many i (λ k. same_year? R k i) < bids_a_year

pub bid_right : (R : Round) (i : ℕ) → bid_fault R i ≡ 0 → BidRight R i
unfolding bid_fault seven_of eight_of nine_of
bid_right R i e =
    let h = (holds _ _ _ (none_of _ _ e).0 (λ q. omega arith)).0 in
    let r = none_of _ _ (none_of _ _ e).1 in
    let n = (holds _ _ _ r.1 (λ q. omega arith)).0 in
    record {
      app = h.0;
      year = h.1.0;
      days_some = h.1.1.0;
      days_most = h.1.1.1.0;
      capacity_some = h.1.1.1.1.0;
      capacity_most = h.1.1.1.1.1.0;
      not_earlier = h.1.1.1.1.1.1.0;
      same_year = h.1.1.1.1.1.1.1.0;
      price = h.1.1.1.1.1.1.1.1;
      differ = (holds _ _ _ r.0 (λ q. omega arith)).0;
      each = n.0;
      a_year = n.1;
    }

-- the lowest bid of an application in a year is a multiple of 10
abbrev pub LowestEven : Round → ℕ → Type 0
LowestEven R i =
    ((k : ℕ) → k < R.b → ((bid_at R.bids k).app ≡ (bid_at R.bids i).app) × ((bid_at R.bids k).year ≡ (bid_at R.bids i).year)
    → (bid_at R.bids i).price ≤ (bid_at R.bids k).price)
    → (bid_at R.bids i).price % price_step ≡ 0

pub lowest_right : (R : Round) (i : ℕ) → eleven_of R i ≡ 0 → LowestEven R i
unfolding eleven_of
lowest_right R i e = (holds _ _ _ e (λ q. omega arith)).0

-- ---- the delivery years are the first ones

-- one year more
pub one_more_year : (years : List ℕ) (i : ℕ) {d k : ℕ} → d ≡ deliveries years i → k ≡ (year_at years i).kind → d + k ≡ deliveries years (i + 1)
unfolding deliveries
one_more_year years i p q = rw (add-one i, p, q)

-- a kind is 0 or 1
kind_of : {A : Type 0} (k : ℕ) → k ≤ delivery → (k ≡ 0 → A) → (k ≡ delivery → A) → A
kind_of zero h f g = f refl
kind_of (suc zero) h f g = g refl
kind_of (suc (suc k)) h f g = absurd (omega arith)

module _ (years : List ℕ) where
  -- of years that are right: no more delivery years than years, and at most four
  pub deliveries_most : (n : ℕ) → ((i : ℕ) → i < n → YearRight years i) → (deliveries years n ≤ n) × (deliveries years n ≤ most_deliveries)
  unfolding deliveries
  deliveries_most zero h = (omega arith, omega arith)
  deliveries_most (suc n) h =
      let r = deliveries_most n (λ i l. h i (omega arith)) in
      let z = h n (omega arith) in
      (omega (arith, r, z.kind), kind_of (year_at years n).kind z.kind (λ e. omega (arith, r)) (λ e. omega (arith, z.next e)))

  -- year i is a delivery year exactly where i is below their number d
  abbrev pub First : (d i : ℕ) → Type 0
  First d i = (i < d → (year_at years i).kind ≡ delivery) × ((year_at years i).kind ≡ delivery → i < d)

  pub delivery_first : (n : ℕ) → ((i : ℕ) → i < n → YearRight years i) → (i : ℕ) → i < n → First (deliveries years n) i
  unfolding deliveries
  delivery_first zero h i l = absurd (omega arith)
  delivery_first (suc n) h i l =
      let z = h n (omega arith) in
      let most = (deliveries_most n (λ j k. h j (omega arith))).0 in
      let ih : i < n → First (deliveries years n) i = delivery_first n (λ j k. h j (omega arith)) i in
      kind_of (year_at years n).kind z.kind (λ e. none e most ih) (λ e. some e (z.next e).0 ih)
    where
      decided : {A : Type 0} → Dec (i < n) → (i < n → A) → (i ≡ n → A) → A
      decided (yes a) f g = f a
      decided (no b) f g = g (omega arith)

      none : (year_at years n).kind ≡ 0 → deliveries years n ≤ n → (i < n → First (deliveries years n) i) → First (deliveries years n + (year_at years n).kind) i
      none e most ih = decided (dec_lt i n)
          (λ a. (λ b. (ih a).0 (omega arith), λ b. omega (arith, (ih a).1 b)))
          (λ a. (λ b. absurd (omega arith), λ b. absurd (omega (arith, ap (λ (j : ℕ). (year_at years j).kind) a))))

      some : (year_at years n).kind ≡ 1 → deliveries years n ≡ n → (i < n → First (deliveries years n) i) → First (deliveries years n + (year_at years n).kind) i
      some e d ih = decided (dec_lt i n)
          (λ a. (λ b. (ih a).0 (omega arith), λ b. omega arith))
          (λ a. (λ b. ap (λ (j : ℕ). (year_at years j).kind) a ∙ e, λ b. omega arith))

-- ---- the whole file

-- the counts are those of the file
pub record Counts (s : List ℕ) (R : Round) : Type 0 where
  pub y : R.y ≡ le 2 s 0
  pub c : R.c ≡ gained_told (le 2 s (pots_at R.y))
  pub p : R.p ≡ pots_told (le 2 s (pots_at R.y))
  pub t : R.t ≡ le 2 s (techs_at R.y R.c R.p)
  pub n : R.n ≡ le 2 s (apps_at R.y R.c R.p R.t)
  pub b : R.b ≡ le 2 s (bids_at R.y R.c R.p R.t R.n)
  pub d : R.d ≡ deliveries R.years R.y

pub counts : (s : List ℕ) → Counts s (round_of s)
unfolding round_of sections
counts s = record { y = refl; c = refl; p = refl; t = refl; n = refl; b = refl; d = refl }

-- a pot's record has gained nothing, a cap, or a cap and a drawn number: so many bytes
abbrev pub GainedTold : (c : ℕ) → Type 0
GainedTold c = (c ≡ 0) ⊎ ((c ≡ cap_width) ⊎ (c ≡ cap_width + drawn_width))

pub gained_told_lem : (count : ℕ) → GainedTold (gained_told count)
unfolding gained_told
gained_told_lem n = of (ltb n caps_added) (ltb n (caps_added + drawn_added))
  where
    of : (a b : Bool) → GainedTold (pick a 0 (pick b cap_width (cap_width + drawn_width)))
    of true b = inl refl
    of false true = inr (inl refl)
    of false false = inr (inr refl)

pub gained_most : {c : ℕ} → GainedTold c → c ≤ cap_width + drawn_width
gained_most h = ⊎_elim (λ e. omega arith) (⊎_elim (λ e. omega arith) (λ e. omega arith)) h

-- a record that has gained bytes has all those of a cap; one that has gained more than a cap, all those of a drawn number as well
pub whole_gained : {c : ℕ} → GainedTold c → (c ≡ 0 → ⊥) → cap_width ≤ c
whole_gained h z = ⊎_elim (λ e. absurd (z e)) (⊎_elim (λ e. omega arith) (λ e. omega arith)) h

pub whole_drawn : {c : ℕ} → GainedTold c → cap_width < c → cap_width + drawn_width ≤ c
whole_drawn h l = ⊎_elim (λ e. absurd (omega arith)) (⊎_elim (λ e. absurd (omega arith)) (λ e. omega arith)) h

-- What the tables of an accepted file are good for
pub record Sound (R : Round) : Type 0 where
  -- the counts
  pub years_some : 1 ≤ R.y
  pub years_most : R.y ≤ most_years
  pub few : R.d ≤ R.y
  pub deliveries_few : R.d ≤ most_deliveries
  pub pots_some : 1 ≤ R.p
  pub pots_few : R.p ≤ most_pots
  pub techs_few : R.t ≤ most_techs
  pub apps_few : R.n ≤ most_apps
  pub bids_few : R.b ≤ most_bids
  pub gained_told_lem : GainedTold R.c
  -- the records end within their parts
  pub years_whole : R.y * year_width ≤ length R.years
  pub pots_whole : R.p * pot_width R.y R.c ≤ length R.pots
  pub techs_whole : R.t * tech_width R.y ≤ length R.techs
  pub apps_whole : R.n * app_width ≤ length R.apps
  pub bids_whole : R.b * bid_width ≤ length R.bids
  -- each record is right
  pub year : (i : ℕ) → i < R.y → YearRight R.years i
  pub budget_most : (p k : ℕ) → p < R.p → k < R.y → budget_at R.y R.c R.pots p k ≤ highest_budget
  pub cap_right : (p : ℕ) → p < R.p → 0 < R.c → (cap_at R.y R.c R.pots p ≡ no_cap → ⊥) → cap_at R.y R.c R.pots p ≤ highest_cap
  pub tech : (i : ℕ) → i < R.t → TechRight R.y R.d R.p R.techs i
  pub app : (i : ℕ) → i < R.n → AppRight R.years R.d R.t R.apps i
  pub bid : (i : ℕ) → i < R.b → BidRight R i
  pub lowest : (i : ℕ) → i < R.b → LowestEven R i
  -- the delivery years are the first
  pub prefix : (i : ℕ) → i < R.y → First R.years R.d i

module _ (R : Round) (S : Sound R) where
  pub tech_pot : (t : ℕ) → t < R.t → (tech_at R.y R.techs t).pot < R.p
  tech_pot t h = (S.tech t h).pot

  pub admin_most : (t k : ℕ) → t < R.t → k < R.d → (tech_at R.y R.techs t).admin k ≤ highest_price
  admin_most t k h l = ((S.tech t h).admin k (omega (arith, S.few)) l).1.0

  pub app_tech : (a : ℕ) → a < R.n → (app_at R.apps a).tech < R.t
  app_tech a h = (S.app a h).tech

  pub app_year : (a : ℕ) → a < R.n → (app_at R.apps a).year < R.d
  app_year a h = (S.app a h).year

  pub bid_app : (k : ℕ) → k < R.b → (bid_at R.bids k).app < R.n
  bid_app k h = (S.bid k h).app

  pub bid_year : (k : ℕ) → k < R.b → (bid_at R.bids k).year < R.d
  bid_year k h = (S.bid k h).year

  pub bid_price : (k : ℕ) → k < R.b
      → (bid_at R.bids k).price ≤ (tech_at R.y R.techs (app_at R.apps (bid_at R.bids k).app).tech).admin (bid_at R.bids k).year
  bid_price k h = (S.bid k h).price

  pub differ : (k i : ℕ) → k < i → i < R.b → (bid_at R.bids k).app ≡ (bid_at R.bids i).app → (bid_at R.bids k).price ≡ (bid_at R.bids i).price → ⊥
  differ k i l h p q = (S.bid i h).differ k l (p, q)

pub sound_of : (R : Round) (s : List ℕ) (r : Reading) → Counts s R → refusal (judged R s r) ≡ 0 → Sound R × (refusal r ≡ 0)
unfolding judged
sound_of R s r C e =
    let Y = section_right _ _ _ _ _ _ _ _ _ e in
    let P = section_right _ _ _ _ _ _ _ _ _ Y.rest in
    let T = section_right _ _ _ _ _ _ _ _ _ P.rest in
    let N = section_right _ _ _ _ _ _ _ _ _ T.rest in
    let B = section_right _ _ _ _ _ _ _ _ _ N.rest in
    let year : (i : ℕ) → i < R.y → YearRight R.years i = λ i l. year_right R.years i (Y.right i (omega (arith, C.y))) in
    let pot : (i : ℕ) → i < R.p → PotRight R.y R.c R.pots i = λ i l. pot_right R.y R.c R.pots i (P.right i (omega (arith, C.p))) in
    let most = deliveries_most R.years R.y year in
    let last = all_passed _ _ _ _ _ r (or_passed _ _ _ B.rest).1 in (
      record {
        years_some = omega (arith, C.y, Y.least);
        years_most = omega (arith, C.y, Y.most);
        few = omega (arith, C.d, most);
        deliveries_few = omega (arith, C.d, most);
        pots_some = omega (arith, C.p, P.least);
        pots_few = omega (arith, C.p, P.most);
        techs_few = omega (arith, C.t, T.most);
        apps_few = omega (arith, C.n, N.most);
        bids_few = omega (arith, C.b, B.most);
        gained_told_lem = rw C.c (gained_told_lem (le 2 s (pots_at R.y)));
        years_whole = all_whole R.y year_width R.years (λ i l. Y.whole i (omega (arith, C.y)));
        pots_whole = all_whole R.p (pot_width R.y R.c) R.pots (λ i l. P.whole i (omega (arith, C.p)));
        techs_whole = all_whole R.t (tech_width R.y) R.techs (λ i l. T.whole i (omega (arith, C.t)));
        apps_whole = all_whole R.n app_width R.apps (λ i l. N.whole i (omega (arith, C.n)));
        bids_whole = all_whole R.b bid_width R.bids (λ i l. B.whole i (omega (arith, C.b)));
        year = year;
        budget_most = λ i k l h. (pot i l).budget k h;
        cap_right = λ i l. (pot i l).cap;
        tech = λ i l. tech_right R.y R.d R.p R.techs i (T.right i (omega (arith, C.t)));
        app = λ i l. app_right R.years R.d R.t R.apps i (N.right i (omega (arith, C.n)));
        bid = λ i l. bid_right R i (B.right i (omega (arith, C.b)));
        lowest = λ i l. let z : 0 + i ≡ i = omega arith in lowest_right R i (ap (eleven_of R) (sym z) ∙ last.0 i l);
        prefix = λ i l. rw C.d (delivery_first R.years R.y year i l);
      },
      last.1,
    )

-- every record of an accepted file satisfies its rule
pub accepted : (s : List ℕ) → IsAccepted s → Sound (round_of s)
unfolding reading
accepted s e = (sound_of (round_of s) s _ (counts s) e).0
