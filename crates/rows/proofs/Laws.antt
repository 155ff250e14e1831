-- The laws of a bid's numbers, over plain variables: one for each return and each turn of a loop. Assumes nothing.
use Prim.Native.Nat.{ℕ, suc, ◌-◌, ◌*◌, ◌≤◌, ◌<◌}
use mathlib.Core.Path.{◌≡◌, refl, sym, ap, subst, ◌∙◌}
use mathlib.Core.Bool.{Bool, true, false}
use mathlib.Core.List.{List, [], ◌∷◌}
use native.Mathlib.Omega.{arith}
use native.Mathlib.Nat.{zero-mul, mul-zero, mul-le-mul, mul-le-mul_right}
use lib.ListN.{length}
use lib.Dec.{eqb}
use borrow.Author.Tests.{lt-ltb, le-ltb, eq-eqb, ne_eqb}
use Rattle.rules.specs.Names.{year_width, tech_width, app_width, whole, long_year, largest_capacity, highest_price, day_hours}
use Rattle.rules.specs.Value.{hours_of, most_energy, most_share}
use Rattle.rules.specs.File.{Round, App, Bid, year_at, tech_at, app_at, bid_at}
use Rattle.rules.specs.Round.{blank, energy_of, row_for, at_admin_price, mine, app_mine}
use Rattle.laws_reading.specs.Reading.{Sound}
use Rattle.laws_reading.specs.Reading as r
use Rattle.laws_round.specs.Bids.{app_pot, mine_own, mine_in, app_mine_lem}
use Rattle.layout.specs.Layout.{Room}
use Rattle.layout.proofs.Laws.{read_in}
use Rattle.sheet.specs.Sheet.{entered}
use Rattle.rows.specs.Factors.{FactorsOf}
use Rattle.rows.specs.declared.factors.Factors.{Factors}
use Rattle.rows.specs.Rows.{row_of, row_numbers, figure_numbers, figures_in}

-- ---- records of the file

module _ (R : Round) (S : Sound R) where
  pub year_room : (y : ℕ) → y < R.y → Room R.years year_width y
  year_room y h = omega (arith, S.years_whole)

  pub tech_room : (t : ℕ) → t < R.t → Room R.techs (tech_width R.y) t
  tech_room t h = omega (arith, S.techs_whole, mul-le-mul_right {m = suc t} (tech_width R.y) h)

  pub app_room : (a : ℕ) → a < R.n → Room R.apps app_width a
  app_room a h = omega (arith, S.apps_whole)

  -- the technology and the year of an application that was read
  module _ (a : ℕ) (h : a < R.n) {x : App} (e : x ≡ app_at R.apps a) where
    pub its_tech : x.tech < R.t
    its_tech = rw e (S.app a h).tech

    pub its_year : x.year < R.y
    its_year = rw e (let l : (app_at R.apps a).year < R.y = omega (arith, (S.app a h).year, S.few) in l)

-- ---- applications at their administrative prices, and bids

pub at_admin_is : (R : Round) (a : ℕ) {x : App} {price : ℕ} → x ≡ app_at R.apps a → price ≡ (tech_at R.y R.techs x.tech).admin x.year
    → record { app = a; year = x.year; days = x.days; capacity = x.capacity; price = price } ≡ at_admin_price R a
unfolding at_admin_price
at_admin_is R a ex ep = λ j. record {
  app = a;
  year = (ex j).year;
  days = (ex j).days;
  capacity = (ex j).capacity;
  price = (ep ∙ ap (λ (x : App). (tech_at R.y R.techs x.tech).admin x.year) ex) j;
}

-- what is known of each bid, and of each application at its administrative price
pub record Good (R : Round) (x : Bid) : Type 0 where
  pub app : x.app < R.n
  pub year : x.year < R.d
  pub days : x.days ≤ long_year
  pub capacity : x.capacity ≤ largest_capacity
  pub price : x.price ≤ highest_price

module _ (R : Round) (S : Sound R) where
  good_bid : (k : ℕ) → k < R.b → Good R (bid_at R.bids k)
  good_bid k h =
      let b = S.bid k h in
      record {
        app = b.app;
        year = b.year;
        days = omega (arith, b.days_most, (S.year (bid_at R.bids k).year (omega (arith, b.year, S.few))).days_most);
        capacity = omega (arith, b.capacity_most, (S.app (bid_at R.bids k).app b.app).capacity_most);
        price = omega (arith, b.price, r.admin_most R S _ (bid_at R.bids k).year (S.app (bid_at R.bids k).app b.app).tech b.year);
      }

  good_app : (a : ℕ) → a < R.n → Good R (at_admin_price R a)
  unfolding at_admin_price
  good_app a h =
      let x = S.app a h in
      record {
        app = h;
        year = x.year;
        days = omega (arith, x.days_most, (S.year (app_at R.apps a).year (omega (arith, x.year, S.few))).days_most);
        capacity = x.capacity_most;
        price = r.admin_most R S _ (app_at R.apps a).year x.tech x.year;
      }

  -- of one that was read
  pub good : (k : ℕ) → k < R.b → {x : Bid} → x ≡ bid_at R.bids k → Good R x
  good k h e = subst (Good R) (sym e) (good_bid k h)

  pub good_own : (a : ℕ) → a < R.n → {x : Bid} → x ≡ at_admin_price R a → Good R x
  good_own a h e = subst (Good R) (sym e) (good_app a h)

-- the test of an application's pot q, where x is the application; and of a bid's, on the test s of its application
pub app_mine_is : (R : Round) (p a : ℕ) → a < R.n → {x : App} {q : ℕ} → x ≡ app_at R.apps a → q ≡ (tech_at R.y R.techs x.tech).pot
    → eqb q p ≡ app_mine R p a
app_mine_is R p a h ex eq =
    ap (λ (q : ℕ). eqb q p) (eq ∙ ap (λ (x : App). (tech_at R.y R.techs x.tech).pot) ex) ∙ sym (app_mine_lem R p a h)

pub mine_is : (R : Round) (p k : ℕ) → k < R.b → {x : Bid} {s : Bool} → x.app < R.n → x ≡ bid_at R.bids k → s ≡ app_mine R p x.app → s ≡ mine R p k
mine_is R p k h l ex es = es ∙ app_mine_lem R p _ l ∙ ap (λ (x : Bid). eqb (app_pot R x.app) p) ex ∙ sym (mine_own R p k h)

-- ---- hours

module _ (y d first days : ℕ) where
  pub hours_before : y < d → 0 ≡ hours_of y d first days
  unfolding hours_of
  hours_before h = rw (lt-ltb y d h)

  pub hours_first : d ≤ y → y ≡ d → day_hours * first ≡ hours_of y d first days
  unfolding hours_of
  hours_first h e = rw (le-ltb y d h, eq-eqb y d e)

  pub hours_later : d ≤ y → (y ≡ d → ⊥) → day_hours * days ≡ hours_of y d first days
  unfolding hours_of
  hours_later h n = rw (le-ltb y d h, ne_eqb y d n)

-- ---- the numbers of a bid

pub energy_most : {load hours capacity : ℕ} → load ≤ whole → hours ≤ day_hours * long_year → capacity ≤ largest_capacity
    → (hours * capacity ≤ day_hours * long_year * largest_capacity) × (load * (hours * capacity) ≤ most_energy)
energy_most a b c = let h = mul-le-mul b c in (h, mul-le-mul a h)

pub share_most : (tlm : ℕ) {rqm : ℕ} → rqm ≤ whole → (whole - tlm) * rqm ≤ most_share
share_most tlm h = let l : whole - tlm ≤ whole = omega arith in mul-le-mul l h

-- numbers of year y and of technology t that were read in the parts of the file
module _ (R : Round) (S : Sound R) (t y : ℕ) (h : t < R.t) (l : y < R.y) {years techs : List ℕ} (ey : years ≡ R.years) (et : techs ≡ R.techs) where
  pub days_most : {x : ℕ} → x ≡ (year_at years y).days → x ≤ long_year
  days_most e = rw (read_in (λ s. (year_at s y).days) ey e) (S.year y l).days_most

  pub tlm_most : {x : ℕ} → x ≡ (year_at years y).tlm → x ≤ whole
  tlm_most e = rw (read_in (λ s. (year_at s y).tlm) ey e) (S.year y l).tlm

  pub load_most : {x : ℕ} → x ≡ (tech_at R.y techs t).load y → x ≤ whole
  load_most e = rw (read_in (λ s. (tech_at R.y s t).load y) et e) ((S.tech t h).load y l)

  pub rqm_most : {x : ℕ} → x ≡ (tech_at R.y techs t).rqm → x ≤ whole
  rqm_most e = rw (read_in (λ s. (tech_at R.y s t).rqm) et e) (S.tech t h).rqm

  pub reference_most : {x : ℕ} → x ≡ (tech_at R.y techs t).reference y → x ≤ highest_price
  reference_most e = rw (read_in (λ s. (tech_at R.y s t).reference y) et e) ((S.tech t h).reference y l)

  -- the factors, where the first year's days and the capacity are those of bid b
  pub factors_are : (b : Bid) {reference load rqm days tlm hours : ℕ} → reference ≡ (tech_at R.y techs t).reference y → load ≡ (tech_at R.y techs t).load y
      → days ≡ (year_at years y).days → hours ≡ hours_of y b.year b.days days → tlm ≡ (year_at years y).tlm → rqm ≡ (tech_at R.y techs t).rqm
      → FactorsOf R t b y (record { reference = reference; load = load; hours = hours; capacity = b.capacity; kept = whole - tlm; rqm = rqm })
  factors_are b er el ed eh em eq = record {
    reference_is = read_in (λ s. (tech_at R.y s t).reference y) et er;
    load_is = read_in (λ s. (tech_at R.y s t).load y) et el;
    hours_is = eh ∙ ap (hours_of y b.year b.days) (read_in (λ s. (year_at s y).days) ey ed);
    capacity_is = refl;
    kept_is = ap (λ (m : ℕ). whole - m) (read_in (λ s. (year_at s y).tlm) ey em);
    rqm_is = read_in (λ s. (tech_at R.y s t).rqm) et eq;
  }

pub figure_is : (R : Round) (t y : ℕ) (b : Bid) {f : Factors} {energy share : ℕ} → FactorsOf R t b y f → energy ≡ f.load * (f.hours * f.capacity)
    → share ≡ f.kept * f.rqm → f.reference ∷ energy ∷ share ∷ [] ≡ figures_in R t b y
unfolding figures_in energy_of
figure_is R t y b f ee es = λ j.
    f.reference_is j ∷ (ee ∙ (λ i. f.load_is i * (f.hours_is i * f.capacity_is i))) j ∷ (es ∙ (λ i. f.kept_is i * f.rqm_is i)) j ∷ []

module _ (R : Round) (p k : ℕ) {s : Bool} (e : s ≡ mine R p k) where
  pub bid_in : s ≡ true → k < R.b
  bid_in t = (mine_in R p k (sym e ∙ t)).0

  pub row_blank : s ≡ false → 0 ∷ 0 ∷ 0 ∷ 0 ∷ 0 ∷ 0 ∷ [] ≡ row_numbers R p k
  unfolding row_numbers row_of
  row_blank f = rw (sym e ∙ f)

  pub row_own : {x : Bid} {a : App} {admin : ℕ} → s ≡ true → x ≡ bid_at R.bids k → a ≡ app_at R.apps x.app
      → admin ≡ (tech_at R.y R.techs a.tech).admin x.year
      → entered ∷ x.app ∷ x.year ∷ x.price ∷ a.draw ∷ admin ∷ [] ≡ row_numbers R p k
  unfolding row_numbers row_of row_for
  row_own {x} {a} m ex ea ec =
      let h : a ≡ app_at R.apps (bid_at R.bids k).app = ea ∙ ap (λ (x : Bid). app_at R.apps x.app) ex in
      let c = ec ∙ (λ j. (tech_at R.y R.techs (h j).tech).admin (ex j).year) in
      rw (sym e ∙ m) (λ j. entered ∷ (ex j).app ∷ (ex j).year ∷ (ex j).price ∷ (h j).draw ∷ c j ∷ [])

pub figure_blank : (R : Round) (y : ℕ) → 0 ∷ 0 ∷ 0 ∷ [] ≡ figure_numbers R blank y
unfolding figure_numbers
figure_blank R y = simp (zero-mul, mul-zero)

-- the figures of a row are those of its bid and technology
pub figure_own : (R : Round) (x : Bid) {a : App} → a ≡ app_at R.apps x.app → (y : ℕ) → y < R.y → figures_in R a.tech x y ≡ figure_numbers R (row_for R x) y
unfolding figures_in figure_numbers row_for
figure_own R x ea y h = rw (lt-ltb y R.y h) (λ j.
    let r = tech_at R.y R.techs (ea j).tech in
    r.reference y ∷ (r.load y * energy_of R.years x y) ∷ ((whole - (year_at R.years y).tlm) * r.rqm) ∷ [])

pub row_length : (R : Round) (p k : ℕ) {v : List ℕ} → v ≡ row_numbers R p k → 6 ≡ length v
unfolding row_numbers
row_length R p k e = sym (ap length e)

pub figure_length : (R : Round) (t : ℕ) (b : Bid) (y : ℕ) {v : List ℕ} → v ≡ figures_in R t b y → 3 ≡ length v
unfolding figures_in
figure_length R t b y e = sym (ap length e)
