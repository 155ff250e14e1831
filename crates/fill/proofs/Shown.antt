-- The sheet that was filled shows the pot, and is ready to be cleared. Assumes nothing.
use Prim.Native.Nat.{ℕ, ◌+◌, ◌-◌, ◌*◌, ◌≤◌, ◌<◌, min}
use mathlib.Core.Path.{◌≡◌, refl, sym, ap, subst, ◌∙◌}
use mathlib.Core.Bool.{true, false}
use mathlib.Core.List.{List}
use mathlib.Core.Option.{none, some}
use native.Mathlib.Omega.{arith}
use native.Mathlib.Nat.{add-zero, zero-mul, mul-zero}
use lib.ListN.{length, get_or, get_or-eq_default, get_or-replicate}
use lib.Dec.{eqb, ltb}
use borrow.Author.Tests.{lt-ltb, ltb-true, ltb-false}
use Rattle.rules.specs.Names.{most_years, most_apps, most_bids, most_deliveries, highest_price, highest_budget, whole, long_year, largest_capacity, day_hours}
use Rattle.rules.specs.Names.{pence_per_pound}
use Rattle.rules.specs.Lists.{pick, sift, below}
use Rattle.rules.specs.Bytes.{le}
use Rattle.rules.specs.Value.{exact_parts, hours_of, penny, most_energy}
use Rattle.rules.specs.File.{Round, Bid, year_at, budget_at}
use Rattle.rules.specs.Round.{Row, blank, energy_of, cost_of, assemble, mine, app_mine, row_for, budget_of, cap_of, drawn_of, pot_of}
use Rattle.laws_pot.specs.Lists.{case, in_sift, in_below, below_in, sift_same}
use Rattle.laws_reading.specs.Reading.{Sound}
use Rattle.laws_reading.specs.Reading as r
use Rattle.laws_pot.specs.Mono.{Lawful}
use Rattle.laws_round.specs.Bids.{mine_in, mine_out, app_in, app_out, lawful}
use Rattle.sheet.specs.Sheet.{sheet_length, limit_at, entrants, entered, row_standing, row_app, row_year, row_price, row_draw, row_admin, fig_reference}
use Rattle.sheet.specs.Sheet.{fig_energy, fig_share, parts_at, sheet_cost, in_auction, in_test, admin_at, admin_of, pot_in, Ready, places, app_place, admins_at, row_place}
use Rattle.sheet.specs.Sheet.{drawn_place, drawn_in, number_in, capacity_at, figures_place, figure_place}
use Rattle.rows.specs.Rows.{row_of, admin_row, row_numbers, figure_numbers}
use Rattle.rows.proofs.Laws.{Good, good, good_own, row_blank, energy_most, share_most}
use Rattle.fill.specs.Fill.{placed, RowsRight, AdminsRight, AllFigures, LimitsRight, RowsWritten, AdminsWritten, FiguresWritten, LimitsWritten}
use Rattle.fill.specs.Fill.{CapWritten, DrawnWritten, Entered, size_of}
use Rattle.fill.proofs.Laws.{own_test, in_test_lem, price_none, own_place}

-- what has been written
pub record Written (R : Round) (p : ℕ) (sheet : List ℕ) (m n : ℕ) : Type 0 where
  pub length_is : length sheet ≡ sheet_length
  pub rows_right : RowsRight R p most_bids sheet
  pub admins_right : AdminsRight R p most_apps sheet
  pub figures_right : AllFigures R p places sheet
  pub limits_right : LimitsRight R.y R.c R.pots p R.y sheet
  pub cap_right : pick (ltb R.y m) (some (limit_at sheet R.y)) none ≡ cap_of R p
  pub least : R.y ≤ m
  pub most : m ≤ R.y + 1
  pub drawn_right : number_in (drawn_in sheet) ≡ drawn_of R p
  pub entered : entrants sheet n ≡ sift (in_auction sheet) (below R.b)

-- from the steps of the filling: the rows, the prices, the figures of the bids and of the applications, the limits, the cap, the drawn number, the entrants
pub written : {R : Round} {p m n : ℕ} {s t u v w x y d z : List ℕ} → R.y ≤ most_years → RowsWritten R p s t → AdminsWritten R p t u
    → FiguresWritten R p most_bids u v → FiguresWritten R p places v w → LimitsWritten R p w x → CapWritten R p x y m → DrawnWritten R p y d
    → Entered R.b d z n → Written R p z m n
unfolding row_numbers figure_numbers limit_at drawn_in
written {R} {p} {m} {n} {s} {t} {u} {v} {w} {x} {y} {d} {z} hy A B C D E F N G = record {
  length_is = G.long;
  rows_right = λ k h j g.
      after (row_place k + j) (omega arith) ∙ D.rest (row_place k + j) (omega arith)
      ∙ C.rest (row_place k + j) (omega arith) ∙ B.rest (row_place k + j) (omega arith) ∙ A.right k h j g;
  admins_right = λ a h.
      after (admins_at + a) (omega arith) ∙ D.kept (admins_at + a) (omega arith)
      ∙ C.kept (admins_at + a) (omega arith) ∙ B.right a h;
  figures_right = λ k h. record {
    capacity = after (figures_place k) (omega arith) ∙ (D.right k h).capacity;
    years = λ i f j g. after (figure_place k i + j) (omega arith) ∙ (D.right k h).years i f j g;
  };
  limits_right = λ i h. G.kept i (omega arith) ∙ N.kept i (omega arith) ∙ F.kept i h ∙ E.right i h;
  cap_right = ap (λ (n : ℕ). pick (ltb R.y m) (some n) none) (G.kept R.y (omega arith) ∙ N.kept R.y (omega arith)) ∙ F.right;
  least = F.least;
  most = F.most;
  drawn_right = ap number_in (G.kept drawn_place (omega arith)) ∙ N.right;
  entered = G.right ∙ sift_same (in_auction d) (in_auction z) (below R.b) (λ k i. sym (ap (λ (x : ℕ). eqb x entered) (same k)));
}
  where
    -- what stands from the administrative prices on was not changed after the figures
    after : (j : ℕ) → admins_at ≤ j → get_or z j 0 ≡ get_or w j 0
    after j h = G.rest j h ∙ N.rest j (omega arith) ∙ F.rest j (omega arith) ∙ E.rest j (omega arith)

    same : (k : ℕ) → row_standing z k ≡ row_standing d k
    same k = unfold row_standing in G.rest (row_place k) (omega arith)

-- ---- products

same_parts : (d load energy share rqm : ℕ) → d * (load * energy) * (share * rqm) ≡ d * load * energy * share * rqm
same_parts d load energy share rqm = omega arith

no_load : (price reference energy tlm rqm : ℕ) → exact_parts price reference 0 energy tlm rqm ≡ 0
unfolding exact_parts
no_load price reference energy tlm rqm = simp (mul-zero, zero-mul)

-- ---- the numbers of the sheet are those of the rows that the pot reads

module _ (R : Round) (S : Sound R) (p : ℕ) {sheet : List ℕ} {m n : ℕ} (W : Written R p sheet m n) where
  -- also after the last bid, where all is zero
  cell : (k j : ℕ) → j < 6 → get_or sheet (row_place k + j) 0 ≡ get_or (row_numbers R p k) j 0
  unfolding row_numbers
  cell k j h = case (ltb k most_bids)
      (λ t. W.rows_right k (ltb-true k most_bids t) j h)
      (λ t.
      let l = ltb-false k most_bids t in
      let z : length sheet ≤ row_place k + j = omega (arith, W.length_is) in
      let b = row_blank R p k {s = mine R p k} refl (mine_out R p k (let m : R.b ≤ k = omega (arith, S.bids_few) in m)) in
      get_or-eq_default sheet 0 z ∙ sym (get_or-replicate 6 j 0 0 h) ∙ ap (λ (v : List ℕ). get_or v j 0) b)

  module _ (k : ℕ) where
    standing_is : in_auction sheet k ≡ mine R p k
    unfolding row_standing row_numbers
    standing_is =
        ap (λ (s : ℕ). eqb s entered) (ap (λ (i : ℕ). get_or sheet i 0) (sym (add-zero (row_place k))) ∙ cell k 0 (omega arith)) ∙ own_test (mine R p k)

    app_is : row_app sheet k ≡ (row_of R p k).bid.app
    unfolding row_app row_numbers
    app_is = cell k 1 (omega arith)

    year_is : row_year sheet k ≡ (row_of R p k).bid.year
    unfolding row_year row_numbers
    year_is = cell k 2 (omega arith)

    price_is : row_price sheet k ≡ (row_of R p k).bid.price
    unfolding row_price row_numbers
    price_is = cell k 3 (omega arith)

    draw_is : row_draw sheet k ≡ (row_of R p k).draw
    unfolding row_draw row_numbers
    draw_is = cell k 4 (omega arith)

    admin_is : row_admin sheet k ≡ (row_of R p k).admin
    unfolding row_admin row_numbers
    admin_is = cell k 5 (omega arith)

    -- the capacity at place k
    capacity_is : k < places → capacity_at sheet k ≡ (placed R p k).bid.capacity
    unfolding capacity_at
    capacity_is h = (W.figures_right k h).capacity

    -- and the figures there
    module _ (z : ℕ) (h : k < places) (l : z < R.y) where
      reference_is : fig_reference sheet k z ≡ (placed R p k).reference z
      unfolding fig_reference figure_numbers
      reference_is = ap (λ (i : ℕ). get_or sheet i 0) (sym (add-zero (figure_place k z))) ∙ (W.figures_right k h).years z l 0 (omega arith)

      energy_is : fig_energy sheet k z ≡ (placed R p k).load z * energy_of R.years (placed R p k).bid z
      unfolding fig_energy figure_numbers
      energy_is = (W.figures_right k h).years z l 1 (omega arith)

      share_is : fig_share sheet k z ≡ (whole - (year_at R.years z).tlm) * (placed R p k).rqm
      unfolding fig_share figure_numbers
      share_is = (W.figures_right k h).years z l 2 (omega arith)

      -- the exact cost at a strike price is that of the row whose figures they are
      parts_are : (strike : ℕ) {r : Row} → placed R p k ≡ r
          → parts_at sheet k strike z ≡ exact_parts strike (r.reference z) (r.load z) (energy_of R.years r.bid z) (year_at R.years z).tlm r.rqm
      unfolding parts_at exact_parts
      parts_are strike {r} e =
          rw (reference_is, energy_is, share_is, e)
          (same_parts (strike - r.reference z) (r.load z) (energy_of R.years r.bid z) (whole - (year_at R.years z).tlm) r.rqm)

  -- ---- the pot's bids

  bids_are : sift (in_auction sheet) (below R.b) ≡ sift (mine R p) (below R.b)
  bids_are = sift_same _ _ (below R.b) (λ k i. standing_is k)

  -- in a year that is not in the file no bid has a load factor
  load_out : (k z : ℕ) → ltb z R.y ≡ false → (row_of R p k).load z ≡ 0
  unfolding row_of row_for
  load_out k z f = case (mine R p k) (λ t. rw (t, f)) (λ t. rw t)

  cost_in : (k price z : ℕ) → k < most_bids → z < R.y → sheet_cost sheet k price z ≡ cost_of R.years (row_of R p k) price z
  unfolding sheet_cost cost_of placed
  cost_in k price z h l =
      let e : placed R p k ≡ row_of R p k = rw (lt-ltb k most_bids h) in
      rw (admin_is k) (parts_are k z (omega arith) l (min price (row_of R p k).admin) e)

  -- and one that the sheet has no row for costs nothing
  cost_beyond : (k price z : ℕ) → most_bids ≤ k → sheet_cost sheet k price z ≡ cost_of R.years (row_of R p k) price z
  unfolding sheet_cost parts_at cost_of row_of
  cost_beyond k price z h =
      rw (admin_is k, mine_out R p k (let m : R.b ≤ k = omega (arith, S.bids_few) in m))
      (let e : min price 0 - fig_reference sheet k z ≡ 0 = omega arith in
      rw (e, no_load (min price 0) 0 (energy_of R.years blank.bid z) (year_at R.years z).tlm 0) (simp zero-mul))

  cost_is : (k price z : ℕ) → pick (ltb z R.y) (sheet_cost sheet k price z) 0 ≡ cost_of R.years (row_of R p k) price z
  unfolding cost_of
  cost_is k price z = case (ltb z R.y)
      (λ t. rw t (case (ltb k most_bids) (λ u. cost_in k price z (ltb-true k _ u) (ltb-true z _ t)) (λ u. cost_beyond k price z (ltb-false k _ u))))
      (λ t. rw (t, load_out k z t) (sym (no_load _ _ _ _ _)))

  -- ---- its applications

  admin_at_lem : (a : ℕ) → a < most_apps → admin_at sheet a ≡ (admin_row R p a).admin
  unfolding admin_at
  admin_at_lem a h = W.admins_right a h

  apps_are : sift (in_test sheet) (below R.n) ≡ sift (app_mine R p) (below R.n)
  apps_are = sift_same _ _ (below R.n) (λ a i. in_test_lem R S p a sheet (admin_at_lem a (omega (arith, S.apps_few, below_in a R.n i))))

  admin_price_is : (a : ℕ) → admin_of sheet R.n a ≡ (admin_row R p a).admin
  admin_price_is a = case (ltb a R.n)
      (λ t. rw t (admin_at_lem a (omega (arith, S.apps_few, ltb-true a R.n t))))
      (λ t. rw t (price_none R S p a (app_out R p a (ltb-false a R.n t))))

  own_load_out : (a z : ℕ) → ltb z R.y ≡ false → (admin_row R p a).load z ≡ 0
  unfolding admin_row row_for
  own_load_out a z f = case (app_mine R p a) (λ t. rw (t, f)) (λ t. rw t)

  own_cost_in : (a z : ℕ) → a < most_apps → z < R.y
      → parts_at sheet (app_place a) (admin_of sheet R.n a) z ≡ cost_of R.years (admin_row R p a) (admin_row R p a).admin z
  unfolding cost_of
  own_cost_in a z h l =
      let e : min (admin_row R p a).admin (admin_row R p a).admin ≡ (admin_row R p a).admin = omega arith in
      rw (admin_price_is a, e) (parts_are (app_place a) z (omega arith) l (admin_row R p a).admin (own_place R p a))

  own_cost_beyond : (a z : ℕ) → most_apps ≤ a
      → parts_at sheet (app_place a) (admin_of sheet R.n a) z ≡ cost_of R.years (admin_row R p a) (admin_row R p a).admin z
  unfolding parts_at cost_of admin_row
  own_cost_beyond a z h =
      let m = app_out R p a (let m : R.n ≤ a = omega (arith, S.apps_few) in m) in
      let e : 0 - fig_reference sheet (app_place a) z ≡ 0 = omega arith in
      rw (admin_price_is a, m) (rw (e, no_load 0 0 (energy_of R.years blank.bid z) (year_at R.years z).tlm 0) (simp zero-mul))

  admin_cost_is : (a z : ℕ) → pick (ltb z R.y) (parts_at sheet (app_place a) (admin_of sheet R.n a) z) 0
      ≡ cost_of R.years (admin_row R p a) (admin_row R p a).admin z
  unfolding cost_of
  admin_cost_is a z = case (ltb z R.y)
      (λ t. rw t (case (ltb a most_apps) (λ u. own_cost_in a z (ltb-true a _ u) (ltb-true z _ t)) (λ u. own_cost_beyond a z (ltb-false a _ u))))
      (λ t. rw (t, own_load_out a z t) (sym (no_load _ _ _ _ _)))

  -- ---- the capacities, of bids and applications of the pot alone

  bid_capacity_is : (k : ℕ) → pick (in_auction sheet k) (capacity_at sheet k) 0 ≡ (row_of R p k).bid.capacity
  unfolding row_of placed
  bid_capacity_is k =
      case (mine R p k)
      (λ t.
      let h : k < most_bids = omega (arith, (mine_in R p k t).0, S.bids_few) in
      rw (standing_is k ∙ t, t) (capacity_is k (omega arith) ∙ rw (lt-ltb k most_bids h, t)))
      (λ t. rw (standing_is k ∙ t, t))

  app_capacity_is : (a : ℕ) → pick (ltb a R.n) (pick (in_test sheet a) (capacity_at sheet (app_place a)) 0) 0 ≡ (admin_row R p a).bid.capacity
  app_capacity_is a =
      case (ltb a R.n)
      (λ t.
      let h : a < most_apps = omega (arith, S.apps_few, ltb-true a R.n t) in
      rw (t, in_test_lem R S p a sheet (admin_at_lem a h))
      (case (app_mine R p a) (λ u. rw u (own a h)) (λ u. rw u (other a u))))
      (λ t. rw t (other a (app_out R p a (ltb-false a R.n t))))
    where
      own : (a : ℕ) → a < most_apps → capacity_at sheet (app_place a) ≡ (admin_row R p a).bid.capacity
      own a h = capacity_is (app_place a) (omega arith) ∙ ap (λ (r : Row). r.bid.capacity) (own_place R p a)

      other : (a : ℕ) → app_mine R p a ≡ false → 0 ≡ (admin_row R p a).bid.capacity
      other a u = unfold admin_row in rw u

  -- ---- the pot

  budget_is : (z : ℕ) → pick (ltb z R.y) (limit_at sheet z) 0 ≡ budget_of R p z
  unfolding limit_at
  budget_is z = case (ltb z R.y) (λ t. rw t (W.limits_right z (ltb-true z _ t))) (λ t. rw t)

  pub shows : pot_in sheet (size_of R m n) ≡ pot_of R p
  unfolding pot_in pot_of assemble row_of admin_row
  shows = λ i. record {
    bids = bids_are i;
    apps = apps_are i;
    years = R.y;
    scale = penny;
    app = λ k. app_is k i;
    yr = λ k. year_is k i;
    price = λ k. price_is k i;
    cost = λ k price z. cost_is k price z i;
    budget = λ z. budget_is z i;
    draw = λ k. draw_is k i;
    admin = λ k. admin_is k i;
    capacity = λ k. bid_capacity_is k i;
    cap = W.cap_right i;
    drawn = W.drawn_right i;
    admin_price = λ a. admin_price_is a i;
    admin_cost = λ a z. admin_cost_is a z i;
    app_capacity = λ a. app_capacity_is a i;
  }

-- ---- the ranges of a row's numbers

record Bounded (y : ℕ) (r : Row) : Type 0 where
  app : r.bid.app < most_apps
  year : r.bid.year < most_deliveries
  days : r.bid.days ≤ long_year
  capacity : r.bid.capacity ≤ largest_capacity
  price : r.bid.price ≤ highest_price
  draw : r.draw < 65536
  admin : r.admin ≤ highest_price
  rqm : r.rqm ≤ whole
  reference : (z : ℕ) → z < y → r.reference z ≤ highest_price
  load : (z : ℕ) → z < y → r.load z ≤ whole

bounded_blank : (y : ℕ) → Bounded y blank
bounded_blank y = record {
  app = omega arith;
  year = omega arith;
  days = omega arith;
  capacity = omega arith;
  price = omega arith;
  draw = omega arith;
  admin = omega arith;
  rqm = omega arith;
  reference = λ z h. omega arith;
  load = λ z h. omega arith;
}

-- a number of two bytes
two_bytes : (s : List ℕ) (at : ℕ) → ((i : ℕ) → get_or s i 0 < 256) → le 2 s at < 65536
unfolding le
two_bytes s at h = omega (arith, h at, h (at + 1))

hours_most : (y d first days : ℕ) → first ≤ long_year → days ≤ long_year → hours_of y d first days ≤ day_hours * long_year
unfolding hours_of
hours_most y d first days h l = case (ltb y d) (λ t. rw t (omega arith)) (λ t. rw t (case (eqb y d) (λ u. rw u (omega arith)) (λ u. rw u (omega arith))))

module _ (R : Round) (S : Sound R) (p : ℕ) (bytes : (i : ℕ) → get_or R.apps i 0 < 256) where
  bounded_for : {x : Bid} → Good R x → Bounded R.y (row_for R x)
  unfolding row_for
  bounded_for {x} g =
      let t = (S.app x.app g.app).tech in
      record {
        app = omega (arith, g.app, S.apps_few);
        year = omega (arith, g.year, S.deliveries_few);
        days = g.days;
        capacity = g.capacity;
        price = g.price;
        draw = two_bytes R.apps _ bytes;
        admin = r.admin_most R S _ x.year t g.year;
        rqm = (S.tech _ t).rqm;
        reference = λ z l. rw (lt-ltb z R.y l) ((S.tech _ t).reference z l);
        load = λ z l. rw (lt-ltb z R.y l) ((S.tech _ t).load z l);
      }

  bounded : (k : ℕ) → Bounded R.y (row_of R p k)
  unfolding row_of
  bounded k = case (mine R p k) (λ t. rw t (bounded_for (good R S k (mine_in R p k t).0 refl))) (λ t. rw t (bounded_blank R.y))

  bounded_own : (a : ℕ) → Bounded R.y (admin_row R p a)
  unfolding admin_row
  bounded_own a = case (app_mine R p a) (λ t. rw t (bounded_for (good_own R S a (app_in R p a t).0 refl))) (λ t. rw t (bounded_blank R.y))

  bounded_at : (k : ℕ) → Bounded R.y (placed R p k)
  unfolding placed
  bounded_at k = case (ltb k most_bids) (λ t. rw t (bounded k)) (λ t. rw t (bounded_own (k - most_bids)))

  energy_in : (k z : ℕ) → z < R.y → (placed R p k).load z * energy_of R.years (placed R p k).bid z ≤ most_energy
  unfolding energy_of
  energy_in k z h =
      let b = bounded_at k in
      (energy_most (b.load z h)
      (hours_most z (placed R p k).bid.year (placed R p k).bid.days (year_at R.years z).days b.days (S.year z h).days_most) b.capacity).1

  module _ (h : p < R.p) {sheet : List ℕ} {m n : ℕ} (W : Written R p sheet m n) where
    apart : (c d : ℕ) → c < R.b → d < R.b → in_auction sheet c ≡ true → in_auction sheet d ≡ true
        → row_price sheet c ≡ row_price sheet d → row_draw sheet c ≡ row_draw sheet d → c ≡ d
    unfolding pot_in
    apart c d i j t u =
        (subst Lawful (sym (shows R S p W)) (lawful R p S)).apart c d (in_sift (in_auction sheet) (in_below c R.b i) t)
        (in_sift (in_auction sheet) (in_below d R.b j) u)

    pub ready : Ready sheet (size_of R m n)
    ready = record {
      few = S.bids_few;
      apps = S.apps_few;
      some = S.years_some;
      years = S.years_most;
      columns_least = W.least;
      columns_most = W.most;
      app = λ k l. rw (app_is R S p W k) (bounded k).app;
      year = λ k l. rw (year_is R S p W k) (bounded k).year;
      price = λ k l. rw (price_is R S p W k) (bounded k).price;
      admin = λ k l. rw (admin_is R S p W k) (bounded k).admin;
      draw = λ k l. rw (draw_is R S p W k) (bounded k).draw;
      admins = λ a l. rw (admin_at_lem R S p W a (omega (arith, S.apps_few))) (bounded_own a).admin;
      capacity = λ k l. rw (capacity_is R S p W k l) (bounded_at k).capacity;
      reference = λ k z l m. rw (reference_is R S p W k z l m) ((bounded_at k).reference z m);
      energy = λ k z l m. rw (energy_is R S p W k z l m) (energy_in k z m);
      share = λ k z l m. rw (share_is R S p W k z l m) (share_most (year_at R.years z).tlm (bounded_at k).rqm);
      limit = λ z l. limit_most z (W.limits_right z l) (S.budget_most p z h l);
      apart = apart;
      listed = W.entered;
    }
      where
        limit_most : (z : ℕ) → get_or sheet z 0 ≡ pence_per_pound * budget_at R.y R.c R.pots p z → budget_at R.y R.c R.pots p z ≤ highest_budget
            → limit_at sheet z ≤ pence_per_pound * highest_budget
        limit_most z e g = unfold limit_at in rw e (omega arith)
