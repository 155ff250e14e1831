-- The laws of the filling, over plain variables: one for each return and each turn of a loop. Assumes nothing.
use Prim.Native.Nat.{ℕ, zero, suc, ◌+◌, ◌-◌, ◌≤◌, ◌<◌}
use mathlib.Core.Path.{◌≡◌, refl, sym, ap, subst, ◌∙◌}
use mathlib.Core.Bool.{Bool, true, false, not}
use mathlib.Core.Option.{none, some}
use mathlib.Core.List.{List, [], ◌∷◌}
use native.Mathlib.Numerals.{add-one}
use native.Mathlib.Omega.{arith}
use native.Mathlib.Nat.{add-zero, mul-le-mul_right}
use lib.ListN.{length, get_or, set, take, drop, length-set, get_or-replicate}
use lib.Seq.{get_or-drop, get_or-set_same, get_or-set_other}
use lib.Dec.{eqb, ltb}
use borrow.Author.Tests.{eqb-true, eqb-false, eq-eqb, ne_eqb, lt-ltb, le-ltb}
use Rattle.rules.specs.Names.{most_years, most_bids, most_apps, no_cap, cap_width, pot_width}
use Rattle.rules.specs.Lists.{pick, sift, below}
use Rattle.rules.specs.Bytes.{part}
use Rattle.rules.specs.File.{Round, Bid, app_at, bid_at, cap_at, drawn_at}
use Rattle.rules.specs.Round.{Row, blank, at_admin_price, mine, app_mine, row_for, cap_of, drawn_of}
use Rattle.laws_pot.specs.Lists.{case}
use Rattle.laws_reading.specs.Reading.{Sound}
use Rattle.laws_round.specs.Bids.{app_in}
use Rattle.layout.specs.Layout.{Room}
use Rattle.sheet.specs.Sheet.{entrants_at, limit_at, absent, entered, row_standing, entrant_at, entrants, in_auction, in_test, row_place, figure_place, figures_place}
use Rattle.sheet.specs.Sheet.{sheet_length, drawn_place, drawn_in, number_in, admins_at, admin_at, figures_at, places, app_place}
use Rattle.rows.specs.Rows.{row_of, admin_row, row_numbers, figure_numbers, figures_in}
use Rattle.rows.proofs.Laws.{figure_blank, figure_own}
use Rattle.fill.specs.Fill.{BlankAdmins, BlankFrom, tech_of, Stands, Kept, Rest, Put, Figured, placed, RowsRight, AdminsRight, FiguresRight, AllFigures}
use Rattle.fill.specs.Fill.{FiguresOf, CapWritten, DrawnWritten}

-- ---- the record of a pot

pub pot_room : (R : Round) → Sound R → (p : ℕ) → p < R.p → Room R.pots (pot_width R.y R.c) p
pot_room R S p h = omega (arith, S.pots_whole, mul-le-mul_right {m = suc p} (pot_width R.y R.c) h)

-- a part of a file of bytes has bytes
take_byte : (n : ℕ) (s : List ℕ) → ((i : ℕ) → get_or s i 0 < 256) → (i : ℕ) → get_or (take n s) i 0 < 256
take_byte zero s h i = omega arith
take_byte (suc n) [] h i = omega arith
take_byte (suc n) (x ∷ s) h zero = h 0
take_byte (suc n) (x ∷ s) h (suc i) = take_byte n s (λ j. h (suc j)) i

pub part_byte : (s : List ℕ) (a e : ℕ) → ((i : ℕ) → get_or s i 0 < 256) → (i : ℕ) → get_or (part s a e) i 0 < 256
part_byte s a e h i = take_byte (e - a) (drop a s) (λ j. rw (get_or-drop a s j 0) (h (a + j))) i

-- ---- the turns of the loops

-- what holds of each number below n, and of n
pub and_next : (P : ℕ → Type 0) (n : ℕ) → ((k : ℕ) → k < n → P k) → P n → (k : ℕ) → k < n + 1 → P k
and_next P n f p k h = case (eqb k n) (λ t. subst P (sym (eqb-true k n t)) p) (λ t. let d = eqb-false k n t in f k (let l : k < n = omega (arith, d) in l))

-- what stands before a place stays
stays : (s t v : List ℕ) (place at : ℕ) → Stands v s at → Kept place s t → at + length v ≤ place → Stands v t at
stays s t v place at f k h j l = k (at + j) (omega arith) ∙ f j l

-- numbers that were put stand at their place
put_stands : {v w : List ℕ} (at : ℕ) {s t : List ℕ} → v ≡ w → Put v (length v) at s t → Stands w t at
put_stands at {t = t} e p = subst (λ (w : List ℕ). Stands w t at) e p.inside

module _ (R : Round) (p k : ℕ) {v : List ℕ} where
  pub rows_more : {s t : List ℕ} → RowsRight R p k s → v ≡ row_numbers R p k → Put v (length v) (row_place k) s t → RowsRight R p (k + 1) t
  unfolding row_numbers
  rows_more {s} {t} f e q =
      and_next (λ k. Stands (row_numbers R p k) t (row_place k)) k
      (λ j l. stays s t (row_numbers R p j) (row_place k) (row_place j) (f j l) q.kept (omega arith))
      (put_stands (row_place k) e q)

pub figures_more : (R : Round) (t : ℕ) (b : Bid) (k y : ℕ) {v s u : List ℕ} {x : ℕ} → x ≡ t → Figured R t b k y s → v ≡ figures_in R x b y
    → Put v (length v) (figure_place k y) s u → Figured R t b k (y + 1) u
unfolding figures_in
figures_more R t b k y {v} {s} {u} h f e q =
    and_next (λ i. Stands (figures_in R t b i) u (figure_place k i)) y
    (λ j l. stays s u (figures_in R t b j) (figure_place k y) (figure_place k j) (f j l) q.kept (omega arith))
    (put_stands (figure_place k y) (e ∙ ap (λ (x : ℕ). figures_in R x b y) h) q)

-- those of a bid whose technology was read are right
pub figures_own : (R : Round) (k : ℕ) (x : Bid) (t s : List ℕ) → FiguresOf R (tech_of R x) x k t s → FiguresRight R (row_for R x) k s
unfolding row_for
figures_own R k x t s f = record {
  capacity = f.capacity;
  years = λ y l. subst (λ (v : List ℕ). Stands v s (figure_place k y)) (figure_own R x refl y l) (f.right y l);
}

-- the cap of a pot: of a file without caps, none, and one that is the limit after those of the years
module _ (R : Round) (p : ℕ) (s : List ℕ) (long : length s ≡ sheet_length) where
  uncapped : none ≡ cap_of R p → CapWritten R p s s R.y
  uncapped e = record {
    right = rw (le-ltb R.y R.y (omega arith)) e;
    least = omega arith;
    most = omega arith;
    kept = λ j h. refl;
    rest = λ j h. refl;
    long = long;
  }

  pub no_caps : R.c ≡ 0 → CapWritten R p s s R.y
  no_caps e = uncapped (unfold cap_of in rw e)

  module _ (n : R.c ≡ 0 → ⊥) {pots : List ℕ} {x : ℕ} (ep : pots ≡ R.pots) (ex : x ≡ cap_at R.y R.c pots p) where
    read : x ≡ cap_at R.y R.c R.pots p
    read = ex ∙ ap (λ (l : List ℕ). cap_at R.y R.c l p) ep

    some_caps : ltb 0 R.c ≡ true
    some_caps = lt-ltb 0 R.c (omega (arith, n))

    pub cap_none : x ≡ no_cap → CapWritten R p s s R.y
    cap_none e = uncapped (unfold cap_of in rw (some_caps, sym read ∙ e))

    pub cap_some : (x ≡ no_cap → ⊥) → R.y ≤ most_years → CapWritten R p s (set s R.y x) (R.y + 1)
    cap_some z l = record {
      right =
          rw (lt-ltb R.y (R.y + 1) (omega arith))
          (unfold cap_of limit_at in rw (some_caps, sym read, ne_eqb x no_cap z, get_or-set_same s R.y x 0 (omega (arith, long))));
      least = omega arith;
      most = omega arith;
      kept = λ j h. get_or-set_other s R.y j x 0 (λ e. omega arith);
      rest = λ j h. get_or-set_other s R.y j x 0 (λ e. omega arith);
      long = length-set s R.y x ∙ long;
    }

-- the drawn number of a pot: of a file without drawn numbers, and of one with them
module _ (R : Round) (p : ℕ) (s : List ℕ) (long : length s ≡ sheet_length) where
  drawn_written : (x : ℕ) → number_in x ≡ drawn_of R p → DrawnWritten R p s (set s drawn_place x)
  unfolding drawn_in
  drawn_written x e = record {
    right = rw (get_or-set_same s drawn_place x 0 (omega (arith, long))) e;
    kept = λ j h. get_or-set_other s drawn_place j x 0 (λ e. omega arith);
    rest = λ j h. get_or-set_other s drawn_place j x 0 (λ e. omega arith);
    long = length-set s drawn_place x ∙ long;
  }

  pub drawn_none : R.c ≤ cap_width → DrawnWritten R p s (set s drawn_place 0)
  drawn_none h = drawn_written 0 (unfold number_in drawn_of in rw (le-ltb cap_width R.c h))

  pub drawn_some : {pots : List ℕ} {x : ℕ} → cap_width < R.c → pots ≡ R.pots → x ≡ drawn_at R.y R.c pots p → DrawnWritten R p s (set s drawn_place (x + 1))
  drawn_some {pots} {x} h ep ex = drawn_written (x + 1) (unfold number_in drawn_of in
      rw (add-one x, lt-ltb cap_width R.c h) (ap (λ (n : ℕ). some n) (ex ∙ ap (λ (l : List ℕ). drawn_at R.y R.c l p) ep)))

pub rest_set : (n i : ℕ) (s t : List ℕ) (x : ℕ) → i < n → Rest n s t → Rest n s (set t i x)
rest_set n i s t x h f j l = get_or-set_other t i j x 0 (λ z. omega arith) ∙ f j l

pub kept_set : (n i : ℕ) (s t : List ℕ) (x : ℕ) → n ≤ i → Kept n s t → Kept n s (set t i x)
kept_set n i s t x h f j l = get_or-set_other t i j x 0 (λ z. omega arith) ∙ f j l

-- ---- bids and applications of other pots

-- the standing of a bid says whether it is of the pot; whether bid k is, by its standing in a sheet t that has the rows of s
pub own_test : (own : Bool) → eqb (pick own entered absent) entered ≡ own
own_test true = refl
own_test false = refl

pub of_pot_lem : (R : Round) (p k : ℕ) (s t : List ℕ) {q : Bool} → k < most_bids → RowsRight R p most_bids s → Rest (row_place k) s t → q ≡ in_auction t k
    → q ≡ mine R p k
unfolding row_standing row_numbers
of_pot_lem R p k s t h f same e =
    e ∙ ap (λ (x : ℕ). eqb x entered)
    (same (row_place k) (omega arith) ∙ ap (λ (i : ℕ). get_or s i 0) (sym (add-zero (row_place k))) ∙ f k h 0 (omega arith))
    ∙ own_test (mine R p k)

-- an administrative price is never 0, so that it says the same of an application
module _ (R : Round) (S : Sound R) (p a : ℕ) where
  pub price_own : {x : Bid} → app_mine R p a ≡ true → x ≡ at_admin_price R a → x.price ≡ (admin_row R p a).admin
  unfolding admin_row row_for at_admin_price
  price_own m e = rw m (ap (λ (x : Bid). x.price) e)

  pub price_none : app_mine R p a ≡ false → 0 ≡ (admin_row R p a).admin
  unfolding admin_row
  price_none m = rw m

  price_some : app_mine R p a ≡ true → (admin_row R p a).admin ≡ 0 → ⊥
  unfolding admin_row row_for at_admin_price
  price_some m =
      let h = (app_in R p a m).0 in
      let x = S.app a h in
      let l = ((S.tech _ x.tech).admin (app_at R.apps a).year (omega (arith, x.year, S.few)) x.year).0 in
      rw m (λ e. omega (arith, l))

  pub in_test_lem : (s : List ℕ) → admin_at s a ≡ (admin_row R p a).admin → in_test s a ≡ app_mine R p a
  in_test_lem s e =
      ap (λ (x : ℕ). not (eqb x 0)) e
      ∙ case (app_mine R p a) (λ t. rw (ne_eqb _ 0 (price_some t), t)) (λ t. rw (eq-eqb _ 0 (sym (price_none t)), t))

  -- whether application a is of the pot, by its price in a sheet t that has the prices of s
  pub of_test : (s t : List ℕ) {q : Bool} → a < most_apps → AdminsRight R p most_apps s → Kept figures_at s t → q ≡ in_test t a → q ≡ app_mine R p a
  of_test s t h f same e = e ∙ in_test_lem t (unfold admin_at in same (admins_at + a) (omega arith) ∙ f a h)

-- so far: the prices of the first n applications are right, and those after them as they were
pub record Administered (R : Round) (p n : ℕ) (s t : List ℕ) : Type 0 where
  pub right : AdminsRight R p n t
  pub kept : Kept admins_at s t
  pub rest : Rest (admins_at + n) s t
  pub same : length t ≡ sheet_length

module _ (R : Round) (p a : ℕ) {s t : List ℕ} (d : Administered R p a s t) where
  pub admins_own : {g : List ℕ} {x : ℕ} → g ≡ set t (admins_at + a) x → a < most_apps → x ≡ (admin_row R p a).admin → Administered R p (a + 1) s g
  admins_own {x = x} e h q = rw e (record {
    right = and_next (λ b. get_or (set t (admins_at + a) x) (admins_at + b) 0 ≡ (admin_row R p b).admin) a
        (λ b l. get_or-set_other t (admins_at + a) (admins_at + b) x 0 (λ z. omega arith) ∙ d.right b l)
        (get_or-set_same t (admins_at + a) x 0 (omega (arith, d.same)) ∙ q);
    kept = kept_set admins_at (admins_at + a) s t x (omega arith) d.kept;
    rest = λ j l. get_or-set_other t (admins_at + a) j x 0 (λ z. omega arith) ∙ d.rest j (omega arith);
    same = length-set t (admins_at + a) x ∙ d.same;
  })

  pub admins_other : {g : List ℕ} → g ≡ t → a < most_apps → BlankAdmins s → 0 ≡ (admin_row R p a).admin → Administered R p (a + 1) s g
  admins_other e h b q = rw e (record {
    right = and_next (λ b. get_or t (admins_at + b) 0 ≡ (admin_row R p b).admin) a d.right
        (d.rest (admins_at + a) (omega arith) ∙ b (admins_at + a) (omega arith) (omega arith) ∙ q);
    kept = d.kept;
    rest = λ j l. d.rest j (omega arith);
    same = d.same;
  })

-- ---- the figures at all places

-- in t the figures at the first k places are right; what stands before the figures, and after those, is as in s
pub record Done (R : Round) (p k : ℕ) (s t : List ℕ) : Type 0 where
  pub right : AllFigures R p k t
  pub kept : Kept figures_at s t
  pub rest : Rest (figures_place k) s t

module _ (R : Round) (p k : ℕ) {s t : List ℕ} (d : Done R p k s t) where
  -- one place more, where figures were written, in u
  pub done_own : {u g : List ℕ} (x : Bid) → g ≡ u → R.y ≤ most_years → row_for R x ≡ placed R p k → FiguresOf R (tech_of R x) x k t u
      → Done R p (k + 1) s g
  unfolding figure_numbers
  done_own {u} x e h q f = subst (Done R p (k + 1) s) (sym e) record {
    right = and_next (λ k. FiguresRight R (placed R p k) k u) k
        (λ j g. record {
          capacity = f.kept (figures_place j) (omega arith) ∙ (d.right j g).capacity;
          years = λ i m. stays t u (figure_numbers R (placed R p j) i) (figures_place k) (figure_place j i) ((d.right j g).years i m) f.kept (omega arith);
        })
        (subst (λ (r : Row). FiguresRight R r k u) q (figures_own R k x t u f));
    kept = λ j g. f.kept j (omega arith) ∙ d.kept j g;
    rest = λ j g. f.rest j (omega arith) ∙ d.rest j (omega arith);
  }

  -- one place more, of another pot: its figures are left zeros
  pub done_other : {g : List ℕ} → g ≡ t → k < places → R.y ≤ most_years → (from : ℕ) → from ≤ k → BlankFrom from s → blank ≡ placed R p k → Done R p (k + 1) s g
  unfolding figure_numbers
  done_other e n y from u b q = subst (Done R p (k + 1) s) (sym e) record {
    right = and_next (λ k. FiguresRight R (placed R p k) k t) k d.right
        (subst (λ (r : Row). FiguresRight R r k t) q
        (record {
          capacity = d.rest (figures_place k) (omega arith) ∙ b (figures_place k) (omega arith) (omega arith);
          years = λ i l j h. d.rest (figure_place k i + j) (omega arith) ∙ b (figure_place k i + j) (omega arith) (omega arith)
              ∙ sym (get_or-replicate 3 j 0 0 h) ∙ ap (λ (v : List ℕ). get_or v j 0) (figure_blank R i);
        }));
    kept = d.kept;
    rest = λ j g. d.rest j (omega arith);
  }

-- the place after an application's is the next one's
pub done_next : (R : Round) (p a : ℕ) {s t : List ℕ} → Done R p (app_place a + 1) s t → Done R p (app_place (a + 1)) s t
done_next R p a {s} {t} d = let e : app_place a + 1 ≡ app_place (a + 1) = omega arith in subst (λ (k : ℕ). Done R p k s t) e d

-- whose figures stand at place k: a bid's of the pot, or of another; an application's
module _ (R : Round) (p k : ℕ) where
  pub placed_bid : {x : Bid} → k < most_bids → mine R p k ≡ true → x ≡ bid_at R.bids k → row_for R x ≡ placed R p k
  unfolding placed row_of
  placed_bid h m e = rw (lt-ltb k most_bids h, m) (ap (row_for R) e)

  pub placed_none : k < most_bids → mine R p k ≡ false → blank ≡ placed R p k
  unfolding placed row_of
  placed_none h m = rw (lt-ltb k most_bids h, m)

module _ (R : Round) (p a : ℕ) where
  pub own_place : placed R p (app_place a) ≡ admin_row R p a
  unfolding placed
  own_place = let e : most_bids + a - most_bids ≡ a = omega arith in rw (le-ltb (app_place a) most_bids (omega arith)) (ap (admin_row R p) e)

  pub placed_own : {x : Bid} → app_mine R p a ≡ true → x ≡ at_admin_price R a → row_for R x ≡ placed R p (app_place a)
  unfolding admin_row
  placed_own m e = ap (row_for R) e ∙ sym (own_place ∙ rw m)

  pub placed_other : app_mine R p a ≡ false → blank ≡ placed R p (app_place a)
  unfolding admin_row
  placed_other m = sym (own_place ∙ rw m)

-- ---- the bids that enter

-- what is past the first n does not matter
entrants_set : (s : List ℕ) (n i x : ℕ) → entrants_at + n ≤ i → entrants (set s i x) n ≡ entrants s n
unfolding entrants entrant_at
entrants_set s zero i x h = refl
entrants_set s (suc n) i x h = rw (get_or-set_other s i (entrants_at + n) x 0 (λ e. let z : ⊥ = omega arith in z), entrants_set s n i x (omega arith))

-- a row of t is that of s
row_same : (s t : List ℕ) (k : ℕ) → Rest admins_at s t → in_auction t k ≡ in_auction s k
unfolding row_standing
row_same s t k f = ap (λ (x : ℕ). eqb x entered) (f (row_place k) (omega arith))

-- so far: the first k bids were looked at, and n of them enter
pub record Entering (s : List ℕ) (k n : ℕ) (t : List ℕ) : Type 0 where
  pub few : n ≤ k
  pub right : entrants t n ≡ sift (in_auction s) (below k)
  pub kept : Kept entrants_at s t
  pub rest : Rest admins_at s t
  pub same : length t ≡ sheet_length

pub entering_none : (s : List ℕ) → length s ≡ sheet_length → Entering s 0 0 s
unfolding entrants
entering_none s h = record { few = omega arith; right = refl; kept = λ j l. refl; rest = λ j l. refl; same = h }

module _ (s : List ℕ) (k n : ℕ) {t : List ℕ} (E : Entering s k n t) {q : Bool} (e : q ≡ in_auction t k) where
  pub entering_hit : {g : List ℕ} {m : ℕ} → k < most_bids → q ≡ true → g ≡ set t (entrants_at + n) k → m ≡ n + 1 → Entering s (k + 1) m g
  entering_hit {g} {m} h z eg em = rw (eg, em) (record {
    few = omega (arith, E.few);
    right = rw (add-one n, add-one k, sym (row_same s t k E.rest) ∙ sym e ∙ z) listed;
    kept = kept_set entrants_at (entrants_at + n) s t k (omega arith) E.kept;
    rest = rest_set admins_at (entrants_at + n) s t k (omega (arith, E.few)) E.rest;
    same = length-set t (entrants_at + n) k ∙ E.same;
  })
    where
      listed : entrants (set t (entrants_at + n) k) (suc n) ≡ k ∷ sift (in_auction s) (below k)
      listed =
          unfold entrants entrant_at in
          rw (get_or-set_same t (entrants_at + n) k 0 (omega (arith, E.few, E.same)), entrants_set t n (entrants_at + n) k (omega arith), E.right)

  pub entering_miss : {g : List ℕ} {m : ℕ} → q ≡ false → g ≡ t → m ≡ n → Entering s (k + 1) m g
  entering_miss z eg em = rw (eg, em) (record {
    few = omega (arith, E.few);
    right = rw (add-one k, sym (row_same s t k E.rest) ∙ sym e ∙ z) E.right;
    kept = E.kept;
    rest = E.rest;
    same = E.same;
  })
