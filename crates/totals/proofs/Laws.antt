-- Laws of values and totals over plain variables: each answers one need of a proof. Assumes nothing.
use Prim.Native.Nat.{ℕ, zero, suc, ◌+◌, ◌-◌, ◌*◌, ◌≤◌, ◌<◌, min}
use mathlib.Core.Path.{◌≡◌, refl, sym, ap, ap₂, ◌∙◌}
use mathlib.Core.Bool.{Bool, true, false, ◌&&◌}
use mathlib.Core.List.{List, [], ◌∷◌, ◌++◌}
use Rattle.std.specs.List.{list_all, range_with_len}
use Rattle.std.proofs.lemmas.List.Folds.{list_all-append}
use native.Mathlib.Numerals.{add-one}
use native.Mathlib.Omega.{arith}
use lib.ListN.{length, get_or, set}
use lib.Seq.{ext_get_or}
use native.Mathlib.Decide.{dec_lt}
use lib.Dec.{eqb, leb, ltb}
use borrow.Author.Tests.{eq-eqb, ne_eqb, lt-leb, le-leb, ltb-true, ltb-false, lt-ltb, le-ltb}
use Rattle.rules.specs.Names.{most_bids, because_won}
use Rattle.rules.specs.Lists.{pick, sum}
use Rattle.rules.specs.Value.{ceil_div, penny, dearest}
use Rattle.laws_pot.specs.Lists.{case}
use Rattle.arrays.proofs.Laws.{fill_next}
use Rattle.arrays.proofs.Arrays.{fill_at, fill_length, zeros, fill_rest}
use Rattle.sheet.specs.declared.Size.{Size}
use Rattle.sheet.specs.Sheet.{Ready, columns, places, app_place, limit_at, admin_at, row_year, row_admin, capacity_at, fig_reference, fig_energy, fig_share}
use Rattle.sheet.specs.Sheet.{parts_at, in_test}
use Rattle.sheet.proofs.Columns.{columns_few}
use Rattle.value.specs.Laws.{at_most_lem}
use Rattle.totals.specs.Totals.{counts, Adding, worth_of, cost_of, total_of, no_row, filled, added_to, fits_to, admin_worth, admin_total_of, column_sum, most_sum}

module _ (sheet : List ℕ) (of : Size) where
  -- in a year, and in the column after the years
  pub valued_is : (k s c : ℕ) {f e h r : ℕ} → c < of.years → f ≡ fig_reference sheet k c → e ≡ fig_energy sheet k c → h ≡ fig_share sheet k c
      → r ≡ ceil_div ((s - f) * e * h) penny → r ≡ counts sheet of k s c
  unfolding counts parts_at
  valued_is k s c g ef ee eh er = rw (er, ef, ee, eh, lt-ltb c of.years g)

  pub capacity_is : (k s c : ℕ) {r : ℕ} → of.years ≤ c → r ≡ capacity_at sheet k → r ≡ counts sheet of k s c
  unfolding counts
  capacity_is k s c g er = rw (er, le-ltb c of.years g)

  pub worth_is : (k price c : ℕ) {a s r : ℕ} → a ≡ row_admin sheet k → s ≡ min price a → r ≡ counts sheet of k s c → r ≡ worth_of sheet of k price c
  unfolding worth_of
  worth_is k price c ea es er = rw (er, es, ea)

  pub cost_is : (prices : List ℕ) (c k : ℕ) {d r : ℕ} → d ≡ row_year sheet k → r ≡ worth_of sheet of k (get_or prices d 0) c → r ≡ cost_of sheet of prices c k
  unfolding cost_of
  cost_is prices c k ed er = rw (er, ed)

  -- one bid more
  module _ (marks prices : List ℕ) (c i : ℕ) where
    pub total_hit : {s r : ℕ} → get_or marks i 0 ≡ 1 → s ≡ total_of sheet of marks prices c i → r ≡ cost_of sheet of prices c i
        → s + r ≡ total_of sheet of marks prices c (i + 1)
    unfolding total_of
    total_hit h es er = rw (add-one i, es, er, eq-eqb _ _ h)

    pub total_miss : {s : ℕ} → (get_or marks i 0 ≡ 1 → ⊥) → s ≡ total_of sheet of marks prices c i → s ≡ total_of sheet of marks prices c (i + 1)
    unfolding total_of
    total_miss h es = rw (add-one i, es, ne_eqb _ _ h) (omega arith)

  -- one application more: of the pot, or of another
  module _ (c i : ℕ) {t : Bool} {s : ℕ} (et : t ≡ in_test sheet i) (es : s ≡ admin_total_of sheet of c i) where
    pub admin_hit : {p w : ℕ} → t ≡ true → p ≡ admin_at sheet i → w ≡ counts sheet of (app_place i) p c → s + w ≡ admin_total_of sheet of c (i + 1)
    unfolding admin_total_of admin_worth sum
    admin_hit h ep ew = rw (add-one i, es, ew, ep, sym et ∙ h) (omega arith)

    pub admin_miss : t ≡ false → s ≡ admin_total_of sheet of c (i + 1)
    unfolding admin_total_of
    admin_miss h = rw (add-one i, es, sym et ∙ h)

-- one column more
module _ (f : ℕ → ℕ) (sheet : List ℕ) (c : ℕ) {x : ℕ} (e : x ≡ f c) where
  pub fits_not : {q : ℕ} → q ≡ limit_at sheet c → q < x → false ≡ fits_to f sheet (c + 1)
  unfolding fits_to
  fits_not eq h = rw (add-one c, ← e, ← eq, lt-leb _ _ h)

  pub fits_more : {b : Bool} {q : ℕ} → q ≡ limit_at sheet c → x ≤ q → b ≡ fits_to f sheet c → b ≡ fits_to f sheet (c + 1)
  unfolding fits_to
  fits_more eq h g = rw (add-one c, ← e, ← eq, le-leb _ _ h) g

-- the columns one after the other: one more at the end, and all below n
range_more : (a n m : ℕ) → a + n ≡ m → range_with_len a (suc n) ≡ range_with_len a n ++ (m ∷ [])
range_more a zero m e = let q : a ≡ m = omega arith in ap (λ (x : ℕ). x ∷ []) q
range_more a (suc n) m e = ap (λ (l : List ℕ). a ∷ l) (range_more (a + 1) n m (omega arith))

pub fits_all : (f : ℕ → ℕ) (sheet : List ℕ) (n : ℕ) → list_all (λ c. leb (f c) (limit_at sheet c)) (range_with_len 0 n) ≡ fits_to f sheet n
unfolding fits_to
fits_all f sheet zero = refl
fits_all f sheet (suc n) =
    let fits = λ (c : ℕ). leb (f c) (limit_at sheet c) in
    ap (list_all fits) (range_more 0 n n (omega arith)) ∙ list_all-append fits (range_with_len 0 n) (n ∷ [])
    ∙ rw (fits_all f sheet n)
    (case (fits n) (λ t. rw t (and_true (fits_to f sheet n))) (λ u. rw u (and_false (fits_to f sheet n))))
  where
    and_true : (b : Bool) → (b && true) ≡ b
    and_true true = refl
    and_true false = refl

    and_false : (b : Bool) → (b && false) ≡ false
    and_false true = refl
    and_false false = refl

-- the same figures fit alike
pub fits_same : (f g : ℕ → ℕ) (sheet : List ℕ) (n : ℕ) → ((c : ℕ) → c < n → f c ≡ g c) → fits_to f sheet n ≡ fits_to g sheet n
unfolding fits_to
fits_same f g sheet zero h = refl
fits_same f g sheet (suc n) h = rw (h n (omega arith), fits_same f g sheet n (λ c l. h c (omega arith)))

-- ---- rows of totals

-- a column that is not added yet is as low as before; and one column more is added
pub added_low : (g : ℕ → ℕ) (before : List ℕ) (c : ℕ) {row : List ℕ} {q : ℕ} → row ≡ added_to g before c → get_or before c 0 ≤ q → get_or row c 0 ≤ q
added_low g before c er h = rw (er, fill_rest before (λ x. get_or before x 0 + g x) c c 0 (omega arith)) h

pub added_next : (g : ℕ → ℕ) (before : List ℕ) (c : ℕ) {row : List ℕ} {w : ℕ} → row ≡ added_to g before c → w ≡ g c
    → set row c (get_or row c 0 + w) ≡ added_to g before (c + 1)
added_next g before c er ew =
    fill_next before (λ x. get_or before x 0 + g x) c er
    (ap₂ ◌+◌ (ap (λ (l : List ℕ). get_or l c 0) er ∙ fill_rest before (λ x. get_or before x 0 + g x) c c 0 (omega arith)) ew)

-- a filled row with a bid added
pub added_is : (f g : ℕ → ℕ) (n : ℕ) → n ≤ columns → added_to g (filled f n) n ≡ filled (λ c. f c + g c) n
added_is f g n h =
    ext_get_or 0 (added_to g (filled f n) n) (filled (λ c. f c + g c) n) sizes
    (λ i _. case (ltb i n) (λ t. inside i (ltb-true i n t)) (λ u. outside i (ltb-false i n u)))
  where
    size : n ≤ length no_row
    size = unfold no_row in h

    sizes : length (added_to g (filled f n) n) ≡ length (filled (λ c. f c + g c) n)
    sizes = fill_length (filled f n) (λ c. get_or (filled f n) c 0 + g c) n ∙ fill_length no_row f n ∙ sym (fill_length no_row (λ c. f c + g c) n)

    inside : (i : ℕ) → i < n → get_or (added_to g (filled f n) n) i 0 ≡ get_or (filled (λ c. f c + g c) n) i 0
    inside i l =
        fill_at (filled f n) (λ c. get_or (filled f n) c 0 + g c) n i 0 (omega (arith, size, fill_length no_row f n)) l
        ∙ ap (λ x. x + g i) (fill_at no_row f n i 0 size l) ∙ sym (fill_at no_row (λ c. f c + g c) n i 0 size l)

    outside : (i : ℕ) → n ≤ i → get_or (added_to g (filled f n) n) i 0 ≡ get_or (filled (λ c. f c + g c) n) i 0
    outside i l =
        fill_rest (filled f n) (λ c. get_or (filled f n) c 0 + g c) n i 0 l
        ∙ fill_rest no_row f n i 0 l ∙ sym (fill_rest no_row (λ c. f c + g c) n i 0 l)

-- the greatest value of a bid, and of the winners among n bids
pub worth_le : (sheet : List ℕ) (of : Size) (k p c : ℕ) → Ready sheet of → k < of.bids → worth_of sheet of k p c ≤ dearest
unfolding worth_of counts parts_at
worth_le sheet of k p c ok h =
    let place : k < places = omega (arith, ok.few) in
    elim (dec_lt c of.years) [
      | yes g ↦ rw (lt-ltb c of.years g) (at_most_lem (min p (row_admin sheet k)) (fig_reference sheet k c) (fig_energy sheet k c) (fig_share sheet k c)
          (record {
            price_ok = omega (arith, ok.admin k h);
            reference_ok = ok.reference k c place g;
            energy_ok = ok.energy k c place g;
            share_ok = ok.share k c place g;
          }))
      | no z ↦ rw (le-ltb c of.years (omega (arith, z))) (omega (arith, ok.capacity k place))
    ]

pub pick_le : (t : Bool) {x q : ℕ} → x ≤ q → pick t x 0 ≤ q
pick_le true h = h
pick_le false h = omega arith

pub total_le : (sheet : List ℕ) (of : Size) (marks prices : List ℕ) (c n : ℕ) → Ready sheet of → n ≤ of.bids
    → total_of sheet of marks prices c n ≤ dearest * n
unfolding total_of cost_of
total_le sheet of marks prices c zero v g = omega arith
total_le sheet of marks prices c (suc n) v g =
    omega (
      arith,
      total_le sheet of marks prices c n v (omega arith),
      pick_le (eqb (get_or marks n 0) because_won) (worth_le sheet of n (get_or prices (row_year sheet n) 0) c v g),
    )

-- a row of no totals is blank
pub row_none : (n : ℕ) → n ≤ columns → no_row ≡ filled (λ _. 0) n
row_none n h =
    ext_get_or 0 no_row (filled (λ _. 0) n) (sym (fill_length no_row (λ _. 0) n))
    (λ i _. blank i ∙ sym (case (ltb i n) (λ t. fill_at no_row (λ _. 0) n i 0 size (ltb-true i n t))
    (λ u. fill_rest no_row (λ _. 0) n i 0 (ltb-false i n u) ∙ blank i)))
  where
    size : n ≤ length no_row
    size = unfold no_row in h

    blank : (i : ℕ) → get_or no_row i 0 ≡ 0
    blank i = unfold no_row in zeros columns i

-- bid i may be added to a row of totals of n bids
pub adding : (sheet : List ℕ) (of : Size) (i n : ℕ) (f : ℕ → ℕ) {row : List ℕ} → Ready sheet of → i < of.bids → n ≤ of.bids → row ≡ filled f of.columns
    → ((c : ℕ) → f c ≤ dearest * n) → Adding sheet of row i
adding sheet of i n f {row} v h g er low = record { ready = v; known = h; low = most }
  where
    size : of.columns ≤ columns → of.columns ≤ length no_row
    size g = unfold no_row in g

    at : (c : ℕ) → c < of.columns → get_or row c 0 ≡ f c
    at c j = ap (λ (l : List ℕ). get_or l c 0) er ∙ fill_at no_row f of.columns c 0 (size (columns_few v)) j

    most : (c : ℕ) → c < of.columns → get_or row c 0 ≤ dearest * most_bids
    most c j = omega (arith, at c j, low c, v.few)

-- the row of totals, one bid more
module _ (sheet : List ℕ) (of : Size) (marks prices : List ℕ) (i n : ℕ) where
  pub row_hit : {d : ℕ} {row next : List ℕ} → n ≤ columns → get_or marks i 0 ≡ 1 → d ≡ row_year sheet i → row ≡ filled (λ c. total_of sheet of marks prices c i) n
      → next ≡ added_to (λ c. worth_of sheet of i (get_or prices d 0) c) row n → next ≡ filled (λ c. total_of sheet of marks prices c (i + 1)) n
  row_hit {d} h t ed er en =
      en ∙ ap (λ (l : List ℕ). added_to (λ c. worth_of sheet of i (get_or prices d 0) c) l n) er
      ∙ added_is (λ c. total_of sheet of marks prices c i) (λ c. worth_of sheet of i (get_or prices d 0) c) n h
      ∙ ap (λ (f : ℕ → ℕ). filled f n) (λ j c. total_hit sheet of marks prices c i t refl (cost_is sheet of prices c i ed refl) j)

  pub row_miss : {row : List ℕ} → (get_or marks i 0 ≡ 1 → ⊥) → row ≡ filled (λ c. total_of sheet of marks prices c i) n
      → row ≡ filled (λ c. total_of sheet of marks prices c (i + 1)) n
  row_miss t er = er ∙ ap (λ (f : ℕ → ℕ). filled f n) (λ j c. total_miss sheet of marks prices c i t refl j)

-- ---- the rows of the delivery years

-- added one after the other
module _ (l : List ℕ) (c : ℕ) where
  pub column_is : get_or l c 0 + get_or l (columns + c) 0 + get_or l (2 * columns + c) 0 + get_or l (3 * columns + c) 0 ≡ column_sum l c
  unfolding column_sum
  column_is = omega arith

  pub column_low : column_sum l c ≤ most_sum
      → (get_or l c 0 + get_or l (columns + c) 0 ≤ most_sum) × (get_or l c 0 + get_or l (columns + c) 0 + get_or l (2 * columns + c) 0 ≤ most_sum) ×
      (get_or l c 0 + get_or l (columns + c) 0 + get_or l (2 * columns + c) 0 + get_or l (3 * columns + c) 0 ≤ most_sum)
  column_low h = (omega (arith, column_is), omega (arith, column_is), omega (arith, column_is))
