-- More bids come to no less, where more delivery years at the price of the tie cost the winners no less; and to more, where the bid is worth something. Assumes
-- nothing.
use Prim.Native.Nat.{ℕ, zero, suc, ◌+◌, ◌-◌, ◌*◌, ◌/◌, ◌%◌, ◌^◌, ◌≤◌, ◌<◌}
use mathlib.Core.Path.{◌≡◌, sym, ap, ◌∙◌}
use mathlib.Core.Bool.{Bool, true, false}
use mathlib.Core.Logic.{⊎_elim}
use mathlib.Core.List.{List}
use native.Mathlib.Nat.{pow-suc, zero-add}
use native.Mathlib.Omega.{arith}
use lib.Pow.{pow-add, pow-lt}
use lib.ListN.{get_or}
use lib.Dec.{eqb}
use borrow.Author.Tests.{eqb-true, eqb-false}
use Rattle.rules.specs.Names.{most_deliveries, widest_tie}
use Rattle.rules.specs.Pot.{has}
use Rattle.laws_pot.specs.Lists.{case, clash, or_left, or_right, or_cases}
use Rattle.laws_pot.specs.Bits.{has_suc, has_none, add_lt, add_adds, add_other}
use Rattle.sheet.specs.declared.Size.{Size}
use Rattle.sheet.specs.Sheet.{columns}
use Rattle.combinations.specs.Combinations.{year_sets, combinations, part_places, touch_of, touched_of, combined_of, table_by, joint_of, union_of}
use Rattle.combinations.proofs.Parts.{touched_low, joint_total, sum_at}
use Rattle.ties.specs.Ties.{ok_by, last_by, Within, Cuttable}
use Rattle.ties.proofs.Laws.{fits_down}
use Rattle.ties.proofs.Link.{touch_has}
use Rattle.added.specs.Added.{Rises, Rising, last_worth, alone_by, Adds}

-- ---- what rises with each place rises with each set of them
pub climbs : (f : ℕ → ℕ) (n : ℕ) → ((t d : ℕ) → t < 2 ^ n → d < n → has t d ≡ false → f t ≤ f (t + 2 ^ d))
    → (t u : ℕ) → t < 2 ^ n → u < 2 ^ n → Within t u → f t ≤ f u
climbs f zero h t u a b w = let e : t ≡ u = omega arith in rw e (omega arith)
climbs f (suc n) h t u a b w =
    let low = lowest in
    let high = climbs (λ x. f (x * 2 + u % 2)) n rest (t / 2) (u / 2) (omega (arith, pow-suc 2 n)) (omega (arith, pow-suc 2 n))
    (λ i v. sym (has_suc u i) ∙ w (suc i) (has_suc t i ∙ v)) in
    omega (arith, low, high, ap f whole)
  where
    whole : u / 2 * 2 + u % 2 ≡ u
    whole = omega arith

    rest : (x d : ℕ) → x < 2 ^ n → d < n → has x d ≡ false → f (x * 2 + u % 2) ≤ f ((x + 2 ^ d) * 2 + u % 2)
    rest x d l g e =
        let half : (x * 2 + u % 2) / 2 ≡ x = omega arith in
        let more : x * 2 + u % 2 + 2 ^ suc d ≡ (x + 2 ^ d) * 2 + u % 2 = omega (arith, pow-suc 2 d) in
        let r = h (x * 2 + u % 2) (suc d) (omega (arith, pow-suc 2 n)) (omega arith) (has_suc (x * 2 + u % 2) d ∙ ap (λ (y : ℕ). has y d) half ∙ e) in
        omega (arith, r, ap f more)

    lowest : f t ≤ f (t / 2 * 2 + u % 2)
    lowest =
        case (has t 0)
        (λ v.
        let odd = eqb-true (t / 1 % 2) 1 v in
        let c = eqb-true (u / 1 % 2) 1 (w 0 v) in
        let e : t / 2 * 2 + u % 2 ≡ t = omega arith in
        omega (arith, ap f e))
        (λ v.
        let even = eqb-false (t / 1 % 2) 1 v in
        case (has u 0)
        (λ x.
        let c = eqb-true (u / 1 % 2) 1 x in
        let e : t / 2 * 2 + u % 2 ≡ t + 1 = omega arith in
        omega (arith, ap f e, h t 0 (omega arith) (omega arith) v))
        (λ x.
        let c = eqb-false (u / 1 % 2) 1 x in
        let e : t / 2 * 2 + u % 2 ≡ t = omega arith in
        omega (arith, ap f e)))

-- ---- the test of the winners' totals
pub more_years : (t d : ℕ) {p : ℕ} {b : Bool} → b ≡ has t d → b ≡ false → t < year_sets → d < most_deliveries → p ≡ 2 ^ d → t + p < year_sets
more_years t d eb f l h ep = rw ep (add_lt t d most_deliveries (sym eb ∙ f) h l)

pub rises_all : (base : List ℕ) → ((i : ℕ) → i < year_sets * most_deliveries * columns → Rises base i) → Rising base
unfolding Rises
rises_all base f = record { rise = rise }
  where
    rise : (t d c : ℕ) → t < year_sets → d < most_deliveries → c < columns → has t d ≡ false
        → get_or base (t * columns + c) 0 ≤ get_or base ((t + 2 ^ d) * columns + c) 0
    rise t d c l h g =
        let n = (t * most_deliveries + d) * columns + c in
        go {c' = n % columns} {d' = n / columns % most_deliveries} {t' = n / columns / most_deliveries} (omega arith) (omega arith) (omega arith) (f n (omega arith))
      where
        go : {c' d' t' : ℕ} → c' ≡ c → d' ≡ d → t' ≡ t
            → (has t' d' ≡ false → get_or base (t' * columns + c') 0 ≤ get_or base ((t' + 2 ^ d') * columns + c') 0)
            → has t d ≡ false → get_or base (t * columns + c) 0 ≤ get_or base ((t + 2 ^ d) * columns + c) 0
        go ec ed et q = rw (ec, ed, et) at q

module _ (base : List ℕ) (i : ℕ) {c d t : ℕ} (ec : c ≡ i % columns) (ed : d ≡ i / columns % most_deliveries) (et : t ≡ i / columns / most_deliveries)
    {b : Bool} (eb : b ≡ has t d) where
  pub rises_in : b ≡ true → Rises base i
  unfolding Rises
  rises_in e = λ f. clash (rw (← et, ← ed) (sym eb ∙ e)) f

  pub rises_here : {p : ℕ} → p ≡ 2 ^ d → get_or base (t * columns + c) 0 ≤ get_or base ((t + p) * columns + c) 0 → Rises base i
  unfolding Rises
  rises_here ep h = λ f. rw (← et, ← ed, ← ec, ← ep) h

-- ---- more bids
module _ (m p : ℕ) (f : has m p ≡ false) where
  pub within_more : Within m (m + 2 ^ p)
  within_more i t = case (eqb i p) (λ e. clash t (ap (has m) (eqb-true i p e) ∙ f)) (λ e. add_other m p i f (eqb-false i p e) ∙ t)

combined_within : (own ranks : List ℕ) (m n c k : ℕ) → Within m n → combined_of own ranks m c k ≤ combined_of own ranks n c k
unfolding combined_of
combined_within own ranks m n c zero w = omega arith
combined_within own ranks m n c (suc k) w =
    let r = combined_within own ranks m n c k w in
    case (has m (get_or ranks k 0)) (λ t. rw (t, w (get_or ranks k 0) t) (omega arith)) (λ f. rw f (omega arith))

-- one bid more counts what it counts
combined_more : (own ranks : List ℕ) (m c j k : ℕ) → j < k → has m (get_or ranks j 0) ≡ false
    → combined_of own ranks m c k + get_or own (j * columns + c) 0 ≤ combined_of own ranks (m + 2 ^ get_or ranks j 0) c k
unfolding combined_of
combined_more own ranks m c j zero h f = absurd (omega arith)
combined_more own ranks m c j (suc k) h f =
    case (eqb j k)
    (λ e. let q = eqb-true j k e in
    let w = combined_within own ranks m (m + 2 ^ get_or ranks j 0) c j (within_more m (get_or ranks j 0) f) in
    rw (← q, f, add_adds m (get_or ranks j 0) f) (omega arith))
    (λ e.
    let r = combined_more own ranks m c j k (omega (arith, eqb-false j k e)) f in
    case (has m (get_or ranks k 0)) (λ t. rw (t, within_more m (get_or ranks j 0) f (get_or ranks k 0) t) (omega arith)) (λ g. rw g (omega arith)))

-- the bids of a binary place more count what they count
combined_add : (own ranks : List ℕ) (m p c k : ℕ) → has m p ≡ false
    → combined_of own ranks m c k + combined_of own ranks (2 ^ p) c k ≤ combined_of own ranks (m + 2 ^ p) c k
unfolding combined_of
combined_add own ranks m p c zero f = omega arith
combined_add own ranks m p c (suc k) f =
    let r = combined_add own ranks m p c k f in
    let i = get_or ranks k 0 in
    case (eqb i p)
    (λ t. let q = eqb-true i p t in rw (q, f, add_adds m p f) (case (has (2 ^ p) p) (λ u. rw u (omega arith)) (λ u. rw u (omega arith))))
    (λ u.
    let n = eqb-false i p u in
    let none : has (2 ^ p) i ≡ false = sym (ap (λ (x : ℕ). has x i) (zero-add (2 ^ p))) ∙ add_other 0 p i (has_none p) n ∙ has_none i in
    rw (none, add_other m p i f n) (case (has m i) (λ t. rw t (omega arith)) (λ g. rw g (omega arith))))

touched_within : (ranks starts : List ℕ) (m n k : ℕ) → Within m n → Within (touched_of ranks starts m k) (touched_of ranks starts n k)
unfolding touched_of
touched_within ranks starts m n zero w = λ i t. t
touched_within ranks starts m n (suc k) w =
    let r = touched_within ranks starts m n k w in
    case (has m (get_or ranks k 0))
    (λ t. rw (t, w (get_or ranks k 0) t) (both (touched_of ranks starts m k) (touched_of ranks starts n k) (get_or starts k 0) r))
    (λ f. rw f (case (has n (get_or ranks k 0)) (λ t. rw t (one (touched_of ranks starts m k) (touched_of ranks starts n k) (get_or starts k 0) r)) (λ g. rw g r)))
  where
    one : (a b d : ℕ) → Within a b → Within a (touch_of b d)
    one a b d r = λ e u. touch_has b d e ∙ or_right (eqb e d) (has b e) (r e u)

    both : (a b d : ℕ) → Within a b → Within (touch_of a d) (touch_of b d)
    both a b d r = λ e u.
        touch_has b d e
        ∙ ⊎_elim (λ p. or_left (eqb e d) (has b e) p) (λ p. or_right (eqb e d) (has b e) (r e p)) (or_cases (eqb e d) (has a e) (sym (touch_has a d e) ∙ u))

-- ---- the figures of combinations, off the table
module _ (base own ranks starts : List ℕ) (k : ℕ) (R : Rising base) (Q : (j : ℕ) → j < k → get_or starts j 0 < most_deliveries)
    {table : List ℕ} (et : table ≡ table_by base own ranks starts k) where
  figure : (m c : ℕ) → m < combinations → c < columns
      → joint_of table m (union_of table m) c ≡ get_or base (touched_of ranks starts m k * columns + c) 0 + combined_of own ranks m c k
  figure m c h g = rw et (joint_total base own ranks starts k Q m c h g)

  base_within : (m n c : ℕ) → c < columns → Within m n
      → get_or base (touched_of ranks starts m k * columns + c) 0 ≤ get_or base (touched_of ranks starts n k * columns + c) 0
  base_within m n c g w =
      climbs (λ t. get_or base (t * columns + c) 0) 4 (λ t d l h f. R.rise t d c l h g f) (touched_of ranks starts m k) (touched_of ranks starts n k)
      (touched_low ranks starts m k Q) (touched_low ranks starts n k Q) (touched_within ranks starts m n k w)

  figure_within : (m n c : ℕ) → m < combinations → n < combinations → c < columns → Within m n
      → joint_of table m (union_of table m) c ≤ joint_of table n (union_of table n) c
  figure_within m n c a b g w = omega (arith, figure m c a g, figure n c b g, combined_within own ranks m n c k w, base_within m n c g w)

  alone_is : (p c : ℕ) → p < widest_tie → c < columns → alone_by table p c ≡ combined_of own ranks (2 ^ p) c k
  unfolding alone_by
  alone_is p c h g =
      rw et (sum_at base own ranks starts k (p / part_places) (2 ^ (p % part_places)) c (omega arith) (low (p % part_places) (omega arith)) g)
      ∙ ap (λ (x : ℕ). combined_of own ranks x c k) (sym (pow-add 2 (p % part_places) (p / part_places * part_places)) ∙ ap (λ (x : ℕ). 2 ^ x) whole)
    where
      low : (i : ℕ) → i < 5 → 2 ^ i < 32
      low i l = pow-lt l

      whole : p % part_places + p / part_places * part_places ≡ p
      whole = omega arith

  pub adding : Adds table
  adding = record {
    adds = λ m p c h l f g.
        let more : m + 2 ^ p < combinations = add_lt m p widest_tie f l h in
        omega (
          arith,
          figure m c h g,
          figure (m + 2 ^ p) c more g,
          alone_is p c l g,
          combined_add own ranks m p c k f,
          base_within m (m + 2 ^ p) c g (within_more m p f),
        );
  }

  module _ (of : Size) (some : 0 < of.years) (years : of.years ≤ of.columns) (few : of.columns ≤ columns) where
    pub cuttable : (sheet : List ℕ) → Cuttable (ok_by sheet of table) (last_by of table)
    unfolding ok_by last_by
    cuttable sheet = record {
      down = λ m n a b w. fits_down (joint_of table m (union_of table m)) (joint_of table n (union_of table n)) sheet of.columns
          (λ c l. figure_within m n c a b (omega (arith, few)) w);
      reach = λ m n a b w. figure_within m n (of.years - 1) a b (omega (arith, some, years, few)) w;
    }

    pub gains : (m j : ℕ) → j < k → 0 < last_worth own (of.years - 1) j → has m (get_or ranks j 0) ≡ false → m < combinations
        → m + 2 ^ get_or ranks j 0 < combinations → last_by of table m < last_by of table (m + 2 ^ get_or ranks j 0)
    unfolding last_by last_worth
    gains m j l b f a h =
        let p = get_or ranks j 0 in
        let y = of.years - 1 in
        let g : y < columns = omega (arith, some, years, few) in
        omega (
          arith,
          b,
          figure m y a g,
          figure (m + 2 ^ p) y h g,
          combined_more own ranks m y j k l f,
          base_within m (m + 2 ^ p) y g (within_more m p f),
        )
