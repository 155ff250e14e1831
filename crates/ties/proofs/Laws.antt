-- Laws of ties over plain variables: each answers one need of a proof. Assumes nothing.
use Prim.Native.Nat.{ℕ, zero, suc, ◌+◌, ◌-◌, ◌*◌, ◌/◌, ◌%◌, ◌^◌, ◌≤◌, ◌<◌}
use mathlib.Core.Path.{◌≡◌, refl, sym, ap, ◌∙◌}
use mathlib.Core.Bool.{Bool, true, false, not, ◌&&◌}
use mathlib.Core.List.{List, [], ◌∷◌}
use native.Mathlib.Numerals.{add-one}
use native.Mathlib.Nat.{le_antisymm}
use native.Mathlib.Omega.{arith}
use lib.ListN.{length, get_or, set}
use lib.Dec.{eqb, leb}
use lib.Pow.{pow_mono}
use borrow.Author.Tests.{eqb-true, eqb-false, eq-eqb, ne_eqb, lt-leb, le-leb, leb-true}
use Rattle.std.specs.Prelude.{Option, None, Some, MatchOption, IsSomeAnd}
use Rattle.rules.specs.Names.{widest_tie}
use Rattle.rules.specs.Lists.{pick, sift, below}
use Rattle.rules.specs.Pot.{has, best, at_place}
use Rattle.laws_pot.specs.Lists.{case, and_true, and_none, sift_le, length_below}
use Rattle.laws_pot.specs.Bits.{add_lt}
use Rattle.sheet.specs.declared.Size.{Size}
use Rattle.sheet.specs.Sheet.{columns, limit_at, row_year}
use Rattle.totals.specs.Totals.{worth_of, fits_to}
use Rattle.combinations.specs.declared.Tied.{Tied}
use Rattle.combinations.specs.Combinations.{combinations, owns_of, table_by, joint_of, union_of, Gathered}
use Rattle.combinations.proofs.Lists.{gathered_owned}
use Rattle.combinations.proofs.Parts.{tabled}
use Rattle.ties.specs.declared.best.Best.{Best}
use Rattle.ties.specs.declared.listing.Listed.{Listed}
use Rattle.ties.specs.declared.listing.Answer.{Answer}
use Rattle.ties.specs.declared.Choice.{Choice}
use Rattle.ties.specs.Ties.{alone_total, alone_fits, keeps_of, best_of, combination_of, ok_by, last_by, better_of, addable_of, full_to, kept_by, listed_of}
use Rattle.ties.specs.Ties.{Based, Drawing, counted_of, top_by, ways_by, answer_by, answer_of, left_of, chosen_of}

-- ---- a bid alone
pub pow_low : (d : ℕ) → d < 4 → 2 ^ d ≤ 8
pow_low zero h = omega arith
pow_low (suc zero) h = omega arith
pow_low (suc (suc zero)) h = omega arith
pow_low (suc (suc (suc zero))) h = omega arith
pow_low (suc (suc (suc (suc d)))) h = absurd (omega arith)

pub pow_at : {d r : ℕ} (e : ℕ) → d ≡ e → e < 4 → r ≡ 2 ^ d → r ≤ 8
pow_at e q h er = rw (er, q) (pow_low e h)

pub alone_is : (sheet : List ℕ) (of : Size) (base : List ℕ) (p k c : ℕ) {d t w : ℕ} → d ≡ row_year sheet k → t ≡ 2 ^ d → w ≡ worth_of sheet of k p c
    → get_or base (t * columns + c) 0 + w ≡ alone_total sheet of base p k c
unfolding alone_total
alone_is sheet of base p k c ed et ew = rw (ew, et, ed)

pub and_yes : {a b c : Bool} → a ≡ true → c ≡ b → c ≡ (a && b)
and_yes h e = rw (h, e)

pub and_no : {a : Bool} (b : Bool) → a ≡ false → false ≡ (a && b)
and_no b h = rw h

pub keeps_is : (sheet : List ℕ) (of : Size) (base : List ℕ) (p : ℕ) (l : List Bool) (k : ℕ) {b : Bool} → b ≡ (get_or l k false && alone_fits sheet of base p k)
    → b ≡ keeps_of sheet of base p l k
unfolding keeps_of
keeps_is sheet of base p l k e = e

pub power_low : {k : ℕ} → k ≤ widest_tie → 2 ^ k ≤ combinations
power_low h = pow_mono {j = widest_tie} h

-- ---- the bids of a combination
module _ (ranks : List ℕ) (mask j : ℕ) {b : Bool} (eb : b ≡ has mask (get_or ranks j 0)) (list : List ℕ) {a : List Bool}
    (ea : a ≡ combination_of list ranks mask j) where
  pub combination_hit : b ≡ true → set a (get_or list j 0) true ≡ combination_of list ranks mask (j + 1)
  unfolding combination_of
  combination_hit h = rw (add-one j, sym eb ∙ h, ea)

  pub combination_miss : b ≡ false → a ≡ combination_of list ranks mask (j + 1)
  unfolding combination_of
  combination_miss h = rw (add-one j, sym eb ∙ h, ea)

-- ---- the search
-- a column above its limit, whatever the others
pub fits_stops : (f : ℕ → ℕ) (sheet : List ℕ) (c n : ℕ) {x q : ℕ} → x ≡ f c → q ≡ limit_at sheet c → q < x → c < n → false ≡ fits_to f sheet n
unfolding fits_to
fits_stops f sheet c zero e l h g = absurd (omega arith)
fits_stops f sheet c (suc n) e l h g =
    case (eqb c n) (λ t. rw (← (eqb-true c n t), ← e, ← l, lt-leb _ _ h))
    (λ u. let d = eqb-false c n u in rw (← (fits_stops f sheet c n e l h (omega arith))) (sym (and_none (leb (f n) (limit_at sheet n)))))

-- what fits is within the limit of each column
pub fits_at_lem : (f : ℕ → ℕ) (sheet : List ℕ) (c n : ℕ) → fits_to f sheet n ≡ true → c < n → f c ≤ limit_at sheet c
unfolding fits_to
fits_at_lem f sheet c zero e h = absurd (omega arith)
fits_at_lem f sheet c (suc n) e h =
    let a = and_true (leb (f n) (limit_at sheet n)) (fits_to f sheet n) e in
    case (eqb c n) (λ t. rw (eqb-true c n t) (leb-true (f n) (limit_at sheet n) a.0))
    (λ u. let d = eqb-false c n u in fits_at_lem f sheet c n a.1 (omega arith))

-- what fits at more fits at less
pub fits_down : (f g : ℕ → ℕ) (sheet : List ℕ) (n : ℕ) → ((c : ℕ) → c < n → f c ≤ g c) → fits_to g sheet n ≡ true → fits_to f sheet n ≡ true
unfolding fits_to
fits_down f g sheet zero h e = refl
fits_down f g sheet (suc n) h e =
    let a = and_true (leb (g n) (limit_at sheet n)) (fits_to g sheet n) e in
    rw (le-leb (f n) (limit_at sheet n) (omega (arith, h n (omega arith), leb-true (g n) (limit_at sheet n) a.0)))
    (fits_down f g sheet n (λ c l. h c (omega arith)) a.1)

-- the better of two
module _ (b : Best) (mask total : ℕ) where
  pub better_less : total < b.total → b ≡ better_of b mask total
  unfolding better_of
  better_less g = rw (lt-leb b.total total g)

  pub better_more : b.total ≤ total → ◌≡◌ {A = Best} (record { mask = mask; total = total }) (better_of b mask total)
  unfolding better_of
  better_more g = rw (le-leb b.total total g)

pub last_is : (of : Size) (table : List ℕ) (mask : ℕ) {t w : ℕ} → t ≡ union_of table mask → w ≡ joint_of table mask t (of.years - 1) → w ≡ last_by of table mask
unfolding last_by
last_is of table mask et ew = rw (ew, et)

pub ok_is : (sheet : List ℕ) (of : Size) (table : List ℕ) (mask : ℕ) {t : ℕ} {f : Bool} → t ≡ union_of table mask
    → f ≡ fits_to (joint_of table mask t) sheet of.columns → f ≡ ok_by sheet of table mask
unfolding ok_by
ok_is sheet of table mask et ef = rw (ef, et)

pub best_none : (ok : ℕ → Bool) (tot : ℕ → ℕ) {w : ℕ} → w ≡ tot 0 → ◌≡◌ {A = Best} (record { mask = 0; total = w }) (best_of ok tot 0)
unfolding best
best_none ok tot e = rw e

module _ (ok : ℕ → Bool) (tot : ℕ → ℕ) (n : ℕ) {b : Best} {f : Bool} (eb : b ≡ best_of ok tot n) (ef : f ≡ ok n) where
  pub best_more : {r : Best} {w : ℕ} → f ≡ true → w ≡ tot n → r ≡ better_of b n w → r ≡ best_of ok tot (n + 1)
  unfolding best better_of
  best_more h ew er = rw (er, eb, ew, add-one n, sym ef ∙ h) (go (leb (tot (best ok tot n)) (tot n)))
    where
      go : (t : Bool) → ◌≡◌ {A = Best} (pick t (record { mask = n; total = tot n }) (record { mask = best ok tot n; total = tot (best ok tot n) }))
          (record { mask = pick t n (best ok tot n); total = tot (pick t n (best ok tot n)) })
      go true = refl
      go false = refl

  pub best_same : f ≡ false → b ≡ best_of ok tot (n + 1)
  unfolding best
  best_same h = rw (eb, add-one n, sym ef ∙ h)

-- equal tests and figures below a number, the same best
pub best_less : (f : ℕ → Bool) (t : ℕ → ℕ) (n : ℕ) → 0 < n → best f t n < n
unfolding best
best_less f t zero h = absurd (omega arith)
best_less f t (suc zero) h = case (f 0 && leb (t 0) (t 0)) (λ e. rw e (omega arith)) (λ e. rw e (omega arith))
best_less f t (suc (suc n)) h =
    let r = best_less f t (suc n) (omega arith) in
    case (f (suc n) && leb (t (best f t (suc n))) (t (suc n))) (λ e. rw e (omega arith)) (λ e. rw e (omega arith))

pub best_alike : (f g : ℕ → Bool) (t u : ℕ → ℕ) (most n : ℕ) → n ≤ most
    → ((x : ℕ) → x < most → f x ≡ g x) → ((x : ℕ) → x < most → t x ≡ u x) → best f t n ≡ best g u n
unfolding best
best_alike f g t u most zero l h k = refl
best_alike f g t u most (suc n) l h k =
    rw (h n l, k n l, best_alike f g t u most n (omega arith) h k, k (best g u n) (small n l))
  where
    small : (n : ℕ) → n < most → best g u n < most
    small zero l = unfold best in l
    small (suc n) l = omega (arith, best_less g u (suc n) (omega arith))

-- numbers of combinations
pub mask_low : {k e mask : ℕ} → k ≤ widest_tie → e ≡ 2 ^ k → mask < e → mask < combinations
mask_low {k} {e} {mask} h q g = let m : 2 ^ k ≤ combinations = pow_mono {j = widest_tie} h in omega arith

pub add_low : {mask i p : ℕ} {b : Bool} → mask < combinations → b ≡ has mask i → b ≡ false → i < widest_tie → p ≡ 2 ^ i → mask + p < combinations
add_low {mask} {i} h eb f l ep = rw ep (add_lt mask i widest_tie (sym eb ∙ f) l h)

-- a loop over the numbers below 2 ^ k has reached its end
pub ends : {A : Type 0} (f : ℕ → A) (k : ℕ) {x : A} {n e : ℕ} → x ≡ f n → n ≤ e → e ≤ n → e ≡ 2 ^ k → x ≡ f (2 ^ k)
ends f k ex h g ee = ex ∙ ap f (le_antisymm h g ∙ ee)

-- ---- those kept
module _ (ok : ℕ → Bool) (mask place : ℕ) {b : Bool} (eb : b ≡ has mask place) where
  pub addable_in : b ≡ true → false ≡ addable_of ok mask place
  unfolding addable_of
  addable_in h = rw (← eb, h)

  pub addable_out : {p : ℕ} {f : Bool} → b ≡ false → p ≡ 2 ^ place → f ≡ ok (mask + p) → f ≡ addable_of ok mask place
  unfolding addable_of
  addable_out h ep ef = rw (← eb, h, ef, ep)

module _ (ok : ℕ → Bool) (ranks : List ℕ) (mask j : ℕ) {b : Bool} (eb : b ≡ addable_of ok mask (get_or ranks j 0)) where
  pub full_more : b ≡ false → true ≡ full_to ok ranks mask j → true ≡ full_to ok ranks mask (j + 1)
  unfolding full_to
  full_more h e = rw (add-one j, ← eb, h) e

  pub full_stops : (k : ℕ) → b ≡ true → j < k → false ≡ full_to ok ranks mask k
  unfolding full_to
  full_stops zero h g = absurd (omega arith)
  full_stops (suc k) h g =
      case (eqb j k) (λ t. rw (← (eqb-true j k t), ← eb, h))
      (λ u. let d = eqb-false j k u in rw (← (full_stops k h (omega arith))) (sym (and_none (not (addable_of ok mask (get_or ranks k 0))))))

module _ (sheet : List ℕ) (of : Size) (table : List ℕ) (tied : Tied) (most mask : ℕ) {f : Bool} (ef : f ≡ ok_by sheet of table mask) where
  pub kept_misfit : f ≡ false → false ≡ kept_by sheet of table tied most mask
  unfolding kept_by
  kept_misfit h = rw (← ef, h)

  module _ {w : ℕ} (h : f ≡ true) (ew : w ≡ last_by of table mask) where
    pub kept_less : (w ≡ most → ⊥) → false ≡ kept_by sheet of table tied most mask
    unfolding kept_by
    kept_less g = rw (← ef, h, ← ew, ne_eqb w most g)

    pub kept_full : {r : Bool} → w ≡ most → r ≡ full_to (ok_by sheet of table) tied.ranks mask tied.count → r ≡ kept_by sheet of table tied most mask
    unfolding kept_by
    kept_full g er = rw (← ef, h, ← ew, eq-eqb w most g) er

module _ (l : Listed) (mask place : ℕ) where
  pub counted_at : l.count ≡ place → ◌≡◌ {A = Listed} (record { count = l.count + 1; mask = mask }) (counted_of l mask place)
  unfolding counted_of
  counted_at e = rw (eq-eqb l.count place e)

  pub counted_past : (l.count ≡ place → ⊥) → ◌≡◌ {A = Listed} (record { count = l.count + 1; mask = l.mask }) (counted_of l mask place)
  unfolding counted_of
  counted_past e = rw (ne_eqb l.count place e)

module _ (f : ℕ → Bool) (place : ℕ) where
  pub listed_none : ◌≡◌ {A = Listed} (record { count = 0; mask = 0 }) (listed_of f place 0)
  unfolding listed_of at_place
  listed_none = refl

  module _ (n : ℕ) {l : Listed} (el : l ≡ listed_of f place n) where
    pub listed_few : l.count ≤ n
    unfolding listed_of
    listed_few = omega (arith, ap (λ (x : Listed). x.count) el, sift_le f (below n), length_below n)

    module _ {b : Bool} (eb : b ≡ f n) where
      pub listed_more : {r : Listed} → b ≡ true → r ≡ counted_of l n place → r ≡ listed_of f place (n + 1)
      unfolding listed_of counted_of at_place
      listed_more h er = rw (er, el, add-one n, sym eb ∙ h, add-one (length (sift f (below n))))

      pub listed_same : b ≡ false → l ≡ listed_of f place (n + 1)
      unfolding listed_of
      listed_same h = rw (el, add-one n, sym eb ∙ h)

-- ---- what a tie takes
module _ (sheet : List ℕ) (of : Size) (table : List ℕ) (tied : Tied) {b : Best}
    (eb : b ≡ best_of (ok_by sheet of table) (last_by of table) (2 ^ tied.count)) where
  ways_are : (place : ℕ) {l : Listed} → l ≡ listed_of (kept_by sheet of table tied b.total) place (2 ^ tied.count)
      → l ≡ record { count = length (ways_by sheet of table tied); mask = at_place place (ways_by sheet of table tied) }
  unfolding listed_of ways_by top_by
  ways_are place el = rw (el, eb)

  -- `first` has counted those kept
  module _ {first : Listed} (ef : first ≡ listed_of (kept_by sheet of table tied b.total) 0 (2 ^ tied.count)) where
    many : first.count ≡ length (ways_by sheet of table tied)
    many = ap (λ (x : Listed). x.count) (ways_are 0 ef)

    pub answer_top : {drawn : ℕ} → drawn ≡ 0 → ◌≡◌ {A = Answer} (record { mask = b.mask; ways = first.count }) (answer_by sheet of table tied drawn)
    unfolding answer_by top_by
    answer_top e = rw (e, many, eb)

    -- d is the drawn number
    module _ (d : ℕ) {drawn : ℕ} (ed : drawn ≡ suc d) where
      pub answer_none : first.count ≡ 0 → ◌≡◌ {A = Answer} (record { mask = 0; ways = first.count }) (answer_by sheet of table tied drawn)
      unfolding answer_by
      answer_none e = rw (ed, many) (go (ways_by sheet of table tied) (sym many ∙ e))
        where
          go : (l : List ℕ) → length l ≡ 0 → ◌≡◌ {A = Answer} (record { mask = 0; ways = length l }) (record { mask = at_place (d % length l) l; ways = length l })
          go [] q = unfold at_place in refl
          go (x ∷ l) q = absurd (omega arith)

      pub answer_place : (place : ℕ) {l : Listed} → place ≡ d % first.count → l ≡ listed_of (kept_by sheet of table tied b.total) place (2 ^ tied.count)
          → ◌≡◌ {A = Answer} (record { mask = l.mask; ways = first.count }) (answer_by sheet of table tied drawn)
      unfolding answer_by
      answer_place place ep el = rw (ed, ap (λ (x : Listed). x.mask) (ways_are place el), ep, many)

-- what the gathered bids give the listing to read
pub drawing : (sheet : List ℕ) (of : Size) (base : List ℕ) (tied : Tied) (p : ℕ) {own table : List ℕ} → Based sheet of base → Gathered of tied
    → own ≡ owns_of sheet of tied.bids p tied.count → table ≡ table_by base own tied.ranks tied.starts tied.count → Drawing sheet of table tied
drawing sheet of base tied p B G eo et =
    let O = gathered_owned sheet of p B.ready G eo in
    record {
      searching = record { ready = B.ready; tables = tabled _ _ _ _ _ G.placed.starts G.placed.few B.winners O.bids et };
      placed = G.placed;
    }

pub answer_is : (sheet : List ℕ) (of : Size) (base : List ℕ) (tied : Tied) (p drawn : ℕ) {own table : List ℕ} {a : Answer}
    → own ≡ owns_of sheet of tied.bids p tied.count → table ≡ table_by base own tied.ranks tied.starts tied.count
    → a ≡ answer_by sheet of table tied drawn → a ≡ answer_of sheet of base tied p drawn
unfolding answer_of
answer_is sheet of base tied p drawn eo et ea = rw (ea, et, eo)

-- ---- what is chosen then, and what is left of the drawn number
module _ (tied : Tied) (a : Answer) {w : List Bool} (ew : w ≡ combination_of tied.bids tied.ranks a.mask tied.count) where
  pub chosen_is : (drawn : Option ℕ) {left : Option ℕ} → left ≡ left_of drawn a.ways → ◌≡◌ {A = Choice} (record { wins = w; drawn = left }) (chosen_of tied a drawn)
  unfolding chosen_of
  chosen_is drawn e = rw (ew, e)

-- what is left of a drawn number, as `map` gives it
pub left_is : (ways : ℕ) (drawn left : Option ℕ) (P : ℕ → ℕ → Type 0) → MatchOption drawn (left ≡ None) (λ d. IsSomeAnd left (P d))
    → ((d q : ℕ) → P d q → q ≡ d / ways) → left ≡ left_of drawn ways
unfolding left_of
left_is ways None left P m h = m
left_is ways (Some d) None P m h = absurd m
left_is ways (Some d) (Some q) P m h = ap Some (h d q m)
