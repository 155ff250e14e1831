-- The chains of the applications' earlier bids, and the walk along one. Assumes nothing.
use Prim.Native.Nat.{ℕ, zero, suc, ◌+◌, ◌-◌, ◌≤◌, ◌<◌}
use mathlib.Core.Path.{◌≡◌, refl, sym, ap, subst, ◌∙◌}
use mathlib.Core.List.{List, [], ◌∷◌}
use mathlib.Core.Bool.{true, false}
use mathlib.Core.Logic.{◌⊎◌, inl, inr, ⊎_elim}
use native.Mathlib.Omega.{arith}
use native.Mathlib.Decide.{dec_lt, ℕ_discrete}
use native.Mathlib.Nat.{le_refl, not-suc-le-zero, le_of_suc-le-suc, eq-or-lt_of_le}
use lib.ListN.{length, get_or, set, replicate, length-set, get_or-eq_default}
use lib.Seq.{get_or-set_same, get_or-set_other}
use Rattle.rules.specs.Names.{bids_each, bids_a_year, bids_too_many, price_twice}
use Rattle.rules.specs.File.{bid_at}
use Rattle.rules.specs.Lists.{given, both, how_many}
use Rattle.rules.specs.Refusals.{or_fault, eight_of, nine_of, same_app?, same_year?}
use Rattle.laws_reading.specs.Walk.{given_yes, given_no, one_counted, found, passed}
use Rattle.bids.proofs.Laws.{is_true, not_true}
use Rattle.bids.specs.Bids.{alone, same_price?, Free, Latest, Previous}

-- ---- places of a list

-- within a list, what is read does not hang on the number for no place
pub link_any : (l : List ℕ) (k d e : ℕ) → k < length l → get_or l k d ≡ get_or l k e
link_any [] k d e h = absurd (not-suc-le-zero h)
link_any (x ∷ xs) zero d e h = refl
link_any (x ∷ xs) (suc k) d e h = link_any xs k d e (le_of_suc-le-suc h)

-- past its end, that number is read, whatever was put
past_put : (l : List ℕ) (k v j d : ℕ) → (j < length l → ⊥) → get_or (set l k v) j d ≡ d
past_put l k v j d h = get_or-eq_default (set l k v) d (omega (arith, length-set l k v))

-- ---- bids that are passed over

pub free_none : (recs : List ℕ) (a k : ℕ) → Free recs a k k
free_none recs a k = record { within = le_refl k; none = λ j h l e. absurd (omega arith) }

free_more : (recs : List ℕ) (a r k : ℕ) → Free recs a r k → ((bid_at recs k).app ≡ a → ⊥) → Free recs a r (k + 1)
free_more recs a r k f n = record {
  within = omega (arith, f.within);
  none = λ j h l e. ⊎_elim (λ (q : j ≡ k). n (subst (λ (x : ℕ). (bid_at recs x).app ≡ a) q e)) (λ q. f.none j h q e) (eq-or-lt_of_le (omega arith));
}

-- ---- bid i is accepted

pub latest_next : (recs latest : List ℕ) (i a : ℕ) {l : List ℕ} → Latest recs latest i → a ≡ (bid_at recs i).app → l ≡ set latest a (i + 1)
    → Latest recs l (i + 1)
latest_next recs latest i a f e p = rw p (record { each = λ b. at b (dec_lt b (length latest)) (ℕ_discrete b a) })
  where
    at : (b : ℕ) → Dec (b < length latest) → Dec (b ≡ a) → Free recs b (get_or (set latest a (i + 1)) b (i + 1)) (i + 1)
    at b (no n) q = rw (past_put latest a (i + 1) b (i + 1) n) (free_none recs b (i + 1))
    at b (yes h) (yes p) =
        let q : get_or (set latest a (i + 1)) b (i + 1) ≡ i + 1 = rw p (get_or-set_same latest a (i + 1) (i + 1) (omega arith)) in
        rw q (free_none recs b (i + 1))
    at b (yes h) (no p) =
        let q : get_or (set latest a (i + 1)) b (i + 1) ≡ get_or latest b i = get_or-set_other latest a b (i + 1) (i + 1) p ∙ link_any latest b (i + 1) i h in
        rw q (free_more recs b _ i (f.each b) (λ z. p (sym (e ∙ z))))

pub previous_next : (recs previous : List ℕ) (i r : ℕ) {l : List ℕ} → Previous recs previous i → Free recs (bid_at recs i).app r i → l ≡ set previous i r
    → Previous recs l (i + 1)
previous_next recs previous i r b f p = rw p (record { each = λ k h. at k h (ℕ_discrete k i) })
  where
    here : Dec (i < length previous) → Free recs (bid_at recs i).app (get_or (set previous i r) i i) i
    here (yes h) = rw (get_or-set_same previous i r i h) f
    here (no n) = rw (past_put previous i r i i n) (free_none recs _ i)

    at : (k : ℕ) → k < i + 1 → Dec (k ≡ i) → Free recs (bid_at recs k).app (get_or (set previous i r) k k) k
    at k h (yes p) = subst (λ (x : ℕ). Free recs (bid_at recs x).app (get_or (set previous i r) x x) x) (sym p) (here (dec_lt i (length previous)))
    at k h (no p) = rw (get_or-set_other previous i k r k p) (b.each k (omega arith))

-- ---- no bid is chained yet

pub latest_blank : (recs : List ℕ) (n : ℕ) → Latest recs (replicate n 0) 0
latest_blank recs n = record { each = λ a. rw (same n a 0) (free_none recs a 0) }
  where
    same : (n a z : ℕ) → get_or (replicate n z) a z ≡ z
    same zero a z = refl
    same (suc n) zero z = refl
    same (suc n) (suc a) z = same n a z

pub previous_blank : (recs previous : List ℕ) → Previous recs previous 0
previous_blank recs previous = record { each = λ k h. absurd (not-suc-le-zero h) }

-- ---- the walk

-- how many of the bids from r to k are counted, where none is
none_counted : {P : ℕ → Type 0} (d : (k : ℕ) → Dec (P k)) (r k : ℕ) → r ≤ k → ((j : ℕ) → r ≤ j → j < k → P j → ⊥) → how_many k d ≡ how_many r d
unfolding how_many
none_counted {P} d zero zero h n = refl
none_counted {P} d (suc r) zero h n = absurd (not-suc-le-zero h)
none_counted {P} d r (suc k) h n = at (eq-or-lt_of_le h) (none_counted d r k)
  where
    at : (r ≡ suc k) ⊎ (r < suc k) → (r ≤ k → ((j : ℕ) → r ≤ j → j < k → P j → ⊥) → how_many k d ≡ how_many r d) → how_many (suc k) d ≡ how_many r d
    at (inl e) w = ap (λ (x : ℕ). how_many x d) (sym e)
    at (inr l) w =
        let z = given_no {X = ℕ} (d k) 1 0 (n k (le_of_suc-le-suc l) (omega arith)) in
        let e = w (le_of_suc-le-suc l) (λ j a b. n j a (omega arith)) in
        omega arith

-- bid k is counted or not, and those from r to it are not
count_step : {P : ℕ → Type 0} (d : (k : ℕ) → Dec (P k)) (k r s : ℕ) {left n t : ℕ} → left ≡ k + 1 → r ≤ k → ((j : ℕ) → r ≤ j → j < k → P j → ⊥)
    → how_many left d + s ≡ t → n ≡ given (d k) 1 0 → how_many r d + (s + n) ≡ t
count_step d k r s e h f p q =
    let l = ap (λ (x : ℕ). how_many x d) e in
    let o = one_counted k d refl q in
    let z = none_counted d r k h f in
    omega arith

-- the bids from `left` to bid i are walked: those of its application and of its year are counted, and none is at its price
pub record Walked (recs : List ℕ) (i left of-app of-year : ℕ) : Type 0 where
  pub within : left ≤ i
  pub apps_few : of-app + left ≤ i
  pub years_few : of-year + left ≤ i
  pub apps : how_many left (λ j. same_app? (alone recs i) j i) + of-app ≡ how_many i (λ j. same_app? (alone recs i) j i)
  pub years : how_many left (λ j. same_year? (alone recs i) j i) + of-year ≡ how_many i (λ j. same_year? (alone recs i) j i)
  pub prices : (j : ℕ) → left ≤ j → j < i → ((bid_at recs j).app ≡ (bid_at recs i).app) × ((bid_at recs j).price ≡ (bid_at recs i).price) → ⊥

pub walk_start : (recs : List ℕ) (i left : ℕ) → Free recs (bid_at recs i).app left i → Walked recs i left 0 0
walk_start recs i left f = record {
  within = f.within;
  apps_few = omega (arith, f.within);
  years_few = omega (arith, f.within);
  apps = omega (arith, none_counted (λ j. same_app? (alone recs i) j i) left i f.within f.none);
  years = omega (arith, none_counted (λ j. same_year? (alone recs i) j i) left i f.within (λ j h l e. f.none j h l e.0));
  prices = λ j h l e. f.none j h l e.0;
}

pub walk_on : (recs : List ℕ) (i left r of-app of-year : ℕ) {n m : ℕ} → Walked recs i left of-app of-year → 0 < left
    → Free recs (bid_at recs i).app r (left - 1)
    → false ≡ given (same_price? recs (left - 1) i) true false
    → (n ≡ given (same_app? (alone recs i) (left - 1) i) 1 0) × (n ≤ 1) → (m ≡ given (same_year? (alone recs i) (left - 1) i) 1 0) × (m ≤ 1)
    → Walked recs i r (of-app + n) (of-year + m)
walk_on recs i left r of-app of-year w h f z n m = record {
  within = omega (arith, f.within, w.within);
  apps_few = omega (arith, f.within, w.apps_few, n.1);
  years_few = omega (arith, f.within, w.years_few, m.1);
  apps = count_step (λ j. same_app? (alone recs i) j i) (left - 1) r of-app (omega arith) f.within f.none w.apps n.0;
  years = count_step (λ j. same_year? (alone recs i) j i) (left - 1) r of-year (omega arith) f.within (λ j a b e. f.none j a b e.0) w.years m.0;
  prices = λ j a b e. at j a b e (dec_lt j left) (ℕ_discrete j (left - 1));
}
  where
    at : (j : ℕ) → r ≤ j → j < i → ((bid_at recs j).app ≡ (bid_at recs i).app) × ((bid_at recs j).price ≡ (bid_at recs i).price) → Dec (j < left)
        → Dec (j ≡ left - 1) → ⊥
    at j a b e (no l) q = w.prices j (omega arith) b e
    at j a b e (yes l) (no q) = f.none j a (omega arith) e.0
    at j a b e (yes l) (yes q) =
        not_true (same_price? recs (left - 1) i) z
        (subst (λ (x : ℕ). ((bid_at recs x).app ≡ (bid_at recs i).app) × ((bid_at recs x).price ≡ (bid_at recs i).price)) q e)

-- an earlier bid of the application is at the price
pub eight_found : (recs : List ℕ) (i k : ℕ) → k < i → true ≡ given (same_price? recs k i) true false
    → price_twice ≡ or_fault (eight_of (alone recs i) i) (nine_of (alone recs i) i)
unfolding eight_of
eight_found recs i k h t = found _ _ (sym (given_no _ _ _ (λ f. f k h (is_true (same_price? recs k i) t)))) (λ z. omega arith)

-- all earlier bids are walked, and none is at the price
pub nine_counted : (recs : List ℕ) (i left of-app of-year : ℕ) {r : ℕ} → Walked recs i left of-app of-year → left ≤ 0
    → r ≡ given (both (dec_lt of-app bids_each) (dec_lt of-year bids_a_year)) 0 bids_too_many → r ≡ or_fault (eight_of (alone recs i) i) (nine_of (alone recs i) i)
unfolding eight_of nine_of how_many
nine_counted recs i left of-app of-year w h e =
    let z : left ≡ 0 = omega arith in
    let a : of-app ≡ how_many i (λ j. same_app? (alone recs i) j i) = let e = (rw z at w).apps in omega arith in
    let y : of-year ≡ how_many i (λ j. same_year? (alone recs i) j i) = let e = (rw z at w).years in omega arith in
    passed _ _ (sym (given_yes _ _ _ (λ j l. w.prices j (omega arith) l))) refl (rw (a, y) at e)
