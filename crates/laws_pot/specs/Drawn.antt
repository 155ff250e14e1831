-- How a drawn number goes from tie to tie (02, CR 6): by place and by division alone, so that every row of places is taken by one number below the product of
-- the ways, and by no other. Assumes nothing.
use Rattle.std.specs.Prelude.{ℕ, ◌+◌, ◌*◌, ◌/◌, ◌%◌, ◌≤◌, ◌<◌, ◌≡◌, refl, true, length}
use Rattle.std.proofs.Common.{sym, ap, ap₂, ◌∙◌, arith, div-one, mod-eq_of_lt, mod-lt, div-add-mod', div-lt_iff_lt-mul, mul-le-mul_left}
use mathlib.Core.List.{List, [], ◌∷◌, ◌++◌}
use Rattle.std.proofs.Math.Option.{Option, none, some}
use Rattle.std.proofs.Math.Nat.{div-div-eq-div-mul, add-mul-div_left, add-mul-mod_self_left, div-eq_of_lt}
use Rattle.rules.specs.Pot.{Pot, Event, Trace, winners, divided, goes_on, clearing, fits, at_place, live, taken, down, follows, remaining, kept, number}
use Rattle.rules.specs.Pot.{ended_wide, alone, look, auction}
use Rattle.laws_pot.specs.Lists.{case, In, sift_in}
use Rattle.laws_pot.specs.Mono.{Lawful, clearing_below}
use Rattle.laws_pot.specs.Taken.{Lows, taken_lows}
use Rattle.laws_pot.specs.Kept.{number_kept}
use Rattle.laws_pot.specs.Runs.{Inv, won_seen, holds_at_the_end}

-- where there is one way the number stays as it is
pub one_way : (n : Option ℕ) → divided n 1 ≡ n
unfolding divided
one_way none = refl
one_way (some d) = ap (λ (x : ℕ). some x) (div-one d)

-- bids that fit together use none of it, nor does a bid turned down alone, nor a tie too wide
module _ (P : Pot) (n : Option ℕ) (s : Trace) where
  pub together_uses_none : (l : List ℕ) → fits P (l ++ winners s) ≡ true → goes_on n (look P s l ∷ s) ≡ goes_on n s
  unfolding goes_on look
  together_uses_none l t = rw t (one_way (goes_on n s))

  pub alone_uses_none : (b : ℕ) → goes_on n (alone P s b ∷ s) ≡ goes_on n s
  unfolding goes_on alone
  alone_uses_none b =
      case (follows P b (taken P (down P b [] [] ∷ s))) (λ t. rw t (one_way (goes_on n s))) (λ t. rw t (one_way (goes_on n s)))

  pub wide_uses_none : goes_on n (ended_wide P ∷ s) ≡ goes_on n s
  unfolding goes_on
  wide_uses_none = one_way (goes_on n s)

-- the ways of all steps together
unfoldable pub all_ways : Trace → ℕ
all_ways [] = 1
all_ways (e ∷ s) = all_ways s * e.ways

-- "If there are m": in no auction is a number divided by 0
pub auction_ways : (P : Pot) → Lawful P → 0 < all_ways (auction P)
unfolding all_ways
auction_ways P L =
    holds_at_the_end P L (λ (s : Trace). 0 < all_ways s) (λ s e I S h. omega (arith, mul-le-mul_left (all_ways s) S.ways)) (λ s h. omega arith) (omega arith)

-- after the steps of a trace the number has been divided by all their ways, the rest dropped
pub goes_on_is : (d : ℕ) (s : Trace) → goes_on (some d) s ≡ some (d / all_ways s)
unfolding goes_on divided all_ways
goes_on_is d [] = ap (λ (x : ℕ). some x) (sym (div-one d))
goes_on_is d (e ∷ s) = rw (goes_on_is d s) (ap (λ (x : ℕ). some x) (div-div-eq-div-mul d (all_ways s) e.ways))

-- "place (drawn number mod m)": the place that a number takes among m; and those that the number d takes at the steps of a trace, the newest first
unfoldable pub place_among : Option ℕ → (m : ℕ) → ℕ
place_among none m = 0
place_among (some n) m = n % m

unfoldable pub places : (d : ℕ) → Trace → List ℕ
places d [] = []
places d (e ∷ s) = place_among (goes_on (some d) s) e.ways ∷ places d s

-- a tie takes the combination at that place
pub taken_at : (P : Pot) (n : ℕ) (ws r : List ℕ) → number P (some n) ws r ≡ at_place (place_among (some n) (length (kept P ws r))) (kept P ws r)
unfolding number place_among
taken_at P n ws r = refl

-- a place for each step, among its ways
pub data Places : Trace → List ℕ → Type 0 where
  at_the_start : Places [] []
  after : {e : Event} {s : Trace} {k : ℕ} {ks : List ℕ} → k < e.ways → Places s ks → Places (e ∷ s) (k ∷ ks)

place_is : (d : ℕ) (e : Event) (s : Trace) → places d (e ∷ s) ≡ d / all_ways s % e.ways ∷ places d s
unfolding places place_among
place_is d e s = rw (goes_on_is d s)

ways_some : {s : Trace} {ks : List ℕ} → Places s ks → 0 < all_ways s
unfolding all_ways
ways_some at_the_start = omega arith
ways_some (after {e} {s} {k} h p) = omega (arith, mul-le-mul_left (all_ways s) h, ways_some p)

-- multiples of all ways change nothing
shifted : {s : Trace} {ks : List ℕ} (d x : ℕ) → Places s ks → places (d + all_ways s * x) s ≡ places d s
unfolding places all_ways
shifted d x at_the_start = refl
shifted d x (after {e} {s} h p) =
    let w = all_ways s in
    let q : d + w * e.ways * x ≡ d + w * (e.ways * x) = omega arith in
    ap (λ (n : ℕ). places n (e ∷ s)) q
    ∙ place_is (d + w * (e.ways * x)) e s
    ∙ ap₂ (λ (n : ℕ) (l : List ℕ). n ∷ l)
    (ap (λ (n : ℕ). n % e.ways) (add-mul-div_left d (e.ways * x) (ways_some p)) ∙ add-mul-mod_self_left (d / w) e.ways x) (shifted d (e.ways * x) p)
    ∙ sym (place_is d e s)

-- whatever is taken at each step, some number takes it: what one tie takes says nothing of the next
pub any_places : {s : Trace} {ks : List ℕ} → Places s ks → (d : ℕ) × (d < all_ways s) × (places d s ≡ ks)
unfolding places all_ways
any_places at_the_start = (0, omega arith, refl)
any_places (after {e} {s} {k} {ks} h p) =
    let r = any_places p in
    let w = all_ways s in
    let low : (r.0 + w * k) / w ≡ k = add-mul-div_left r.0 k (ways_some p) ∙ omega (arith, div-eq_of_lt r.1) in (
      r.0 + w * k,
      omega (arith, r.1, mul-le-mul_left w h),
      place_is (r.0 + w * k) e s
          ∙ ap₂ (λ (n : ℕ) (l : List ℕ). n ∷ l) (ap (λ (n : ℕ). n % e.ways) low ∙ mod-eq_of_lt h) (shifted r.0 k p ∙ r.2),
    )

head_is : {x y : ℕ} {a b : List ℕ} → x ∷ a ≡ y ∷ b → x ≡ y
head_is e = ap first e
  where
    first : List ℕ → ℕ
    first [] = 0
    first (x ∷ l) = x

tail_is : {x y : ℕ} {a b : List ℕ} → x ∷ a ≡ y ∷ b → a ≡ b
tail_is e = ap rest e
  where
    rest : List ℕ → List ℕ
    rest [] = []
    rest (x ∷ l) = l

-- and of the numbers below all ways one alone: the draw is fair
pub one_number : {s : Trace} {ks : List ℕ} (c d : ℕ) → Places s ks → c < all_ways s → d < all_ways s → places c s ≡ places d s → c ≡ d
unfolding all_ways
one_number c d at_the_start g h q = omega arith
one_number c d (after {e} {s} m p) g h q =
    let w = all_ways s in
    let z = sym (place_is c e s) ∙ q ∙ place_is d e s in
    let low : (n : ℕ) → n < w * e.ways → n / w < e.ways = λ n l. (div-lt_iff_lt-mul (ways_some p)).1 (omega arith) in
    let same : c / w ≡ d / w = sym (mod-eq_of_lt (low c g)) ∙ head_is z ∙ mod-eq_of_lt (low d h) in
    let less : c % w ≡ d % w = one_number (c % w) (d % w) p (mod-lt c (ways_some p)) (mod-lt d (ways_some p)) (rest c ∙ tail_is z ∙ sym (rest d)) in
    sym (div-add-mod' c w) ∙ ap₂ (λ (x y : ℕ). x * w + y) same less ∙ div-add-mod' d w
  where
    rest : (n : ℕ) → places (n % all_ways s) s ≡ places n s
    rest n = sym (shifted (n % all_ways s) (n / all_ways s) p) ∙ ap (λ (x : ℕ). places x s) (omega (arith, div-add-mod' n (all_ways s)))

-- ---- at a look of an auction: whatever number is drawn, the combination taken is one of those kept; that of document 01, without a number, is too
module _ (P : Pot) (L : Lawful P) (s : Trace) (I : Inv P s) {x : ℕ} (first : In x (taken P s)) where
  abbrev ws : List ℕ
  ws = winners s

  abbrev r : List ℕ
  r = remaining P ws (taken P s)

  pub looked_kept : (n : Option ℕ) → In (number P n ws r) (kept P ws r)
  unfolding remaining
  looked_kept n = number_kept P ws r L I.fit h.low (λ a i. let z = back a i in (z.0, z.2)) under n
    where
      h : Lows P s (taken P s)
      h = taken_lows P s

      back : (a : ℕ) → In a r → In a P.bids × (live P s a ≡ true) × (P.price a ≡ h.low)
      back a i = h.sound a (sift_in a (λ c. fits P (c ∷ ws)) (taken P s) i).0

      under : (d : ℕ) → clearing P ws d ≤ h.low
      under d = clearing_below P h.low ws d (λ w i.
          let z = h.sound x first in
          omega (arith, I.up w x (won_seen w s i) z.0 z.1, z.2))
