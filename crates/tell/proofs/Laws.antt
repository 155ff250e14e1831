-- Merging lists place by place. Assumes nothing.
use Prim.Native.Nat.{ℕ, zero, suc, ◌+◌, ◌≤◌, ◌<◌}
use mathlib.Core.Path.{◌≡◌, refl, ◌∙◌}
use mathlib.Core.Bool.{Bool, true, false, ◌&&◌}
use mathlib.Core.List.{List}
use native.Mathlib.Decide.{dec_lt}
use native.Mathlib.Numerals.{add-one}
use native.Mathlib.Omega.{arith}
use lib.Dec.{eqb, ltb}
use lib.ListN.{length, get_or, set, length-set}
use borrow.Author.Tests.{eqb-true, eqb-false, eq-eqb, ne_eqb, lt-ltb, le-ltb}
use Rattle.rules.specs.Lists.{pick}
use Rattle.laws_pot.specs.Lists.{case}
use Rattle.arrays.proofs.Arrays.{put_is}
use Rattle.tell.specs.ToldTo.{merged}

-- ---- one place more

pub merged_hit : {A : Type 0} (own : ℕ → Bool) (mine old : List A) (d : A) (a : ℕ) {l : List A} {t : Bool} → l ≡ merged own mine old d a → t ≡ own a
    → t ≡ true
    → set l a (get_or mine a d) ≡ merged own mine old d (a + 1)
unfolding merged
merged_hit own mine old d a e q h = rw (add-one a, ← q, h, e)

pub merged_miss : {A : Type 0} (own : ℕ → Bool) (mine old : List A) (d : A) (a : ℕ) {l : List A} {t : Bool} → l ≡ merged own mine old d a → t ≡ own a
    → t ≡ false
    → l ≡ merged own mine old d (a + 1)
unfolding merged
merged_miss own mine old d a e q h = rw (add-one a, ← q, h) e

-- ---- what stands at each place

pub merged_length : {A : Type 0} (own : ℕ → Bool) (mine old : List A) (d : A) (n : ℕ) → length (merged own mine old d n) ≡ length old
unfolding merged
merged_length own mine old d zero = refl
merged_length own mine old d (suc n) =
    case (own n) (λ t. rw t (length-set (merged own mine old d n) n (get_or mine n d) ∙ merged_length own mine old d n))
    (λ f. rw f (merged_length own mine old d n))

pub merged_past : {A : Type 0} (own : ℕ → Bool) (mine old : List A) (d : A) (n a : ℕ) → n ≤ length old → n ≤ a
    → get_or (merged own mine old d n) a d ≡ get_or old a d
unfolding merged
merged_past own mine old d zero a h g = refl
merged_past own mine old d (suc n) a h g =
    let ih = merged_past own mine old d n a (omega arith) (omega arith) in
    case (own n)
    (λ t. rw t (put_is (merged own mine old d n) n a (get_or mine n d) d (omega (arith, merged_length own mine old d n))
    ∙ rw (ne_eqb a n (λ e. omega arith)) ih))
    (λ f. rw f ih)

pub merged_at : {A : Type 0} (own : ℕ → Bool) (mine old : List A) (d : A) (n a : ℕ) → n ≤ length old → a < n
    → get_or (merged own mine old d n) a d ≡ pick (own a) (get_or mine a d) (get_or old a d)
unfolding merged
merged_at own mine old d zero a h g = absurd (omega arith)
merged_at own mine old d (suc n) a h g =
    case (eqb a n)
    (λ t. rw (eqb-true a n t) (case (own n)
    (λ y. rw y (put_is (merged own mine old d n) n n (get_or mine n d) d (omega (arith, merged_length own mine old d n)) ∙ rw (eq-eqb n n refl)))
    (λ z. rw z (merged_past own mine old d n n (omega arith) (omega arith)))))
    (λ f. let q = eqb-false a n f in
    let ih = merged_at own mine old d n a (omega arith) (omega arith) in
    case (own n)
    (λ y. rw y (put_is (merged own mine old d n) n a (get_or mine n d) d (omega (arith, merged_length own mine old d n)) ∙ rw f ih))
    (λ z. rw z ih))

-- ---- what is told of one pot more: `pot` is the pot of a place, whose own is told now, and was told before of the pots before p

pub told_more : {A : Type 0} (q p : ℕ) (x d : A) {new old : A} → (q ≡ p → new ≡ x) → old ≡ pick (ltb q p) x d
    → pick (eqb q p) new old ≡ pick (ltb q (p + 1)) x d
told_more q p x d h e =
    case (eqb q p)
    (λ t. let z = eqb-true q p t in rw (t, lt-ltb q (p + 1) (omega arith)) (h z))
    (λ f. let z = eqb-false q p f in rw f (elim (dec_lt q p) [
      | yes l ↦ rw (lt-ltb q (p + 1) (omega arith)) (rw (lt-ltb q p l) at e)
      | no n ↦ rw (le-ltb q (p + 1) (omega (arith, n))) (rw (le-ltb q p (omega (arith, n))) at e)
    ]))

pub column_more : {A : Type 0} (p n : ℕ) (own : ℕ → Bool) (pot : ℕ → ℕ) (X : ℕ → A) (mine old : List A) (d : A) → n ≤ length old
    → ((a : ℕ) → a < n → own a ≡ eqb (pot a) p) → ((a : ℕ) → a < n → pot a ≡ p → get_or mine a d ≡ X a)
    → ((a : ℕ) → get_or old a d ≡ pick (ltb a n && ltb (pot a) p) (X a) d)
    → (a : ℕ) → get_or (merged own mine old d n) a d ≡ pick (ltb a n && ltb (pot a) (p + 1)) (X a) d
column_more p n own pot X mine old d long its new before a =
    elim (dec_lt a n) [
      | yes l ↦ rw (lt-ltb a n l) (merged_at own mine old d n a long l
          ∙ rw (its a l) (told_more (pot a) p (X a) d (new a l) (rw (lt-ltb a n l) at (before a))))
      | no z ↦
          let g : n ≤ a = omega (arith, z) in
          rw (le-ltb a n g) (merged_past own mine old d n a long g ∙ (rw (le-ltb a n g) at (before a)))
    ]
