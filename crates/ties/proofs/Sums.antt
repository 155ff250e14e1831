-- How a pot's totals fall apart: what the winners cost, and what is added to them. Assumes nothing.
use Prim.Native.Nat.{ℕ, ◌+◌}
use mathlib.Core.Path.{◌≡◌, refl, sym, ap, ap₂, ◌∙◌}
use mathlib.Core.Bool.{Bool, true, false, ◌&&◌, ◌||◌}
use mathlib.Core.Logic.{⊎_elim}
use mathlib.Core.List.{List, [], ◌∷◌, ◌++◌, map}
use native.Mathlib.Omega.{arith}
use lib.Dec.{eqb}
use borrow.Author.Tests.{eqb-true, eqb-false, eq-eqb, ne_eqb}
use Rattle.rules.specs.Lists.{pick, memb, sift, sum}
use Rattle.rules.specs.Pot.{Pot, price_from, clearing, tally}
use Rattle.laws_pot.specs.Lists.{case, In, here, there, in_memb, in_none, in_tail, sift_in, sift_same, sift_both}

pub sum_same : (f g : ℕ → ℕ) (l : List ℕ) → ((k : ℕ) → In k l → f k ≡ g k) → sum f l ≡ sum g l
unfolding sum
sum_same f g [] h = refl
sum_same f g (x ∷ l) h = ap₂ ◌+◌ (h x (here refl)) (sum_same f g l (λ k i. h k (there i)))

-- membership after a test
pub memb_sift : (f : ℕ → Bool) (k : ℕ) (l : List ℕ) → memb k (sift f l) ≡ (memb k l && f k)
memb_sift f k [] = refl
memb_sift f k (x ∷ l) =
    case (eqb k x)
    (λ t. let e = eqb-true k x t in
    case (f x)
    (λ u. rw (u, t, ap f e ∙ u))
    (λ u. rw (u, t, memb_sift f k l, ap f e ∙ u) (no (memb k l))))
    (λ t. case (f x) (λ u. rw (u, t) (memb_sift f k l)) (λ u. rw (u, t) (memb_sift f k l)))
  where
    no : (b : Bool) → (b && false) ≡ false
    no true = refl
    no false = refl

module _ (P : Pot) where
  -- the clearing price of a winner's year does not hang on what stood there before
  pub price_won : (q₀ w : ℕ) (ws : List ℕ) → In w ws → price_from P q₀ ws (P.yr w) ≡ clearing P ws (P.yr w)
  unfolding price_from
  price_won q₀ w [] i = in_none i
  price_won q₀ w (x ∷ ws) i =
      case (eqb (P.yr x) (P.yr w)) (λ t. rw t)
      (λ f. rw f (price_won q₀ w ws (⊎_elim (λ e. absurd (eqb-false (P.yr x) (P.yr w) f (ap P.yr (sym e)))) (λ j. j) (in_tail i))))

  -- bids at one price q set it in their years
  pub price_one : (q₀ q : ℕ) (c ws : List ℕ) (d : ℕ) → ((a : ℕ) → In a c → P.price a ≡ q)
      → price_from P q₀ (c ++ ws) d ≡ pick (memb d (map P.yr c)) q (price_from P q₀ ws d)
  unfolding price_from
  price_one q₀ q [] ws d h = refl
  price_one q₀ q (a ∷ c) ws d h =
      case (eqb (P.yr a) d)
      (λ t. rw (t, eq-eqb d (P.yr a) (sym (eqb-true (P.yr a) d t))) (h a (here refl)))
      (λ f. rw (f, ne_eqb d (P.yr a) (λ e. eqb-false (P.yr a) d f (sym e))) (price_one q₀ q c ws d (λ b i. h b (there i))))

  -- bids that pass one of two tests, and none both
  pub tally_split : (f : ℕ → ℕ → ℕ → ℕ) (on in' : ℕ → Bool) (at : ℕ → ℕ) (y : ℕ) (bs : List ℕ) → ((k : ℕ) → In k bs → on k ≡ true → in' k ≡ false)
      → tally P f (λ k. on k || in' k) at y bs ≡ tally P f in' at y bs + tally P f on at y bs
  unfolding tally
  tally_split f on in' at y [] h = refl
  tally_split f on in' at y (k ∷ bs) h =
      let r = tally_split f on in' at y bs (λ j i. h j (there i)) in
      case (on k) (λ t. rw (t, h k (here refl) t, r) (omega arith)) (λ u. rw (u, r) (omega arith))

  -- a sum by test is the sum over those that pass
  pub tally_sum : (f : ℕ → ℕ → ℕ → ℕ) (on : ℕ → Bool) (at : ℕ → ℕ) (y : ℕ) (bs : List ℕ) → tally P f on at y bs ≡ sum (λ k. f k (at (P.yr k)) y) (sift on bs)
  unfolding tally sum
  tally_sum f on at y [] = refl
  tally_sum f on at y (k ∷ bs) =
      let r = tally_sum f on at y bs in
      case (on k) (λ t. rw (t, r) (omega arith)) (λ u. rw (u, r) (omega arith))

  -- c is a part of the pot's bids, in their order
  pub record Part (c : List ℕ) : Type 0 where
    pub part : sift (λ k. memb k c) P.bids ≡ c

  pub part_all : Part P.bids
  part_all = record { part = sift_same (λ k. memb k P.bids) (λ k. true) P.bids (λ k i. in_memb i) ∙ all P.bids }
    where
      all : (l : List ℕ) → sift (λ k. true) l ≡ l
      all [] = refl
      all (x ∷ l) = ap (λ (s : List ℕ). x ∷ s) (all l)

  pub part_sift : (f : ℕ → Bool) {c : List ℕ} → Part c → Part (sift f c)
  part_sift f {c} Q = record {
    part =
        sift_same (λ k. memb k (sift f c)) (λ k. memb k c && f k) P.bids (λ k i. memb_sift f k c)
        ∙ sym (sift_both f (λ k. memb k c) P.bids) ∙ ap (sift f) Q.part;
  }

  pub part_in : {c : List ℕ} (k : ℕ) → Part c → In k c → In k P.bids
  part_in {c} k Q i = (sift_in k (λ k. memb k c) P.bids (rw Q.part i)).0
