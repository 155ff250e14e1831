-- Sums over lists of numbers. Assumes nothing.
use Rattle.std.specs.Prelude.{ℕ, zero, suc, ◌+◌, ◌≤◌, ◌<◌, ◌≡◌, refl, Bool, false, List, [], ◌∷◌, length, eqb}
use Rattle.std.proofs.Common.{sym, arith, eqb-true, ne_eqb}
use Rattle.std.proofs.lemmas.Bool.{eqb-false}
use Rattle.rules.specs.Lists.{pick, sift, below, sum}
use Rattle.laws_pot.specs.Lists.{case, In, here, there}

pub sum_same : (f g : ℕ → ℕ) (l : List ℕ) → ((k : ℕ) → In k l → f k ≡ g k) → sum f l ≡ sum g l
unfolding sum
sum_same f g [] h = refl
sum_same f g (x ∷ l) h = rw (h x (here refl), sum_same f g l (λ k i. h k (there i)))

pub sum_none : (l : List ℕ) → sum (λ k. 0) l ≡ 0
unfolding sum
sum_none [] = refl
sum_none (x ∷ l) = omega (arith, sum_none l)

pub sum_ones : (l : List ℕ) → sum (λ k. 1) l ≡ length l
unfolding sum
sum_ones [] = refl
sum_ones (x ∷ l) = omega (arith, sum_ones l)

sum_both : (f g : ℕ → ℕ) (l : List ℕ) → sum (λ k. f k + g k) l ≡ sum f l + sum g l
unfolding sum
sum_both f g [] = refl
sum_both f g (x ∷ l) = omega (arith, sum_both f g l)

pub sum_sift : (f : ℕ → ℕ) (t : ℕ → Bool) (l : List ℕ) → sum f (sift t l) ≡ sum (λ k. pick (t k) (f k) 0) l
unfolding sum
sum_sift f t [] = refl
sum_sift f t (x ∷ l) = let h = sum_sift f t l in case (t x) (λ u. rw u (omega arith)) (λ u. rw u (omega arith))

-- one number below n
sum_above : (v m n : ℕ) → n ≤ m → sum (λ a. pick (eqb m a) v 0) (below n) ≡ 0
unfolding sum
sum_above v m zero h = refl
sum_above v m (suc n) h = rw (ne_eqb m n (λ e. omega arith)) (omega (arith, sum_above v m n (omega arith)))

sum_point : (v m n : ℕ) → m < n → sum (λ a. pick (eqb m a) v 0) (below n) ≡ v
unfolding sum
sum_point v m zero h = absurd (omega arith)
sum_point v m (suc n) h =
    case (eqb m n)
    (λ t. let e = eqb-true m n t in rw t (omega (arith, sum_above v m n (omega arith))))
    (λ t. rw t (omega (arith, sum_point v m n (lt t))))
  where
    lt : eqb m n ≡ false → m < n
    lt t = let d = eqb-false m n t in omega arith

-- a list summed by a number g of its members
pub sum_parts : (F g : ℕ → ℕ) (n : ℕ) (ws : List ℕ) → ((w : ℕ) → In w ws → g w < n) → sum F ws ≡ sum (λ a. sum F (sift (λ w. eqb (g w) a) ws)) (below n)
unfolding sum
sum_parts F g n [] h = sym (sum_none (below n))
sum_parts F g n (w ∷ ws) h =
    let i = sum_parts F g n ws (λ v j. h v (there j)) in
    let q = sum_point (F w) (g w) n (h w (here refl)) in
    let b = sum_both (λ a. pick (eqb (g w) a) (F w) 0) (λ a. sum F (sift (λ v. eqb (g v) a) ws)) (below n) in
    let e : sum (λ a. pick (eqb (g w) a) (F w) 0 + sum F (sift (λ v. eqb (g v) a) ws)) (below n) ≡ sum (λ a. sum F (sift (λ v. eqb (g v) a) (w ∷ ws))) (below n)
    = sum_same _ _ (below n) (λ a j. case (eqb (g w) a) (λ t. rw t) (λ t. rw t (omega arith))) in
    omega arith
