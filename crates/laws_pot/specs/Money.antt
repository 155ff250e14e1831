-- Totals against exact costs, and what the test of fitting says of budgets and cap. Assumes nothing.
use Prim.Native.Nat.{ℕ, zero, suc, ◌+◌, ◌-◌, ◌*◌, ◌≤◌, ◌<◌}
use Rattle.std.specs.Prelude.{◌≡◌, Bool, true, false, length, leb, eqb}
use Rattle.std.proofs.Math.Path.{refl}
use Rattle.std.proofs.Math.Option.{Option, none, some}
use Rattle.std.proofs.Math.Logic.{⊎_elim}
use mathlib.Core.List.{List, [], ◌∷◌}
use native.Mathlib.Omega.{arith}
use Rattle.std.proofs.Math.Nat.{div-add-mod', mod-lt}
use Rattle.std.proofs.Math.Dec.{leb-zero}
use borrow.Author.Tests.{leb-true, leb-false, eqb-true, eqb-false}
use Rattle.rules.specs.Lists.{memb, sift}
use Rattle.laws_pot.specs.Lists.{case, clash, and_true, and_false}
use Rattle.rules.specs.Pot.{Pot, at_most, value, clearing, tally, total, exact, counted, summed_capacity, within, fitting, fits}

module _ (P : Pot) (pos : 0 < P.scale) where
  pub value_low : (b p y : ℕ) → P.cost b p y ≤ value P b p y * P.scale
  unfolding value
  value_low b p y =
      let n = P.cost b p y + (P.scale - 1) in
      omega (arith, div-add-mod' n P.scale, mod-lt n pos)

  pub value_high : (b p y : ℕ) → value P b p y * P.scale ≤ P.cost b p y + P.scale
  unfolding value
  value_high b p y =
      let n = P.cost b p y + (P.scale - 1) in
      omega (arith, div-add-mod' n P.scale, mod-lt n pos)

  tally_low : (on : ℕ → Bool) (at : ℕ → ℕ) (y : ℕ) (bs : List ℕ) → tally P P.cost on at y bs ≤ tally P (value P) on at y bs * P.scale
  unfolding tally
  tally_low on at y [] = omega arith
  tally_low on at y (b ∷ bs) =
      let h = tally_low on at y bs in
      case (on b) (λ t. rw t (omega (arith, value_low b (at (P.yr b)) y))) (λ f. rw f (omega arith))

  tally_high : (on : ℕ → Bool) (at : ℕ → ℕ) (y : ℕ) (bs : List ℕ)
      → tally P (value P) on at y bs * P.scale ≤ tally P P.cost on at y bs + length (sift on bs) * P.scale
  unfolding tally
  tally_high on at y [] = omega arith
  tally_high on at y (b ∷ bs) =
      let h = tally_high on at y bs in
      case (on b) (λ t. rw t (omega (arith, value_high b (at (P.yr b)) y))) (λ f. rw f (omega arith))

  pub sum_low : (ws : List ℕ) (y : ℕ) → exact P ws y ≤ total P ws y * P.scale
  sum_low ws y = tally_low (λ b. memb b ws) (clearing P ws) y P.bids

  pub sum_high : (ws : List ℕ) (y : ℕ) → total P ws y * P.scale ≤ exact P ws y + counted P ws * P.scale
  sum_high ws y = tally_high (λ b. memb b ws) (clearing P ws) y P.bids

module _ (P : Pot) (tot : ℕ → ℕ) where
  pub within_true : (n : ℕ) → within P tot n ≡ true → (y : ℕ) → y < n → tot y ≤ P.budget y
  unfolding within
  within_true zero e y h = absurd (omega arith)
  within_true (suc n) e y h =
      let r = and_true (leb (tot n) (P.budget n)) (within P tot n) e in
      case (eqb y n) (λ t. rw (eqb-true y n t) (leb-true (tot n) (P.budget n) r.0))
      (λ f. let d = eqb-false y n f in within_true n r.1 y (omega arith))

  pub within_false : (n : ℕ) → within P tot n ≡ false → (y : ℕ) × (y < n) × (P.budget y < tot y)
  unfolding within
  within_false zero e = clash refl e
  within_false (suc n) e =
      ⊎_elim
      (λ f. (n, omega arith, leb-false (tot n) (P.budget n) f))
      (λ f. let r = within_false n f in (r.0, omega arith, r.2))
      (and_false (leb (tot n) (P.budget n)) (within P tot n) e)

-- totals that agree pass the same test, and so in a pot with the same budgets
pub within_same : (P Q : Pot) (tot sum : ℕ → ℕ) (n : ℕ) → ((y : ℕ) → P.budget y ≡ Q.budget y) → ((y : ℕ) → tot y ≡ sum y) → within P tot n ≡ within Q sum n
unfolding within
within_same P Q tot sum zero b h = refl
within_same P Q tot sum (suc n) b h = rw (h n, b n, within_same P Q tot sum n b h)

-- and so with a summed capacity and the same cap
pub fitting_same : (P Q : Pot) (tot sum : ℕ → ℕ) (m n : ℕ) → P.years ≡ Q.years → P.cap ≡ Q.cap → ((y : ℕ) → P.budget y ≡ Q.budget y)
    → ((y : ℕ) → tot y ≡ sum y) → m ≡ n → fitting P tot m ≡ fitting Q sum n
unfolding within
fitting_same P Q tot sum m n e c b h k = rw (e, c, k, within_same P Q tot sum Q.years b h)

-- ---- limits

pub at_most_lem : (o : Option ℕ) (n limit : ℕ) → at_most o n ≡ true → o ≡ some limit → n ≤ limit
unfolding at_most
at_most_lem o n limit t e = let u : at_most (some limit) n ≡ true = rw e at t in leb-true n limit u

pub not_at_most : (o : Option ℕ) (n : ℕ) → at_most o n ≡ false → (limit : ℕ) × (o ≡ some limit) × (limit < n)
unfolding at_most
not_at_most none n f = clash refl f
not_at_most (some limit) n f = (limit, refl, leb-false n limit f)

pub at_most_none : (o : Option ℕ) → at_most o 0 ≡ true
unfolding at_most
at_most_none none = refl
at_most_none (some limit) = leb-zero limit

-- ---- what fits, and why something does not

module _ (P : Pot) (ws : List ℕ) where
  pub record Fit : Type 0 where
    pub budget : (y : ℕ) → y < P.years → total P ws y ≤ P.budget y
    pub cap : (limit : ℕ) → P.cap ≡ some limit → summed_capacity P ws ≤ limit

  pub data Unfit : Type 0 where
    over_budget : (y : ℕ) → y < P.years → P.budget y < total P ws y → Unfit
    over_cap : (limit : ℕ) → P.cap ≡ some limit → limit < summed_capacity P ws → Unfit

  pub fits_true : fits P ws ≡ true → Fit
  fits_true t =
      let a = and_true (within P (total P ws) P.years) _ t in
      record {
        budget = within_true P (total P ws) P.years a.0;
        cap = λ limit e. at_most_lem P.cap (summed_capacity P ws) limit a.1 e;
      }

  pub fits_false : fits P ws ≡ false → Unfit
  fits_false f =
      ⊎_elim
      (λ g. let r = within_false P (total P ws) P.years g in over_budget r.0 r.1 r.2)
      (λ g. let r = not_at_most P.cap (summed_capacity P ws) g in over_cap r.0 r.1 r.2)
      (and_false (within P (total P ws) P.years) _ f)

  pub fit_fits : Fit → fits P ws ≡ true
  fit_fits F = case (fits P ws) (λ t. t) (λ f. no (fits_false f))
    where
      no : Unfit → fits P ws ≡ true
      no (over_budget y h l) = absurd (omega (arith, F.budget y h))
      no (over_cap limit e l) = absurd (omega (arith, F.cap limit e))
