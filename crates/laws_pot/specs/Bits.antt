-- The binary places of a number: rank i + 1 of m is rank i of m / 2, and `omega` does each step. Assumes nothing.
use Rattle.std.specs.Prelude.{Bool, true, false, ◌||◌, ◌≡◌, refl, ℕ, zero, suc, ◌+◌, ◌-◌, ◌*◌, ◌/◌, ◌%◌, ◌^◌, ◌<◌, eqb}
use Rattle.std.proofs.Common.{sym, ap, ap₂, ◌∙◌, pow-suc, mul_comm, not-suc-le-zero, le_of_suc-le-suc, arith, pow_pos, eqb-true, eq-eqb, ne_eqb}
use Rattle.std.proofs.Math.Nat.{div-div-eq-div-mul}
use Rattle.std.proofs.lemmas.Bool.{eqb-false}
use Rattle.rules.specs.Pot.{has}
use Rattle.laws_pot.specs.Lists.{case, clash, or_none}

pub has_suc : (m i : ℕ) → has m (suc i) ≡ has (m / 2) i
has_suc m i = ap (λ (x : ℕ). eqb (x % 2) 1) (ap (λ (x : ℕ). m / x) (pow-suc 2 i ∙ mul_comm (2 ^ i) 2) ∙ sym (div-div-eq-div-mul m 2 (2 ^ i)))

even : (m : ℕ) → has m 0 ≡ false → m % 2 ≡ 0
even m e = omega (arith, eqb-false (m / 1 % 2) 1 e)

is_odd : (m : ℕ) → m % 2 ≡ 1 → has m 0 ≡ true
is_odd m e = eq-eqb (m / 1 % 2) 1 (omega arith)

-- zero has no rank
pub has_none : (i : ℕ) → has 0 i ≡ false
has_none zero = refl
has_none (suc i) = has_suc 0 i ∙ has_none i

-- rank i is free: the number with it is below the same power
pub add_lt : (m i n : ℕ) → has m i ≡ false → i < n → m < 2 ^ n → m + 2 ^ i < 2 ^ n
add_lt m i zero f l h = absurd (not-suc-le-zero l)
add_lt m zero (suc n) f l h = omega (arith, even m f, pow-suc 2 n)
add_lt m (suc i) (suc n) f l h =
    omega (arith, add_lt (m / 2) i n (sym (has_suc m i) ∙ f) (le_of_suc-le-suc l) (omega (arith, pow-suc 2 n)), pow-suc 2 n, pow-suc 2 i)

-- with it the number has rank i
pub add_adds : (m i : ℕ) → has m i ≡ false → has (m + 2 ^ i) i ≡ true
add_adds m zero f = is_odd (m + 1) (omega (arith, even m f))
add_adds m (suc i) f = has_suc (m + 2 ^ suc i) i ∙ ap (λ (x : ℕ). has x i) (omega (arith, pow-suc 2 i)) ∙ add_adds (m / 2) i (sym (has_suc m i) ∙ f)

-- and every other as before
pub add_other : (m i j : ℕ) → has m i ≡ false → (j ≡ i → ⊥) → has (m + 2 ^ i) j ≡ has m j
add_other m zero zero f n = absurd (n refl)
add_other m zero (suc j) f n = has_suc (m + 1) j ∙ ap (λ (x : ℕ). has x j) (omega (arith, even m f)) ∙ sym (has_suc m j)
add_other m (suc i) zero f n = let e : (m + 2 ^ suc i) / 1 % 2 ≡ m / 1 % 2 = omega (arith, pow-suc 2 i) in ap (λ (x : ℕ). eqb x 1) e
add_other m (suc i) (suc j) f n =
    has_suc (m + 2 ^ suc i) j ∙ ap (λ (x : ℕ). has x j) (omega (arith, pow-suc 2 i))
    ∙ add_other (m / 2) i j (sym (has_suc m i) ∙ f) (λ e. n (ap suc e)) ∙ sym (has_suc m j)

-- ---- a number below 2 ^ n, and a multiple of 2 ^ n
module _ (u : ℕ) where
  half_of : (n : ℕ) → 2 ^ suc n * u ≡ 2 * (2 ^ n * u)
  half_of n = omega (arith, ap (λ (x : ℕ). x * u) (pow-suc 2 n))

  even_not : (n : ℕ) → has (2 ^ suc n * u) 0 ≡ false
  even_not n = ne_eqb (2 ^ suc n * u / 1 % 2) 1 (λ e. let no : ⊥ = omega (arith, half_of n) in no)

  half_has : (n i : ℕ) → has (2 ^ suc n * u) (suc i) ≡ has (2 ^ n * u) i
  half_has n i = has_suc (2 ^ suc n * u) i ∙ ap (λ (x : ℕ). has x i) (omega (arith, half_of n))

  -- a place of the number is one of its halves
  pub has_join : (n v i : ℕ) → v < 2 ^ n → has (v + 2 ^ n * u) i ≡ (has v i || has (2 ^ n * u) i)
  has_join zero v i h =
      let e : v ≡ 0 = omega arith in
      let q : v + 1 * u ≡ 1 * u = omega arith in
      ap (λ (x : ℕ). has x i) q ∙ sym (ap (λ (b : Bool). b || has (1 * u) i) (ap (λ (x : ℕ). has x i) e ∙ has_none i))
  has_join (suc n) v zero h =
      let q : (v + 2 ^ suc n * u) / 1 % 2 ≡ v / 1 % 2 = omega (arith, half_of n) in
      ap (λ (x : ℕ). eqb x 1) q ∙ sym (ap (λ (b : Bool). has v 0 || b) (even_not n) ∙ or_none (has v 0))
  has_join (suc n) v (suc i) h =
      has_suc (v + 2 ^ suc n * u) i ∙ ap (λ (x : ℕ). has x i) (omega (arith, half_of n)) ∙ has_join n (v / 2) i (omega (arith, pow-suc 2 n))
      ∙ ap₂ ◌||◌ (sym (has_suc v i)) (sym (half_has n i))

  -- and never of both
  pub has_apart : (n v i : ℕ) → v < 2 ^ n → has v i ≡ true → has (2 ^ n * u) i ≡ false
  has_apart zero v i h t = let e : v ≡ 0 = omega arith in clash t (ap (λ (x : ℕ). has x i) e ∙ has_none i)
  has_apart (suc n) v zero h t = even_not n
  has_apart (suc n) v (suc i) h t = half_has n i ∙ has_apart n (v / 2) i (omega (arith, pow-suc 2 n)) (sym (has_suc v i) ∙ t)

  -- the multiple has no place below n
  pub has_high : (n i : ℕ) → i < n → has (2 ^ n * u) i ≡ false
  has_high zero i h = absurd (omega arith)
  has_high (suc n) zero h = even_not n
  has_high (suc n) (suc i) h = half_has n i ∙ has_high n i (omega arith)

-- ---- the number that has every place below n
pub all_ones : (n v i : ℕ) → v < 2 ^ n → has v i ≡ true → has (2 ^ n - 1) i ≡ true
all_ones zero v i h t = let e : v ≡ 0 = omega arith in clash t (ap (λ (x : ℕ). has x i) e ∙ has_none i)
all_ones (suc n) v zero h t = eq-eqb ((2 ^ suc n - 1) / 1 % 2) 1 (omega (arith, pow-suc 2 n, pow_pos n))
all_ones (suc n) v (suc i) h t =
    has_suc (2 ^ suc n - 1) i ∙ ap (λ (x : ℕ). has x i) (omega (arith, pow-suc 2 n, pow_pos n))
    ∙ all_ones n (v / 2) i (omega (arith, pow-suc 2 n)) (sym (has_suc v i) ∙ t)

-- a smaller one lacks a place
pub free_place : (n v : ℕ) → v < 2 ^ n - 1 → (i : ℕ) × (i < n) × (has v i ≡ false)
free_place zero v h = absurd (omega arith)
free_place (suc n) v h =
    case (has v 0)
    (λ t. let o = eqb-true (v / 1 % 2) 1 t in one_up (free_place n (v / 2) (omega (arith, pow-suc 2 n))))
    (λ f. (0, omega arith, f))
  where
    one_up : (i : ℕ) × (i < n) × (has (v / 2) i ≡ false) → (i : ℕ) × (i < suc n) × (has v i ≡ false)
    one_up r = (suc r.0, omega (arith, r.1), has_suc v r.0 ∙ r.2)
