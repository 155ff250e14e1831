-- The digits that `io::decimal` puts down are the number in decimal. Assumes nothing.
use Prim.Native.Nat.{ℕ, zero, suc, ◌+◌, ◌-◌, ◌/◌, ◌%◌, ◌^◌, ◌≤◌, ◌<◌}
use mathlib.Core.Path.{◌≡◌, ap, ◌∙◌, sym}
use mathlib.Core.Bool.{Bool}
use mathlib.Core.List.{List, [], ◌∷◌, ◌++◌}
use native.Mathlib.Nat.{pow-suc, one-le-pow, pow-le-pow_right, lt_of_not-le}
use native.Mathlib.Decide.{dec_le}
use native.Mathlib.Omega.{arith}
use borrow.Author.Tests.{lt-ltb, le-ltb}
use Rattle.io.specs.Digits.{last_digits, hex_digit_ascii, IsDigitCount}
use Rattle.rules.specs.Lists.{pick}
use Rattle.rules.specs.Listing.{decimal_in}

glyph_is : (d : ℕ) → d < 10 → hex_digit_ascii d ≡ 48 + d
glyph_is d h = simp (lt-ltb _ _ h)

pub digits_decimal : (f k n : ℕ) → k ≤ f → IsDigitCount 10 1 n k → last_digits 10 k n ≡ decimal_in f n
unfolding decimal_in
digits_decimal f zero n h w = let z : ⊥ = omega (arith, w.0) in absurd z
digits_decimal zero (suc k) n h w = let z : ⊥ = omega arith in absurd z
digits_decimal (suc f) (suc zero) n h w =
    let l : n < 10 = omega (arith, w.1) in
    simp (lt-ltb _ _ l, glyph_is (n % 10) (omega arith))
digits_decimal (suc f) (suc (suc k)) n h w =
    let e : suc (suc k) - 1 ≡ suc k = omega arith in
    let e' : suc k - 1 ≡ k = omega arith in
    let low : 10 ^ suc k ≤ n = rw e at (w.2 (omega arith)) in
    let one : 1 ≤ 10 ^ k = one-le-pow k 10 (omega arith) in
    let ten : 10 ≤ n = omega (arith, pow-suc 10 k) in
    let back : last_digits 10 (suc k) (n / 10) ≡ decimal_in f (n / 10) =
    digits_decimal f (suc k) (n / 10) (omega arith) (omega arith, omega (arith, pow-suc 10 (suc k), w.1), λ q. rw e' (omega (arith, pow-suc 10 k))) in
    ap (λ (l : List ℕ). l ++ (hex_digit_ascii (n % 10) ∷ [])) back
    ∙ ap (λ (g : ℕ). decimal_in f (n / 10) ++ (g ∷ [])) (glyph_is (n % 10) (omega arith))
    ∙ ap (λ (b : Bool). pick b [] (decimal_in f (n / 10)) ++ ((48 + n % 10) ∷ [])) (sym (le-ltb _ _ ten))

-- a number below 2 ^ 64 has at most 20 digits
pub fewest_20 : (k n : ℕ) → n < 2 ^ 64 → IsDigitCount 10 1 n k → k ≤ 20
fewest_20 k n h w =
    elim (dec_le k 20) [
      | yes q ↦ q
      | no q ↦
          let more : 20 < k = omega (arith, lt_of_not-le q) in
          let big : 10 ^ 20 ≤ 10 ^ (k - 1) =
          let g : 20 ≤ k - 1 = omega arith in
          let o : 0 < 10 = omega arith in
          pow-le-pow_right o g in
          let z : ⊥ = omega (arith, w.2 (omega arith)) in
          absurd z
    ]
