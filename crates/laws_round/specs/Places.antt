-- Where the parts of the result stand, and that a number written is the number read. Assumes nothing.
use Prim.Native.Nat.{ℕ, zero, suc, ◌+◌, ◌*◌, ◌/◌, ◌%◌, ◌^◌, ◌<◌}
use Rattle.std.specs.Prelude.{◌≡◌, refl, List, [], ◌∷◌, ◌++◌, length, get_or, eqb}
use Rattle.std.proofs.Common.{sym, ap, ◌∙◌, pow-suc}
use native.Mathlib.Omega.{arith}
use Rattle.std.proofs.Math.ListN.{get_or-append}
use borrow.Author.Tests.{eqb-true, eqb-false}
use Rattle.rules.specs.Bytes.{le, bytes, each}
use Rattle.laws_pot.specs.Lists.{case}

-- e stands in s from `at` on
pub record At (s : List ℕ) (at : ℕ) (e : List ℕ) : Type 0 where
  pub same : (j : ℕ) → j < length e → get_or s (at + j) 0 ≡ get_or e j 0

length_join : (a b : List ℕ) → length (a ++ b) ≡ length a + length b
length_join [] b = omega arith
length_join (x ∷ a) b = omega (arith, length_join a b)

get_right : (a b : List ℕ) (j : ℕ) → get_or (a ++ b) (length a + j) 0 ≡ get_or b j 0
get_right [] b j = let z : 0 + j ≡ j = omega arith in ap (λ (i : ℕ). get_or b i 0) z
get_right (x ∷ a) b j = let z : suc (length a) + j ≡ suc (length a + j) = omega arith in ap (λ (i : ℕ). get_or (x ∷ (a ++ b)) i 0) z ∙ get_right a b j

pub at_start : (e b : List ℕ) → At (e ++ b) 0 e
at_start e b = record { same = λ j h. let z : 0 + j ≡ j = omega arith in ap (λ (i : ℕ). get_or (e ++ b) i 0) z ∙ get_or-append e b 0 j h }

pub at_left : {s : List ℕ} {at : ℕ} (a b : List ℕ) → At s at (a ++ b) → At s at a
at_left a b A = record { same = λ j h. A.same j (omega (arith, length_join a b)) ∙ get_or-append a b 0 j h }

pub at_right : {s : List ℕ} {at : ℕ} (a b : List ℕ) (n : ℕ) → length a ≡ n → At s at (a ++ b) → At s (at + n) b
at_right {s} {at} a b n e A = record {
  same = λ j h.
      let z : at + n + j ≡ at + (length a + j) = omega arith in
      ap (λ (i : ℕ). get_or s i 0) z ∙ A.same (length a + j) (omega (arith, length_join a b)) ∙ get_right a b j;
}

pub length_bytes : (w v : ℕ) → length (bytes w v) ≡ w
unfolding bytes
length_bytes zero v = refl
length_bytes (suc w) v = ap suc (length_bytes w (v / 256))

module _ (f : ℕ → List ℕ) (w : ℕ) (h : (i : ℕ) → length (f i) ≡ w) where
  pub length_each : (n : ℕ) → length (each f n) ≡ n * w
  unfolding each
  length_each zero = omega arith
  length_each (suc n) = omega (arith, length_join (each f n) (f n), length_each n, h n)

  pub at_each : {s : List ℕ} {at : ℕ} (n i : ℕ) → i < n → At s at (each f n) → At s (at + i * w) (f i)
  unfolding each
  at_each zero i l A = absurd (omega arith)
  at_each {s} {at} (suc n) i l A =
      case (eqb i n)
      (λ t. let e = eqb-true i n t in rw e (at_right (each f n) (f n) (n * w) (length_each n) A))
      (λ t. let d = eqb-false i n t in at_each n i (omega arith) (at_left (each f n) (f n) A))

pub length_joined : (a b : List ℕ) {n m : ℕ} → length a ≡ n → length b ≡ m → length (a ++ b) ≡ n + m
length_joined a b p q = omega (arith, length_join a b)

-- a number written is the number read
pub read : (w : ℕ) (s : List ℕ) (at v : ℕ) → At s at (bytes w v) → v < 256 ^ w → le w s at ≡ v
unfolding le bytes
read zero s at v A h = omega arith
read (suc w) s at v A h =
    let B = at_right ((v % 256) ∷ []) (bytes w (v / 256)) 1 refl A in
    let i = read w s (at + 1) (v / 256) B (omega (arith, pow-suc 256 w)) in
    let z : at + 0 ≡ at = omega arith in
    let q : get_or s at 0 ≡ v % 256 = ap (λ (i : ℕ). get_or s i 0) (sym z) ∙ A.same 0 (omega arith) in
    omega arith
