-- Branches of combinations: the first has none of the undecided bids, the last has all of them, and any other lies between. Assumes nothing.
use Prim.Native.Nat.{ℕ, zero, suc, ◌+◌, ◌-◌, ◌*◌, ◌/◌, ◌%◌, ◌^◌, ◌≤◌, ◌<◌}
use mathlib.Core.Path.{◌≡◌, sym, ap, ◌∙◌}
use mathlib.Core.Bool.{Bool, true, false, ◌||◌}
use mathlib.Core.Logic.{⊎_elim}
use native.Mathlib.Nat.{mul_comm, div-add-mod'}
use native.Mathlib.Omega.{arith}
use lib.Pow.{pow_pos}
use borrow.Author.Tests.{lt-leb}
use Rattle.rules.specs.Pot.{has}
use Rattle.laws_pot.specs.Lists.{case, clash, and_none, or_right, or_left, or_cases}
use Rattle.laws_pot.specs.Bits.{add_lt, has_join, has_high, all_ones}
use Rattle.combinations.specs.Combinations.{combinations}
use Rattle.ties.specs.Ties.{Within, Cuttable}
use Rattle.branches.specs.Branches.{Sized, Branch, Past}

pub sized_some : {size : ℕ} → Sized size → 0 < size
sized_some S = omega (arith, S.is, pow_pos S.places)

module _ {mask size : ℕ} (B : Branch mask size) where
  abbrev k : ℕ
  k = B.sized.places

  at_head : (v : ℕ) → mask + v ≡ v + 2 ^ k * B.head
  at_head v = omega (arith, B.at, ap (λ (x : ℕ). x * B.head) B.sized.is)

  place : (v i : ℕ) → v < size → has (mask + v) i ≡ (has v i || has (2 ^ k * B.head) i)
  place v i h = ap (λ (x : ℕ). has x i) (at_head v) ∙ has_join B.head k v i (omega (arith, B.sized.is))

  pub some_size : 0 < size
  some_size = sized_some B.sized

  pub head_within : (j : ℕ) → j < size → Within mask (mask + j)
  head_within j l i t = place j i l ∙ or_right (has j i) (has (2 ^ k * B.head) i) (ap (λ (x : ℕ). has x i) none ∙ t)
    where
      none : 2 ^ k * B.head ≡ mask
      none = omega (arith, B.at, ap (λ (x : ℕ). x * B.head) B.sized.is)

  pub within_all : (j : ℕ) → j < size → Within (mask + j) (mask + (size - 1))
  within_all j l i t =
      place (size - 1) i (omega (arith, some_size))
      ∙ ⊎_elim (λ u. or_left (has (size - 1) i) (has (2 ^ k * B.head) i) (ones u)) (λ u. or_right (has (size - 1) i) (has (2 ^ k * B.head) i) u)
      (or_cases (has j i) (has (2 ^ k * B.head) i) (sym (place j i l) ∙ t))
    where
      ones : has j i ≡ true → has (size - 1) i ≡ true
      ones u = ap (λ (x : ℕ). has (x - 1) i) B.sized.is ∙ all_ones k j i (omega (arith, B.sized.is)) u

  -- a place below k that the last part of a combination lacks is one that the combination lacks
  pub place_free : (j i : ℕ) → j < size → i < k → has j i ≡ false → has (mask + j) i ≡ false
  place_free j i l h f = place j i l ∙ ap (λ (b : Bool). b || has (2 ^ k * B.head) i) f ∙ has_high B.head k i h

  pub added_low : (j i : ℕ) → j < size → i < k → has j i ≡ false → j + 2 ^ i < size
  added_low j i l h f = omega (arith, B.sized.is, add_lt j i k f h (omega (arith, B.sized.is)))

  -- ---- a branch that is cut off
  module _ (ok : ℕ → Bool) (tot : ℕ → ℕ) (C : Cuttable ok tot) (goal : ℕ) where
    pub cut_misfit : {f : Bool} → f ≡ ok mask → f ≡ false → Past ok tot goal mask size
    cut_misfit ef e j l =
        rw (case (ok (mask + j)) (λ t. clash (C.down mask (mask + j) (omega (arith, B.room)) (omega (arith, B.room)) (head_within j l) t) (sym ef ∙ e)) (λ f. f))

    pub cut_low : {w : ℕ} → w ≡ tot (mask + (size - 1)) → w < goal → Past ok tot goal mask size
    cut_low ew h j l =
        rw (lt-leb goal (tot (mask + j)) (omega (
          arith,
          ew,
          C.reach (mask + j) (mask + (size - 1)) (omega (arith, B.room)) (omega (arith, B.room, some_size)) (within_all j l),
        )))
        (and_none (ok (mask + j)))

-- ---- where branches start, and where they end
pub starts_at : {mask size : ℕ} → Sized size → mask % size ≤ 0 → mask + size ≤ combinations → Branch mask size
starts_at {mask} {size} S h r = record { sized = S; head = mask / size; at = whole; room = r }
  where
    whole : mask ≡ size * (mask / size)
    whole = omega (arith, div-add-mod' mask size, mul_comm (mask / size) size)

pub ends_at : {left size : ℕ} → Sized size → left % size ≤ 0 → 0 < left → left ≤ combinations → Branch (left - size) size × (size ≤ left)
ends_at {left} {size} S h l r = go (left / size) (omega (arith, div-add-mod' left size))
  where
    go : (q : ℕ) → q * size ≡ left → Branch (left - size) size × (size ≤ left)
    go zero e = absurd (omega arith)
    go (suc q) e =
        let w : size * q + size ≡ left = omega (arith, e, mul_comm q size) in
        (record { sized = S; head = q; at = omega arith; room = omega arith }, omega arith)
