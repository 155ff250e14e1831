-- What `any` answers over the numbers below n. Assumes nothing.
use Prim.Native.Nat.{ℕ, ◌<◌}
use mathlib.Core.Path.{◌≡◌}
use mathlib.Core.Bool.{Bool, true, false}
use native.Mathlib.Nat.{zero-add}
use native.Mathlib.Omega.{arith}
use lib.ListN.{length}
use Rattle.std.specs.Prelude.{MatchBool, HoldsAt}
use Rattle.std.specs.List.{range_with_len, AllWithin}
use Rattle.std.proofs.lemmas.List.FromFn.{length-range_with_len, get_or-range_with_len}

module _ (n : ℕ) where
  within : (P : ℕ → Type 0) → AllWithin P (range_with_len 0 n) 0 (length (range_with_len 0 n)) → (k : ℕ) → k < n → P k
  within P h k l = let q = h k 0 (omega arith) (rw (length-range_with_len 0 n) l) in rw (get_or-range_with_len 0 n k 0 l, zero-add k) at q

  holds : (P : ℕ → Type 0) (k : ℕ) → k < length (range_with_len 0 n) → HoldsAt P (range_with_len 0 n) k → (k < n) × P k
  holds P k l h =
      let g : k < n = rw (length-range_with_len 0 n) at l in
      let q = h 0 in
      (g, rw (get_or-range_with_len 0 n k 0 g, zero-add k) at q)

  pub any_below : (r : Bool) (Yes No : ℕ → Type 0) → MatchBool r ((k : ℕ) × (k < length (range_with_len 0 n)) × HoldsAt Yes (range_with_len 0 n) k)
      (AllWithin No (range_with_len 0 n) 0 (length (range_with_len 0 n))) → (r ≡ true → (k : ℕ) × (k < n) × Yes k) × (r ≡ false → (k : ℕ) → k < n → No k)
  any_below true Yes No h = let q = holds Yes h.0 h.1 h.2 in (λ e. (h.0, q.0, q.1), λ e. cc)
  any_below false Yes No h = (λ e. cc, λ e. within No h)
