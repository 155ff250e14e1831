-- What `all` and `any` answer over the numbers below n. Assumes nothing.
use Prim.Native.Nat.{ℕ, zero, suc, ◌≤◌, ◌<◌}
use mathlib.Core.Path.{◌≡◌, refl}
use mathlib.Core.Bool.{Bool, true, false}
use mathlib.Core.List.{List}
use native.Mathlib.Nat.{zero-add}
use native.Mathlib.Omega.{arith}
use lib.ListN.{length}
use borrow.Author.Tests.{le-leb}
use Rattle.std.specs.Prelude.{MatchBool, HoldsAt}
use Rattle.std.specs.List.{range_with_len, AllWithin}
use Rattle.std.proofs.lemmas.List.FromFn.{length-range_with_len, get_or-range_with_len}
use Rattle.sheet.specs.Sheet.{limit_at}
use Rattle.totals.specs.Totals.{fits_to}
use Rattle.ties.proofs.Laws.{fits_stops}

module _ (n : ℕ) where
  within : (P : ℕ → Type 0) → AllWithin P (range_with_len 0 n) 0 (length (range_with_len 0 n)) → (k : ℕ) → k < n → P k
  within P h k l = let q = h k 0 (omega arith) (rw (length-range_with_len 0 n) l) in rw (get_or-range_with_len 0 n k 0 l, zero-add k) at q

  holds : (P : ℕ → Type 0) (k : ℕ) → k < length (range_with_len 0 n) → HoldsAt P (range_with_len 0 n) k → (k < n) × P k
  holds P k l h =
      let g : k < n = rw (length-range_with_len 0 n) at l in
      let q = h 0 in
      (g, rw (get_or-range_with_len 0 n k 0 g, zero-add k) at q)

  pub all_below : (r : Bool) (Yes No : ℕ → Type 0) → MatchBool r (AllWithin Yes (range_with_len 0 n) 0 (length (range_with_len 0 n)))
      ((k : ℕ) × (k < length (range_with_len 0 n)) × HoldsAt No (range_with_len 0 n) k)
      → (r ≡ true → (k : ℕ) → k < n → Yes k) × (r ≡ false → (k : ℕ) × (k < n) × No k)
  all_below true Yes No h = (λ e. within Yes h, λ e. cc)
  all_below false Yes No h = let q = holds No h.0 h.1 h.2 in (λ e. cc, λ e. (h.0, q.0, q.1))

  pub any_below : (r : Bool) (Yes No : ℕ → Type 0) → MatchBool r ((k : ℕ) × (k < length (range_with_len 0 n)) × HoldsAt Yes (range_with_len 0 n) k)
      (AllWithin No (range_with_len 0 n) 0 (length (range_with_len 0 n))) → (r ≡ true → (k : ℕ) × (k < n) × Yes k) × (r ≡ false → (k : ℕ) → k < n → No k)
  any_below true Yes No h = let q = holds Yes h.0 h.1 h.2 in (λ e. (h.0, q.0, q.1), λ e. cc)
  any_below false Yes No h = (λ e. cc, λ e. within No h)

-- every column fits
module _ (f : ℕ → ℕ) (sheet : List ℕ) where
  fits_all : (n : ℕ) → ((c : ℕ) → c < n → f c ≤ limit_at sheet c) → true ≡ fits_to f sheet n
  unfolding fits_to
  fits_all zero h = refl
  fits_all (suc n) h = rw (le-leb (f n) (limit_at sheet n) (h n (omega arith))) (fits_all n (λ c l. h c (omega arith)))

  pub fits_by : (n : ℕ) (r : Bool) → (r ≡ true → (c : ℕ) → c < n → f c ≤ limit_at sheet c) × (r ≡ false → (c : ℕ) × (c < n) × (limit_at sheet c < f c))
      → r ≡ fits_to f sheet n
  fits_by n true h = fits_all n (h.0 refl)
  fits_by n false h = let q = h.1 refl in fits_stops f sheet q.0 n refl refl q.2 q.1
