-- A lent part that is filled from the front. Assumes nothing.
use Rattle.std.specs.Prelude.{ℕ, ◌+◌, ◌≤◌, ◌≡◌, List, length, get_or}
use Rattle.rules.specs.Bytes.{bytes, each, onto}

-- t is s with e over its start, and e fits
pub record Filled (e s t : List ℕ) : Type 0 where
  pub bytes : t ≡ onto e s
  pub fits : length e ≤ length s

-- n numbers of xs from a place on, each in w bytes
unfoldable pub numbers : (w : ℕ) → List ℕ → (from n : ℕ) → List ℕ
numbers w xs from n = each (λ k. bytes w (get_or xs (from + k) 0)) n
