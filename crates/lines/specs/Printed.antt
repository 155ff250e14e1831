-- A text over the start of a lent part. Assumes nothing.
use Rattle.std.specs.Prelude.{ℕ, ◌≤◌, ◌≡◌, List, length}
use Rattle.store.specs.Filled.{Filled}

-- t is s with the text e over its start, r is how long e is, and that is no more than `most`
pub record Printed (e : List ℕ) (most : ℕ) (s t : List ℕ) (r : ℕ) : Type 0 where
  pub long : r ≡ length e
  pub within : r ≤ most
  pub filled : Filled e s t
