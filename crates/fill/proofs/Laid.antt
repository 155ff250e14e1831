-- Numbers that were laid in a sheet were put there. Assumes nothing.
use Prim.Native.Nat.{ℕ, ◌+◌, ◌≤◌}
use mathlib.Core.Path.{◌≡◌}
use mathlib.Core.List.{List}
use native.Mathlib.Omega.{arith}
use lib.ListN.{length, get_or}
use Rattle.arrays.specs.Sets.{placed}
use Rattle.arrays.proofs.Arrays.{placed_length, placed_at, placed_other}
use Rattle.fill.specs.Fill.{Put}

pub laid : (v : List ℕ) (at : ℕ) (s : List ℕ) {t : List ℕ} → at + length v ≤ length s → t ≡ placed (λ c. get_or v c 0) s at (length v) → Put v (length v) at s t
laid v at s h e = rw e (record {
  inside = λ j g. placed_at (λ c. get_or v c 0) s at (length v) j 0 h g;
  kept = λ j g. placed_other (λ c. get_or v c 0) s at (length v) j 0 (λ k i q. omega arith);
  rest = λ j g. placed_other (λ c. get_or v c 0) s at (length v) j 0 (λ k i q. omega arith);
  same = placed_length (λ c. get_or v c 0) s at (length v);
})
