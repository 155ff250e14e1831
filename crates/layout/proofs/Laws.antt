-- A number is the same where it is read from equal parts. Assumes nothing.
use Prim.Native.Nat.{ℕ}
use mathlib.Core.Path.{◌≡◌, ap, ◌∙◌}
use mathlib.Core.List.{List}

-- a number read in a part that was handed on
pub read_in : (f : List ℕ → ℕ) {r : ℕ} {l m : List ℕ} → l ≡ m → r ≡ f l → r ≡ f m
read_in f e h = h ∙ ap f e
