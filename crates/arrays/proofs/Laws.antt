-- Laws of sets over plain variables: each answers one need of a proof. Assumes nothing.
use Prim.Native.Nat.{ℕ, ◌+◌, ◌≤◌, ◌<◌}
use mathlib.Core.Path.{◌≡◌, sym, ap, subst, ◌∙◌}
use mathlib.Core.Bool.{Bool, true, false}
use mathlib.Core.List.{List}
use native.Mathlib.Numerals.{add-one}
use native.Mathlib.Nat.{le_antisymm}
use native.Mathlib.Omega.{arith}
use lib.ListN.{get_or, set, length}
use lib.Dec.{eqb}
use borrow.Author.Tests.{eqb-true, eqb-false}
use Rattle.laws_pot.specs.Lists.{case}
use Rattle.arrays.specs.Sets.{fill, members}

-- a loop that counts i up to n has reached n
pub done : {A : Type 0} (f : ℕ → A) {x : A} {i n : ℕ} → x ≡ f i → i ≤ n → n ≤ i → x ≡ f n
done f {x} {i} {n} e h g = e ∙ ap f (le_antisymm h g)

-- what holds of all counted holds of one more
pub below_more : (Q : ℕ → Type 0) {n : ℕ} → ((j : ℕ) → j < n → Q j) → Q n → (j : ℕ) → j < n + 1 → Q j
below_more Q {n} h q j l = case (eqb j n) (λ t. subst Q (sym (eqb-true j n t)) q) (λ f. let d = eqb-false j n f in h j (omega arith))

-- one place more is filled
pub fill_next : {A : Type 0} (l₀ : List A) (f : ℕ → A) (k : ℕ) {l : List A} {v : A} → l ≡ fill l₀ f k → v ≡ f k → set l k v ≡ fill l₀ f (k + 1)
unfolding fill
fill_next l₀ f k e h = rw (add-one k, e, h)

-- a set's members, one place more
module _ (l : List Bool) (i : ℕ) where
  pub count_hit : get_or l i false ≡ true → length (members l i) + 1 ≡ length (members l (i + 1))
  unfolding members
  count_hit h = rw (add-one i, h) (add-one _)

  pub count_miss : get_or l i false ≡ false → length (members l i) ≡ length (members l (i + 1))
  unfolding members
  count_miss h = rw (add-one i, h)
