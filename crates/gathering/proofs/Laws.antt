-- What is told of the first numbers of a list is told of the list that they are. Assumes nothing.
use Prim.Native.Nat.{ℕ, zero, suc, ◌≤◌, ◌<◌}
use mathlib.Core.Path.{◌≡◌, refl, ◌∙◌}
use mathlib.Core.List.{List}
use native.Mathlib.Omega.{arith}
use lib.ListN.{length, take}
use Rattle.std.proofs.lemmas.List.{length-take-le, get_or-take}
use Rattle.arrays.specs.Sets.{fill}
use Rattle.combinations.specs.Combinations.{Numbers, listed, no_list, above_of, rank_of, start_of, ranks_of, starts_of}

fill_same : (l : List ℕ) (f g : ℕ → ℕ) (n : ℕ) → ((k : ℕ) → k < n → f k ≡ g k) → fill l f n ≡ fill l g n
unfolding fill
fill_same l f g zero h = refl
fill_same l f g (suc n) h = rw (fill_same l f g n (λ k i. h k (omega arith)), h n (omega arith))

listed_first : (list : List ℕ) (k n : ℕ) → n ≤ k → listed (take k list) n ≡ listed list n
unfolding listed
listed_first list k zero h = refl
listed_first list k (suc n) h = rw (get_or-take k list n 0 (omega arith), listed_first list k n (omega arith))

module _ (sheet list : List ℕ) (k : ℕ) where
  rank_first : (j : ℕ) → j < k → rank_of sheet (take k list) k j ≡ rank_of sheet list k j
  unfolding rank_of above_of
  rank_first j h = rw (get_or-take k list j 0 h, listed_first list k k (omega arith))

  start_first : (j : ℕ) → j < k → start_of sheet (take k list) j ≡ start_of sheet list j
  unfolding start_of
  start_first j h = rw (get_or-take k list j 0 h)

  pub ranks_first : {r : List ℕ} → k ≤ length list → r ≡ ranks_of sheet (take k list) (length (take k list)) → r ≡ ranks_of sheet list k
  ranks_first h e = e ∙ rw (length-take-le k list h) (fill_same no_list (rank_of sheet (take k list) k) (rank_of sheet list k) k rank_first)

  pub starts_first : {r : List ℕ} → k ≤ length list → r ≡ starts_of sheet (take k list) (length (take k list)) → r ≡ starts_of sheet list k
  starts_first h e = e ∙ rw (length-take-le k list h) (fill_same no_list (start_of sheet (take k list)) (start_of sheet list) k start_first)

pub numbers_first : {list : List ℕ} {k m : ℕ} → k ≤ length list → Numbers list k m → Numbers (take k list) (length (take k list)) m
numbers_first {list} {k} h N = rw (length-take-le k list h) (record { few = N.few; small = λ j g. rw (get_or-take k list j 0 g) (N.small j g) })
