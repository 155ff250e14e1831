-- Arrays that are filled or laid place by place, and sets of bids as arrays. Assumes nothing.
use Rattle.std.specs.Prelude.{ℕ, zero, suc, ◌+◌, Bool, false, not, ◌&&◌, List, [], ◌∷◌, get_or, set, replicate}
use Rattle.rules.specs.Names.{most_bids}
use Rattle.rules.specs.Lists.{sift, below}

-- an array whose first n places have been filled, each by its number
unfoldable pub fill : {A : Type 0} → List A → (ℕ → A) → ℕ → List A
fill l f zero = l
fill l f (suc k) = set (fill l f k) k (f k)

-- an array into which n values have been laid from place `at` on
unfoldable pub placed : {A : Type 0} → (ℕ → A) → List A → (at n : ℕ) → List A
placed f l at zero = l
placed f l at (suc k) = set (placed f l at k) (at + k) (f k)

-- the set of none, and the set of those below n that pass a test
unfoldable pub none : List Bool
none = replicate most_bids false

abbrev pub built : (ℕ → Bool) → ℕ → List Bool
built f n = fill none f n

-- those below n that are of a set, the last first
unfoldable pub members : List Bool → ℕ → List ℕ
members l n = sift (λ i. get_or l i false) (below n)

-- the first of a list
abbrev pub head_or : ℕ → List ℕ → ℕ
head_or d [] = d
head_or d (i ∷ l) = i

-- of the set l, and not of the set a
unfoldable pub without : (l a : List Bool) → ℕ → Bool
without l a i = get_or l i false && not (get_or a i false)
