-- The bids that enter the auction, as a list of numbers. Assumes nothing.
use Prim.Native.Nat.{ℕ, zero, suc, ◌≤◌, ◌<◌}
use mathlib.Core.Path.{◌≡◌, refl, sym, ap, ◌∙◌}
use mathlib.Core.List.{List}
use native.Mathlib.Omega.{arith}
use lib.ListN.{length}
use lib.Dec.{eqb}
use borrow.Author.Tests.{eqb-true, eqb-false}
use Rattle.rules.specs.Lists.{below}
use Rattle.laws_pot.specs.Lists.{case, In, here, there, in_none, sift_in, sift_le, below_in, length_below}
use Rattle.sheet.specs.declared.Size.{Size}
use Rattle.sheet.specs.Sheet.{entrant_at, entrants, in_auction, Ready}

pub entrants_length : (sheet : List ℕ) (k : ℕ) → length (entrants sheet k) ≡ k
unfolding entrants
entrants_length sheet zero = refl
entrants_length sheet (suc k) = ap suc (entrants_length sheet k)

in_entrants : (sheet : List ℕ) (j k : ℕ) → j < k → In (entrant_at sheet j) (entrants sheet k)
unfolding entrants
in_entrants sheet j zero h = absurd (omega arith)
in_entrants sheet j (suc k) h =
    case (eqb j k) (λ t. rw (eqb-true j k t) (here refl)) (λ f. let d = eqb-false j k f in there (in_entrants sheet j k (omega arith)))

module _ {sheet : List ℕ} {of : Size} (ok : Ready sheet of) where
  pub entrant_small : (j : ℕ) → j < of.entered → entrant_at sheet j < of.bids
  entrant_small j h =
      below_in (entrant_at sheet j) of.bids
      (sift_in (entrant_at sheet j) (in_auction sheet) (below of.bids) (rw ok.listed at (in_entrants sheet j of.entered h))).0

  pub passed_small : (j : ℕ) → j ≤ of.entered → (k : ℕ) → In k (entrants sheet j) → k < of.bids
  unfolding entrants
  passed_small zero h k i = in_none i
  passed_small (suc j) h k (here e) = rw e (entrant_small j h)
  passed_small (suc j) h k (there i) = passed_small j (omega arith) k i

  pub entrants_few : of.entered ≤ of.bids
  entrants_few =
      omega (arith, sym (entrants_length sheet of.entered) ∙ ap length ok.listed, sift_le (in_auction sheet) (below of.bids), length_below of.bids)
