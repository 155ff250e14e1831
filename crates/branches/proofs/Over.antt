-- What is passed over on the way to those kept, and what may be kept. Assumes nothing.
use Prim.Native.Nat.{ℕ, ◌+◌, ◌-◌, ◌^◌, ◌≤◌, ◌<◌}
use mathlib.Core.Path.{◌≡◌, ap, ◌∙◌}
use mathlib.Core.Bool.{Bool, true, false}
use mathlib.Core.Logic.{inr}
use native.Mathlib.Omega.{arith}
use borrow.Author.Tests.{eq-eqb, ne_eqb}
use Rattle.laws_pot.specs.Bits.{free_place}
use Rattle.ties.specs.Ties.{Cuttable}
use Rattle.branches.specs.Branches.{Branch, Open, Passed, near_by}
use Rattle.branches.proofs.Branch.{place_free, added_low, within_all, some_size}

-- one that fits and has the greatest total
module _ (ok : ℕ → Bool) (tot : ℕ → ℕ) (most m : ℕ) {w : ℕ} (ew : w ≡ tot m) where
  pub near_is : {f : Bool} → w ≡ most → f ≡ ok m → f ≡ near_by ok tot most m
  unfolding near_by
  near_is e ef = rw (← ew, eq-eqb w most e) ef

  pub near_other : (w ≡ most → ⊥) → false ≡ near_by ok tot most m
  unfolding near_by
  near_other n = rw (← ew, ne_eqb w most n)

module _ {ok : ℕ → Bool} {tot : ℕ → ℕ} {most mask left size : ℕ} (B : Branch mask size) (room : size ≤ left) where
  -- all undecided bids fit: to any combination but the last one of them can be added
  pub passed_open : Cuttable ok tot → ok (mask + (size - 1)) ≡ true → Passed ok tot most mask left (size - 1)
  passed_open C t = record { few = omega arith; none = λ j l. inr (inr (open_at j l)) }
    where
      open_at : (j : ℕ) → j < size - 1 → Open ok (mask + left) (mask + j)
      open_at j l =
          let q = free_place B.sized.places j (omega (arith, B.sized.is)) in
          let i = q.0 in
          let small : j < size = omega arith in
          let more : mask + j + 2 ^ i ≡ mask + (j + 2 ^ i) = omega arith in
          let h = added_low B j i small q.1 q.2 in
          record {
            place = i;
            free = place_free B j i small q.1 q.2;
            low = omega (arith, h, room);
            fits = ap ok more
                ∙ C.down (mask + (j + 2 ^ i)) (mask + (size - 1)) (omega (arith, B.room, h)) (omega (arith, B.room, some_size B)) (within_all B (j + 2 ^ i) h) t;
          }
