-- The winners of one year: their totals, and that those of the four years together are the totals of all winners. Assumes nothing.
use Prim.Native.Nat.{ℕ, zero, suc, ◌+◌, ◌*◌, ◌≤◌, ◌<◌}
use mathlib.Core.Path.{◌≡◌, refl, sym, ap, ◌∙◌}
use mathlib.Core.Bool.{Bool, true, false, ◌&&◌}
use mathlib.Core.List.{List, [], ◌∷◌}
use native.Mathlib.Nat.{le_antisymm}
use native.Mathlib.Numerals.{add-one}
use native.Mathlib.Omega.{arith}
use lib.ListN.{length, get_or}
use lib.Dec.{eqb}
use borrow.Author.Tests.{eq-eqb, ne_eqb}
use Rattle.rules.specs.Value.{dearest}
use Rattle.rules.specs.Names.{because_won}
use Rattle.rules.specs.Lists.{pick, sift, below}
use Rattle.laws_pot.specs.Lists.{case, In, here, there, sift_in, sift_le, below_in, length_below}
use Rattle.sheet.specs.declared.Size.{Size}
use Rattle.sheet.specs.Sheet.{columns, Ready, entrant_at, entrants, in_auction, row_year}
use Rattle.sheet.proofs.Entrants.{entrants_length, passed_small}
use Rattle.totals.specs.Totals.{worth_of, cost_of, total_of, part_on, part_of, filled, added_to}
use Rattle.totals.proofs.Laws.{worth_le, pick_le, added_is}

module _ (sheet : List ℕ) (of : Size) (marks : List ℕ) (price d : ℕ) where
  -- of a list of bids, of the bids passed, and of all
  part_le : (c : ℕ) (l : List ℕ) → Ready sheet of → ((k : ℕ) → In k l → k < of.bids) → part_on sheet of marks price d c l ≤ dearest * length l
  unfolding part_on
  part_le c [] v g = omega arith
  part_le c (k ∷ l) v g =
      omega (
        arith,
        part_le c l v (λ j i. g j (there i)),
        pick_le (eqb (get_or marks k 0) because_won && eqb (row_year sheet k) d) (worth_le sheet of k price c v (g k (here refl))),
      )

  pub part_passed : (j c : ℕ) → Ready sheet of → j ≤ of.entered → part_on sheet of marks price d c (entrants sheet j) ≤ dearest * j
  part_passed j c v g = omega (arith, part_le c (entrants sheet j) v (passed_small v j g), entrants_length sheet j)

  pub part_most : (c : ℕ) → Ready sheet of → part_of sheet of marks price d c of.bids ≤ dearest * of.bids
  unfolding part_of
  part_most c v =
      omega (
        arith,
        part_le c (sift (in_auction sheet) (below of.bids)) v (λ k i. below_in k of.bids (sift_in k (in_auction sheet) (below of.bids) i).0),
        sift_le (in_auction sheet) (below of.bids),
        length_below of.bids,
      )

  -- the row of totals, one bid of the list more: a winner of the year, a bid that has not won, a bid of another year
  module _ (j n : ℕ) {i : ℕ} (ei : i ≡ entrant_at sheet j) {row : List ℕ}
      (er : row ≡ filled (λ c. part_on sheet of marks price d c (entrants sheet j)) n) where
    pub part_hit : {s : ℕ} {next : List ℕ} → n ≤ columns → get_or marks i 0 ≡ 1 → s ≡ row_year sheet i → s ≡ d
        → next ≡ added_to (λ c. worth_of sheet of i price c) row n → next ≡ filled (λ c. part_on sheet of marks price d c (entrants sheet (j + 1))) n
    part_hit h w es t en =
        en ∙ ap (λ (l : List ℕ). added_to (λ c. worth_of sheet of i price c) l n) er
        ∙ added_is (λ c. part_on sheet of marks price d c (entrants sheet j)) (λ c. worth_of sheet of i price c) n h
        ∙ ap (λ (f : ℕ → ℕ). filled f n) (λ k c. one c k)
      where
        one : (c : ℕ) → part_on sheet of marks price d c (entrants sheet j) + worth_of sheet of i price c
            ≡ part_on sheet of marks price d c (entrants sheet (j + 1))
        one c = unfold part_on entrants in rw (add-one j, ← ei, eq-eqb _ _ w, eq-eqb (row_year sheet i) d (sym es ∙ t))

    miss : (eqb (get_or marks i 0) because_won && eqb (row_year sheet i) d) ≡ false
        → row ≡ filled (λ c. part_on sheet of marks price d c (entrants sheet (j + 1))) n
    miss f = er ∙ ap (λ (f : ℕ → ℕ). filled f n) (λ k c. one c k)
      where
        one : (c : ℕ) → part_on sheet of marks price d c (entrants sheet j) ≡ part_on sheet of marks price d c (entrants sheet (j + 1))
        one c = unfold part_on entrants in rw (add-one j, ← ei, f) (omega arith)

    pub part_lost : (get_or marks i 0 ≡ 1 → ⊥) → row ≡ filled (λ c. part_on sheet of marks price d c (entrants sheet (j + 1))) n
    part_lost n = miss (rw (ne_eqb _ _ n))

    pub part_apart : {s : ℕ} → s ≡ row_year sheet i → (s ≡ d → ⊥) → row ≡ filled (λ c. part_on sheet of marks price d c (entrants sheet (j + 1))) n
    part_apart es n = miss (rw (ne_eqb (row_year sheet i) d (λ e. n (es ∙ e))) (none (eqb (get_or marks i 0) because_won)))
      where
        none : (b : Bool) → (b && false) ≡ false
        none true = refl
        none false = refl

  pub part_done : (j n : ℕ) {row : List ℕ} → row ≡ filled (λ c. part_on sheet of marks price d c (entrants sheet j)) n → Ready sheet of
      → j ≤ of.entered → of.entered ≤ j → row ≡ filled (λ c. part_of sheet of marks price d c of.bids) n
  unfolding part_of
  part_done j n er L h g = er ∙ ap (λ (l : List ℕ). filled (λ c. part_on sheet of marks price d c l) n) (ap (entrants sheet) (le_antisymm h g) ∙ L.listed)

-- a bid that starts in one of the four years counts in that year alone
spread : (t : Bool) (s : ℕ) (w : ℕ → ℕ) → s < 4
    → pick t (w s) 0 ≡ pick (t && eqb s 0) (w 0) 0 + (pick (t && eqb s 1) (w 1) 0 + (pick (t && eqb s 2) (w 2) 0 + pick (t && eqb s 3) (w 3) 0))
spread false s w h = omega arith
spread true zero w h = omega arith
spread true (suc zero) w h = omega arith
spread true (suc (suc zero)) w h = omega arith
spread true (suc (suc (suc zero))) w h = omega arith
spread true (suc (suc (suc (suc s)))) w h = absurd (omega arith)

-- the winners are all of the pot
module _ (sheet : List ℕ) (of : Size) (marks prices : List ℕ) (c : ℕ) (ok : Ready sheet of)
    (others : (k : ℕ) → k < of.bids → in_auction sheet k ≡ false → eqb (get_or marks k 0) because_won ≡ false) where
  abbrev parts : ℕ → ℕ → ℕ
  parts d n = part_of sheet of marks (get_or prices d 0) d c n

  four : (n : ℕ) → n ≤ of.bids → total_of sheet of marks prices c n ≡ parts 0 n + (parts 1 n + (parts 2 n + parts 3 n))
  unfolding total_of cost_of part_of part_on
  four zero h = omega arith
  four (suc n) h =
      case (in_auction sheet n)
      (λ t.
      rw t
      (omega (
        arith,
        four n (omega arith),
        spread (eqb (get_or marks n 0) because_won) (row_year sheet n) (λ d. worth_of sheet of n (get_or prices d 0) c) (ok.year n h),
      )))
      (λ f. rw (f, others n h f) (omega (arith, four n (omega arith))))

  pub total_parts : total_of sheet of marks prices c of.bids ≡ parts 0 of.bids + (parts 1 of.bids + (parts 2 of.bids + parts 3 of.bids))
  total_parts = four of.bids (omega arith)
