-- One look: the arrays follow the trace. Assumes nothing.
use Prim.Native.Nat.{ℕ, ◌<◌}
use mathlib.Core.Path.{◌≡◌, refl, sym, ap, ◌∙◌}
use mathlib.Core.Bool.{Bool, true, false}
use mathlib.Core.List.{List, [], ◌∷◌, ◌++◌}
use native.Mathlib.Omega.{arith}
use lib.ListN.{length, get_or}
use lib.Dec.{eqb}
use Rattle.rules.specs.Names.{because_won}
use Rattle.rules.specs.Pot.{Pot, Trace, winners, wide_end, taken, fits, down, follows, alone, tied, lost, look}
use Rattle.laws_pot.specs.Lists.{case, In, here, in_none}
use Rattle.arrays.specs.Sets.{built, members, head_or}
use Rattle.sheet.specs.declared.Size.{Size}
use Rattle.sheet.specs.Sheet.{pot_in, Ready, in_auction}
use Rattle.sheet.proofs.Columns.{columns_few}
use Rattle.totals.specs.Totals.{total_of, row_fits, column_sum}
use Rattle.pot.specs.declared.PotState.{PotState}
use Rattle.pot.specs.declared.Look.{Look}
use Rattle.pot.specs.Marks.{lowest_of, at_of, win_all, Looked, settled_of, taken_of, alone_of, tie_of, with_sums, renewed_of, totalled_of}
use Rattle.pot.specs.Marks.{tried_of, trial_of, Summed}
use Rattle.pot.specs.Rep.{Rep, Stepped}
use Rattle.pot.proofs.Looks as looks
use Rattle.pot.proofs.Ties as ties
use Rattle.pot.proofs.Sums.{revalued_sums, sum_total, row_fits_lem, stands_sums, settled_sums}

-- one taken, or several
only : (l : List ℕ) {c i : ℕ} → c ≡ length l → c ≡ 1 → i ≡ head_or 0 l → l ≡ i ∷ []
only [] ec h e = absurd (let no : ⊥ = omega arith in no)
only (x ∷ []) ec h e = rw e
only (x ∷ y ∷ l) ec h e = absurd (let no : ⊥ = omega arith in no)

several : (P : Pot) (t : Trace) (l : List ℕ) {c x : ℕ} → c ≡ length l → (c ≡ 1 → ⊥) → In x l → lost P t l ≡ tied P t l
unfolding lost
several P t [] ec h i = in_none i
several P t (x ∷ []) ec h i = absurd (h ec)
several P t (x ∷ y ∷ l) ec h i = refl

lost_one : (P : Pot) (t : Trace) (i : ℕ) → lost P t (i ∷ []) ≡ alone P t i
unfolding lost
lost_one P t i = refl

-- a look that sees one bid, and the trial with it
module _ {sheet : List ℕ} {of : Size} {s : PotState} {l : Look} (K : Looked sheet of s l) (h : l.count ≡ 1) where
  pub one_taken : members (taken_of sheet of s) of.bids ≡ l.last ∷ []
  one_taken = only (members (taken_of sheet of s) of.bids) K.count h K.last

  pub one_tried : {v : PotState} → v ≡ tried_of sheet of l.price l.last s
      → v ≡ with_sums (tried_of sheet of l.price l.last s).sums (tried_of sheet of l.price l.last s).totals
      (win_all sheet l.price s (members (taken_of sheet of s) of.bids))
  one_tried ev = rw (ev, one_taken) opened
    where
      opened : tried_of sheet of l.price l.last s
          ≡ with_sums (tried_of sheet of l.price l.last s).sums (tried_of sheet of l.price l.last s).totals
          (win_all sheet l.price s (l.last ∷ []))
      opened = unfold win_all tried_of totalled_of renewed_of with_sums in refl

-- the live bids at the lowest live price are those taken
pub taken_is : (sheet : List ℕ) (of : Size) {p : ℕ} (s : PotState) {a : List Bool} → p ≡ lowest_of sheet s of.bids → a ≡ built (at_of sheet s p) of.bids
    → a ≡ taken_of sheet of s
unfolding taken_of
taken_is sheet of s ep ea = rw (ea, ep)

pub many_tried : (sheet : List ℕ) (of : Size) (p : ℕ) (s : PotState) {v : PotState} {a : List Bool} → a ≡ taken_of sheet of s → v ≡ trial_of sheet of p a s
    → v ≡ with_sums (trial_of sheet of p (taken_of sheet of s) s).sums (trial_of sheet of p (taken_of sheet of s) s).totals
    (win_all sheet p s (members (taken_of sheet of s) of.bids))
unfolding trial_of
many_tried sheet of p s ea ev = rw (ev, ea) (revalued_sums sheet of (win_all sheet p s (members (taken_of sheet of s) of.bids)))

-- ---- a step
module _ (sheet : List ℕ) (of : Size) (ok : Ready sheet of) (s : PotState) {p : ℕ} (k q : List ℕ) {v : PotState} {f : Bool}
    (ep : p ≡ lowest_of sheet s of.bids)
    (ev : v ≡ with_sums k q (win_all sheet p s (members (taken_of sheet of s) of.bids))) (Sv : Summed sheet of v)
    (ef : f ≡ row_fits sheet v.totals of.columns) where
  module _ (t : Trace) where
    abbrev P : Pot
    P = pot_in sheet of

    of_set : Rep P t s → members (taken_of sheet of s) of.bids ≡ taken P t
    of_set R = looks.of_set sheet of ok t s R

    tried : Rep P t s → v ≡ with_sums k q (win_all sheet (lowest_of sheet s of.bids) s (taken P t))
    tried R = ev ∙ ap (λ (l : List ℕ). with_sums k q (win_all sheet p s l)) (of_set R) ∙ ap (λ (x : ℕ). with_sums k q (win_all sheet x s (taken P t))) ep

    others : Rep P t s → (i : ℕ) → i < of.bids → in_auction sheet i ≡ false → eqb (get_or v.marks i 0) because_won ≡ false
    unfolding with_sums
    others R i g e = ap (λ (u : PotState). eqb (get_or u.marks i 0) because_won) (tried R) ∙ looks.trial_others sheet of ok t s R i g e

    fits_is : Rep P t s → f ≡ fits P (taken P t ++ winners t)
    unfolding with_sums
    fits_is R =
        row_fits_lem (column_sum v.sums) sheet of.columns (columns_few ok) Sv.row ef ∙ looks.trial_fits sheet of ok t s R (column_sum v.sums)
        (λ c h. sum_total Sv.parts c h ok (others R) ∙ ap (λ (u : PotState). total_of sheet of u.marks u.prices c of.bids) (tried R))

  -- all that were taken fit
  pub step_fits : {r : PotState} → f ≡ true → r ≡ settled_of v → Stepped (pot_in sheet of) s r
  unfolding look wide_end
  step_fits g e t x S n i =
      let R = S.rep n in
      rw (sym (fits_is t R) ∙ g, e, tried t R, settled_sums k q (win_all sheet (lowest_of sheet s of.bids) s (taken (pot_in sheet of) t)))
      (stands_sums k q (record {
        wide = looks.won_wide sheet of ok t s R ∙ S.wide ∙ n;
        rep = λ q. looks.won_rep sheet of ok t s R;
      }))

  module _ (g : f ≡ false) where
    look_lost : (t : Trace) → Rep (pot_in sheet of) t s → look (pot_in sheet of) t (taken (pot_in sheet of) t) ≡ lost (pot_in sheet of) t (taken (pot_in sheet of) t)
    unfolding look
    look_lost t R = rw (sym (fits_is t R) ∙ g)

    -- one alone does not
    pub step_alone : {i : ℕ} {r : PotState} → members (taken_of sheet of s) of.bids ≡ i ∷ [] → r ≡ alone_of sheet of i s → Stepped (pot_in sheet of) s r
    unfolding wide_end
    step_alone {i} q e t x S n j =
        let P = pot_in sheet of in
        let R = S.rep n in
        let f : taken P t ≡ i ∷ [] = sym (of_set t R) ∙ q in
        let w : In i (taken P t) = rw f (here refl) in
        rw (look_lost t R ∙ ap (lost P t) f ∙ lost_one P t i, e) (record {
          wide = looks.alone_wide sheet of ok t s R i ∙ S.wide ∙ n ∙ sym (not_wide P t i);
          rep = λ u. looks.alone_rep sheet of ok t s R i w;
        })
      where
        not_wide : (P : Pot) (t : Trace) (i : ℕ) → (alone P t i).wide ≡ false
        not_wide P t i = unfold alone in case (follows P i (taken P (down P i [] [] ∷ t))) (λ u. rw u) (λ u. rw u)

    -- several do not
    pub step_tie : {a : List Bool} {r : PotState} → a ≡ taken_of sheet of s → (length (members (taken_of sheet of s) of.bids) ≡ 1 → ⊥)
        → r ≡ tie_of sheet of a p s → Stepped (pot_in sheet of) s r
    step_tie ea q e t x S n j =
        let P = pot_in sheet of in
        let R = S.rep n in
        rw (look_lost t R ∙ several P t (taken P t) (ap length (of_set t R)) q j, e, ea, ep)
        (ties.tied_stands sheet of ok t s R (S.wide ∙ n))
