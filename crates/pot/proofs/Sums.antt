-- The sums by delivery year: what writing, winning and turning down do to them, and that they are the totals of a trial. Assumes nothing.
use Prim.Native.Nat.{ℕ, zero, suc, ◌+◌, ◌*◌, ◌≤◌, ◌<◌}
use mathlib.Core.Path.{◌≡◌, refl, sym, ap, ◌∙◌}
use mathlib.Core.Bool.{Bool, true, false, ◌&&◌}
use Rattle.std.specs.Prelude.{Option, None, Some}
use mathlib.Core.List.{List, [], ◌∷◌}
use native.Mathlib.Numerals.{add-one}
use native.Mathlib.Omega.{arith}
use lib.ListN.{length, get_or, set, replicate}
use lib.Seq.{get_or-set_other}
use lib.Dec.{eqb, ltb}
use borrow.Author.Tests.{eqb-true, eqb-false, ne_eqb}
use Rattle.rules.specs.Value.{dearest}
use Rattle.rules.specs.Names.{most_bids, because_won, widest_tie}
use Rattle.rules.specs.Lists.{pick, sift, below}
use Rattle.rules.specs.Pot.{Pot, Trace}
use Rattle.laws_pot.specs.Lists.{case, In, here, there, sift_in, below_in}
use Rattle.arrays.specs.Sets.{fill, placed, members}
use Rattle.arrays.proofs.Arrays.{zeros, fill_at, placed_length, placed_at, placed_other}
use Rattle.sheet.specs.declared.Size.{Size}
use Rattle.sheet.specs.Sheet.{columns, Ready, in_auction, row_year}
use Rattle.totals.specs.Totals.{worth_of, total_of, part_on, part_of, no_row, filled, fits_to, row_fits, column_sum, most_sum, sums_size}
use Rattle.totals.proofs.Laws.{fits_same, row_none}
use Rattle.totals.proofs.Parts.{part_most, total_parts}
use Rattle.ties.specs.declared.Choice.{Choice}
use Rattle.pot.specs.declared.PotState.{PotState}
use Rattle.pot.specs.Marks.{win_of, win_all, turn_all, turn_of, turned_of, hung_of, shut_of, shut_in, settled_of, widened, alone_of, follows_of, numbered_of, shared_of}
use Rattle.pot.specs.Marks.{rest_of, choice_in, tie_of, first_mark, no_marks, started_of, with_sums, renewed_row, renewed_of}
use Rattle.pot.specs.Marks.{renewed_to, totalled_of, revalued_of, tried_of, trial_of, Parted, Summed}
use Rattle.pot.specs.Rep.{Rep, Stands}

-- ---- a row of the sums is written: its own places, and those of another year
laid_filled : (l : List ℕ) (d : ℕ) (f : ℕ → ℕ) (n c : ℕ) → length l ≡ sums_size → d < 4 → n ≤ columns → c < n
    → get_or (placed (λ x. get_or (filled f n) x 0) l (d * columns) n) (d * columns + c) 0 ≡ f c
laid_filled l d f n c h g k i = placed_at (λ x. get_or (filled f n) x 0) l (d * columns) n c 0 (omega arith) i ∙ fill_at no_row f n c 0 (size k) i
  where
    size : n ≤ columns → n ≤ length no_row
    size g = unfold no_row in g

laid_other : (l : List ℕ) (d : ℕ) (row : List ℕ) (n a c : ℕ) → (a ≡ d → ⊥) → n ≤ columns → c < columns
    → get_or (placed (λ x. get_or row x 0) l (d * columns) n) (a * columns + c) 0 ≡ get_or l (a * columns + c) 0
laid_other l d row n a c h k i = placed_other (λ x. get_or row x 0) l (d * columns) n (a * columns + c) 0 (λ j g q. h (omega arith))

pub renewed_is : (sheet : List ℕ) (of : Size) (d : ℕ) (s : PotState) {row sums : List ℕ} → row ≡ renewed_row sheet of d s
    → sums ≡ placed (λ c. get_or row c 0) s.sums (d * columns) of.columns
    → ◌≡◌ {A = PotState} (record {
      marks = s.marks;
      won = s.won;
      opened = s.opened;
      prices = s.prices;
      sums = sums;
      totals = s.totals;
      hang = s.hang;
      wide = s.wide;
      drawn = s.drawn;
    }) (renewed_of sheet of d s)
unfolding renewed_of with_sums
renewed_is sheet of d s er es = rw (es, er)

pub totalled_is : (of : Size) (s : PotState) {row : List ℕ} → row ≡ filled (column_sum s.sums) of.columns
    → ◌≡◌ {A = PotState} (record {
      marks = s.marks;
      won = s.won;
      opened = s.opened;
      prices = s.prices;
      sums = s.sums;
      totals = row;
      hang = s.hang;
      wide = s.wide;
      drawn = s.drawn;
    }) (totalled_of of s)
unfolding totalled_of with_sums
totalled_is of s er = rw er

pub revalued_is : (sheet : List ℕ) (of : Size) (s : PotState) {t r : PotState} → t ≡ renewed_to sheet of s 4 → r ≡ totalled_of of t → r ≡ revalued_of sheet of s
unfolding revalued_of
revalued_is sheet of s et er = rw (er, et)

pub tried_is : (sheet : List ℕ) (of : Size) (p i : ℕ) (s : PotState) {d : ℕ} {u t r : PotState} → d ≡ row_year sheet i → u ≡ win_of sheet p i s
    → t ≡ renewed_of sheet of d u → r ≡ totalled_of of t
    → r ≡ tried_of sheet of p i s
unfolding tried_of
tried_is sheet of p i s ed eu et er = rw (er, et, eu, ed)

pub trial_is : (sheet : List ℕ) (of : Size) (p : ℕ) (l : List Bool) (s : PotState) {u r : PotState} → u ≡ win_all sheet p s (members l of.bids)
    → r ≡ revalued_of sheet of u → r ≡ trial_of sheet of p l s
unfolding trial_of
trial_is sheet of p l s eu er = rw (er, eu)

pub renewed_next : (sheet : List ℕ) (of : Size) (s : PotState) (d : ℕ) {t r : PotState} → t ≡ renewed_to sheet of s d → r ≡ renewed_of sheet of d t
    → r ≡ renewed_to sheet of s (d + 1)
unfolding renewed_to
renewed_next sheet of s d et er = rw (add-one d, er, et)

-- ---- marks and the sums of a delivery year
module _ (sheet : List ℕ) (of : Size) (marks : List ℕ) (price i v : ℕ) where
  -- a bid of another year
  part_other : (d c : ℕ) (l : List ℕ) → (row_year sheet i ≡ d → ⊥) → part_on sheet of (set marks i v) price d c l ≡ part_on sheet of marks price d c l
  unfolding part_on
  part_other d c [] h = refl
  part_other d c (n ∷ l) h = rw (part_other d c l h) (ap (λ (x : ℕ). part_on sheet of marks price d c l + x) (same (eqb n i) refl))
    where
      same : (b : Bool) → eqb n i ≡ b
          → pick (eqb (get_or (set marks i v) n 0) because_won && eqb (row_year sheet n) d) (worth_of sheet of n price c) 0
          ≡ pick (eqb (get_or marks n 0) because_won && eqb (row_year sheet n) d) (worth_of sheet of n price c) 0
      same true t =
          rw (eqb-true n i t, ne_eqb (row_year sheet i) d h)
          (none (eqb (get_or (set marks i v) i 0) because_won) ∙ sym (none (eqb (get_or marks i 0) because_won)))
        where
          none : (b : Bool) → pick (b && false) (worth_of sheet of i price c) 0 ≡ 0
          none true = refl
          none false = refl
      same false f = rw (get_or-set_other marks i n v 0 (eqb-false n i f))

  -- a bid that did not win and does not
  part_down : (d c : ℕ) (l : List ℕ) → eqb v because_won ≡ false → eqb (get_or marks i 0) because_won ≡ false
      → part_on sheet of (set marks i v) price d c l ≡ part_on sheet of marks price d c l
  unfolding part_on
  part_down d c [] g h = refl
  part_down d c (n ∷ l) g h = rw (part_down d c l g h) (ap (λ (x : ℕ). part_on sheet of marks price d c l + x) (same (eqb n i) refl))
    where
      lost : (l : List ℕ) (k : ℕ) → eqb (get_or l k 0) because_won ≡ false → eqb (get_or (set l k v) k 0) because_won ≡ false
      lost [] k e = e
      lost (x ∷ l) zero e = g
      lost (x ∷ l) (suc k) e = lost l k e

      same : (b : Bool) → eqb n i ≡ b
          → pick (eqb (get_or (set marks i v) n 0) because_won && eqb (row_year sheet n) d) (worth_of sheet of n price c) 0
          ≡ pick (eqb (get_or marks n 0) because_won && eqb (row_year sheet n) d) (worth_of sheet of n price c) 0
      same true t = rw (eqb-true n i t, lost marks i h, h)
      same false f = rw (get_or-set_other marks i n v 0 (eqb-false n i f))

-- no bid has won
part_none : (sheet : List ℕ) (of : Size) (marks : List ℕ) (price d c : ℕ) (l : List ℕ) → ((k : ℕ) → In k l → eqb (get_or marks k 0) because_won ≡ false)
    → part_on sheet of marks price d c l ≡ 0
unfolding part_on
part_none sheet of marks price d c [] h = refl
part_none sheet of marks price d c (n ∷ l) h = rw (part_none sheet of marks price d c l (λ k i. h k (there i)), h n (here refl))

module _ (sheet : List ℕ) (of : Size) where
  -- ---- what keeps the sums and totals right
  pub summed_turned : (i : ℕ) (s : PotState) → eqb (get_or s.marks i 0) because_won ≡ false → Summed sheet of s → Summed sheet of (turned_of i s)
  unfolding turned_of part_of
  summed_turned i s h S = record {
    parts = record {
      size = S.parts.size;
      part =
          λ d c g k. S.parts.part d c g k
          ∙ sym (part_down sheet of s.marks (get_or s.prices d 0) i 2 d c (sift (in_auction sheet) (below of.bids)) refl h);
    };
    row = S.row;
  }

  summed_hung : (year : Option ℕ) (s : PotState) → Summed sheet of s → Summed sheet of (hung_of year s)
  unfolding hung_of
  summed_hung year s S = record { parts = record { size = S.parts.size; part = S.parts.part }; row = S.row }

  summed_shut : (d : ℕ) (s : PotState) → Summed sheet of s → Summed sheet of (shut_of d s)
  unfolding shut_of
  summed_shut d s S = record { parts = record { size = S.parts.size; part = S.parts.part }; row = S.row }

  summed_wide : (s : PotState) → Summed sheet of s → Summed sheet of (widened s)
  unfolding widened
  summed_wide s S = record { parts = record { size = S.parts.size; part = S.parts.part }; row = S.row }

  -- the row of totals is taken
  summed_totalled : {s r : PotState} → r ≡ totalled_of of s → Parted sheet of s → Summed sheet of r
  unfolding totalled_of with_sums
  summed_totalled e Q = rw e (record { parts = record { size = Q.size; part = Q.part }; row = refl })

  pub summed_settled : {s r : PotState} → r ≡ settled_of s → Summed sheet of s → Summed sheet of r
  unfolding settled_of shut_in
  summed_settled {s} e S = rw e (go s.hang)
    where
      go : (year : Option ℕ) → Summed sheet of (shut_in year s)
      go None = summed_hung None s S
      go (Some d) = closed (ltb d 4)
        where
          closed : (b : Bool) → Summed sheet of (pick b (shut_of d s) (hung_of None s))
          closed true = summed_shut d s S
          closed false = summed_hung None s S

  pub summed_alone : (i : ℕ) {s r : PotState} → r ≡ alone_of sheet of i s → eqb (get_or s.marks i 0) because_won ≡ false → Summed sheet of s → Summed sheet of r
  unfolding alone_of
  summed_alone i {s} e h S = rw e (go (follows_of sheet of i (turned_of i s)))
    where
      go : (b : Bool) → Summed sheet of (pick b (hung_of (Some (row_year sheet i)) (turned_of i s)) (shut_of (row_year sheet i) (turned_of i s)))
      go true = summed_hung (Some (row_year sheet i)) (turned_of i s) (summed_turned i s h S)
      go false = summed_shut (row_year sheet i) (turned_of i s) (summed_turned i s h S)

  -- ---- what makes them right
  -- a bid wins, and its year is renewed: the other years are as before
  pub parted_win : (p i : ℕ) (s : PotState) {d : ℕ} {u r : PotState} → of.columns ≤ columns → row_year sheet i < 4 → d ≡ row_year sheet i → u ≡ win_of sheet p i s
      → r ≡ renewed_of sheet of d u → Parted sheet of s → Parted sheet of r
  unfolding renewed_of with_sums win_of part_of
  parted_win p i s {d} ly ld ed eu er S = rw (er, eu, ed) (record {
    size = placed_length (λ x. get_or (filled part of.columns) x 0) s.sums (row_year sheet i * columns) of.columns ∙ S.size;
    part = λ a c g k. case (eqb a (row_year sheet i))
        (λ t. rw (eqb-true a (row_year sheet i) t) (laid_filled s.sums (row_year sheet i) part of.columns c S.size ld ly k))
        (λ f.
        let n = eqb-false a (row_year sheet i) f in
        laid_other s.sums (row_year sheet i) (filled part of.columns) of.columns a c n ly (omega arith) ∙ S.part a c g k
        ∙ rw (get_or-set_other s.prices (row_year sheet i) a p 0 n)
        (sym (part_other sheet of s.marks (get_or s.prices a 0) i because_won a c (sift (in_auction sheet) (below of.bids)) (λ e. n (sym e)))));
  })
    where
      part : ℕ → ℕ
      part c = part_of sheet of (set s.marks i because_won) (get_or (set s.prices (row_year sheet i) p) (row_year sheet i) 0) (row_year sheet i) c of.bids

  pub summed_one : (p i : ℕ) {s r : PotState} → of.columns ≤ columns → row_year sheet i < 4 → r ≡ tried_of sheet of p i s → Summed sheet of s → Summed sheet of r
  unfolding tried_of
  summed_one p i {s} ly ld e S = summed_totalled e (parted_win p i s ly ld refl refl refl S.parts)

  -- every year is renewed
  module _ (s : PotState) where
    pub renewed_sums : (n : ℕ) → renewed_to sheet of s n ≡ with_sums (renewed_to sheet of s n).sums s.totals s
    unfolding renewed_to renewed_of with_sums
    renewed_sums zero = refl
    renewed_sums (suc n) = ap (λ (t : PotState). with_sums (renewed_to sheet of s (suc n)).sums t.totals t) (renewed_sums n)

    renewed_size : (n : ℕ) → length (renewed_to sheet of s n).sums ≡ length s.sums
    unfolding renewed_to renewed_of with_sums
    renewed_size zero = refl
    renewed_size (suc n) = placed_length _ (renewed_to sheet of s n).sums (n * columns) of.columns ∙ renewed_size n

    renewed_parts : (n : ℕ) → length s.sums ≡ sums_size → of.columns ≤ columns → n ≤ 4 → (d c : ℕ) → d < n → c < of.columns
        → get_or (renewed_to sheet of s n).sums (d * columns + c) 0 ≡ part_of sheet of s.marks (get_or s.prices d 0) d c of.bids
    unfolding renewed_to renewed_of with_sums
    renewed_parts zero h g k d c i j = absurd (omega arith)
    renewed_parts (suc n) h g k d c i j = case (eqb d n)
        (λ t. rw (eqb-true d n t) (laid_filled (renewed_to sheet of s n).sums n part of.columns c (renewed_size n ∙ h) k g j ∙ same))
        (λ f. let e = eqb-false d n f in
        laid_other (renewed_to sheet of s n).sums n (filled part of.columns) of.columns d c e g (omega arith)
        ∙ renewed_parts n h g (omega arith) d c (omega arith) j)
      where
        part : ℕ → ℕ
        part c = part_of sheet of (renewed_to sheet of s n).marks (get_or (renewed_to sheet of s n).prices n 0) n c of.bids

        same : part c ≡ part_of sheet of s.marks (get_or s.prices n 0) n c of.bids
        same = ap (λ (t : PotState). part_of sheet of t.marks (get_or t.prices n 0) n c of.bids) (renewed_sums n)

    pub parted_renewed : {r : PotState} → length s.sums ≡ sums_size → of.columns ≤ columns → r ≡ renewed_to sheet of s 4 → Parted sheet of r
    unfolding with_sums
    parted_renewed h g e = rw e (record {
      size = renewed_size 4 ∙ h;
      part =
          λ d c i j. renewed_parts 4 h g (omega arith) d c i j
          ∙ sym (ap (λ (t : PotState). part_of sheet of t.marks (get_or t.prices d 0) d c of.bids) (renewed_sums 4));
    })

    pub revalued_sums : revalued_of sheet of s ≡ with_sums (revalued_of sheet of s).sums (revalued_of sheet of s).totals s
    unfolding revalued_of totalled_of with_sums
    revalued_sums =
        ap (λ (t : PotState). with_sums (renewed_to sheet of s 4).sums (filled (column_sum (renewed_to sheet of s 4).sums) of.columns) t) (renewed_sums 4)

    pub summed_revalued : {r : PotState} → length s.sums ≡ sums_size → of.columns ≤ columns → r ≡ revalued_of sheet of s → Summed sheet of r
    unfolding revalued_of
    summed_revalued h g e = summed_totalled e (parted_renewed h g refl)

  -- no bid has been looked at
  pub summed_started : {s : PotState} → of.bids ≤ most_bids → of.columns ≤ columns → s ≡ started_of sheet of → Summed sheet of s
  unfolding started_of part_of
  summed_started h g e = rw e (record {
    parts =
        record {
          size = refl;
          part = λ d c i j. zeros sums_size (d * columns + c)
              ∙ sym (part_none sheet of (fill no_marks (λ i. first_mark (in_auction sheet i)) of.bids) (get_or (replicate 4 _) d 0) d c
              (sift (in_auction sheet) (below of.bids)) (λ k i. fresh k (below_in k of.bids (sift_in k (in_auction sheet) (below of.bids) i).0)));
        };
    row = start g ∙ ap (λ (f : ℕ → ℕ). filled f of.columns) (λ j c. sym (blank c) j);
  })
    where
      start : of.columns ≤ columns → replicate columns 0 ≡ filled (λ _. 0) of.columns
      start g = unfold no_row in row_none of.columns g

      blank : (c : ℕ) → column_sum (replicate sums_size 0) c ≡ 0
      blank c = unfold column_sum in rw (zeros sums_size c, zeros sums_size (columns + c), zeros sums_size (2 * columns + c), zeros sums_size (3 * columns + c))

      size : of.bids ≤ length no_marks
      size = unfold no_marks in h

      fresh : (k : ℕ) → k < of.bids → eqb (get_or (fill no_marks (λ i. first_mark (in_auction sheet i)) of.bids) k 0) because_won ≡ false
      fresh k g = rw (fill_at no_marks (λ i. first_mark (in_auction sheet i)) of.bids k 0 size g) (first (in_auction sheet k))
        where
          first : (t : Bool) → eqb (first_mark t) because_won ≡ false
          first true = unfold first_mark in refl
          first false = unfold first_mark in refl

-- ---- winning and turning down leave the sums alone
win_sums : (sheet : List ℕ) (p : ℕ) (s : PotState) (l : List ℕ) → (win_all sheet p s l).sums ≡ s.sums
unfolding win_all win_of
win_sums sheet p s [] = refl
win_sums sheet p s (i ∷ l) = win_sums sheet p s l

turn_sums : (sheet : List ℕ) (v : ℕ) (s : PotState) (l : List ℕ) → (turn_all sheet v s l).sums ≡ s.sums
unfolding turn_all turn_of
turn_sums sheet v s [] = refl
turn_sums sheet v s (i ∷ l) = turn_sums sheet v s l

module _ (sheet : List ℕ) (of : Size) {s : PotState} (ly : of.columns ≤ columns) (S : Summed sheet of s) where
  -- several are tried
  pub win_size : (p : ℕ) (l : List ℕ) {u : PotState} → u ≡ win_all sheet p s l → length u.sums ≡ sums_size
  win_size p l eu = ap (λ (t : PotState). length t.sums) eu ∙ ap length (win_sums sheet p s l) ∙ S.parts.size

  pub summed_trial : (p : ℕ) (l : List Bool) {r : PotState} → r ≡ trial_of sheet of p l s → Summed sheet of r
  unfolding trial_of
  summed_trial p l e = summed_revalued sheet of (win_all sheet p s (members l of.bids)) (win_size p (members l of.bids) refl) ly e

  -- several do not fit
  pub shared_size : (l : List Bool) (c : Choice) (p : ℕ) {u : PotState} → u ≡ shared_of sheet of l c p s → length u.sums ≡ sums_size
  unfolding shared_of numbered_of hung_of
  shared_size l c p eu = ap (λ (t : PotState). length t.sums) eu ∙ ap length (turn_sums sheet _ _ _ ∙ win_sums sheet p s _) ∙ S.parts.size

  pub summed_tie : (p : ℕ) (l : List Bool) {r : PotState} → r ≡ tie_of sheet of l p s → Summed sheet of r
  unfolding tie_of
  summed_tie p l e = rw e (go (ltb widest_tie (length (members (rest_of sheet of l p s) of.bids))))
    where
      go : (b : Bool) → Summed sheet of (pick b (widened s) (revalued_of sheet of (shared_of sheet of l (choice_in sheet of l p s) p s)))
      go true = summed_wide sheet of s S
      go false = summed_revalued sheet of (shared_of sheet of l (choice_in sheet of l p s) p s) (shared_size l (choice_in sheet of l p s) p refl) ly refl

-- ---- the sums of a column together are its total
module _ {sheet : List ℕ} {of : Size} {s : PotState} (S : Parted sheet of s) (c : ℕ) (h : c < of.columns) where
  abbrev part : ℕ → ℕ
  part d = part_of sheet of s.marks (get_or s.prices d 0) d c of.bids

  four : column_sum s.sums c ≡ part 0 + (part 1 + (part 2 + part 3))
  unfolding column_sum
  four = rw (at0, at1, at2, at3)
    where
      at0 : get_or s.sums c 0 ≡ part 0
      at0 = let e : c ≡ 0 * columns + c = omega arith in ap (λ (k : ℕ). get_or s.sums k 0) e ∙ S.part 0 c (omega arith) h

      at1 : get_or s.sums (columns + c) 0 ≡ part 1
      at1 = let e : columns + c ≡ 1 * columns + c = omega arith in ap (λ (k : ℕ). get_or s.sums k 0) e ∙ S.part 1 c (omega arith) h

      at2 : get_or s.sums (2 * columns + c) 0 ≡ part 2
      at2 = let e : 2 * columns + c ≡ 2 * columns + c = omega arith in ap (λ (k : ℕ). get_or s.sums k 0) e ∙ S.part 2 c (omega arith) h

      at3 : get_or s.sums (3 * columns + c) 0 ≡ part 3
      at3 = let e : 3 * columns + c ≡ 3 * columns + c = omega arith in ap (λ (k : ℕ). get_or s.sums k 0) e ∙ S.part 3 c (omega arith) h

  -- where the winners are all of the pot
  pub sum_total : Ready sheet of → ((k : ℕ) → k < of.bids → in_auction sheet k ≡ false → eqb (get_or s.marks k 0) because_won ≡ false)
      → column_sum s.sums c ≡ total_of sheet of s.marks s.prices c of.bids
  sum_total ok others = four ∙ sym (total_parts sheet of s.marks s.prices c ok others)

  pub sum_most : Ready sheet of → column_sum s.sums c ≤ most_sum
  sum_most v =
      let few = v.few in
      let most : (d : ℕ) → part d ≤ dearest * of.bids = λ d. part_most sheet of s.marks (get_or s.prices d 0) d c v in
      omega (arith, four, most 0, most 1, most 2, most 3)

-- the row of totals fits where the sums do
pub row_fits_lem : (f : ℕ → ℕ) (sheet : List ℕ) (n : ℕ) {row : List ℕ} {b : Bool} → n ≤ columns → row ≡ filled f n → b ≡ row_fits sheet row n → b ≡ fits_to f sheet n
row_fits_lem f sheet n h er eb =
    eb ∙ ap (λ (r : List ℕ). row_fits sheet r n) er ∙ fits_same (λ c. get_or (filled f n) c 0) f sheet n (λ c g. fill_at no_row f n c 0 size g)
  where
    size : n ≤ length no_row
    size = unfold no_row in h

-- ---- the trace does not speak of the sums
pub rep_sums : {P : Pot} {t : Trace} {s : PotState} (l q : List ℕ) → Rep P t s → Rep P t (with_sums l q s)
unfolding with_sums
rep_sums l q R = record {
  sizes = record { marks = R.sizes.marks; won = R.sizes.won; opened = R.sizes.opened; prices = R.sizes.prices };
  other = R.other;
  why = R.why;
  one = R.one;
  fresh = R.fresh;
  has = R.has;
  free = R.free;
  price = R.price;
  hang = R.hang;
  drawn = R.drawn;
}

pub stands_sums : {P : Pot} {t : Trace} {s : PotState} (l q : List ℕ) → Stands P t s → Stands P t (with_sums l q s)
unfolding with_sums
stands_sums l q S = record { wide = S.wide; rep = λ n. rep_sums l q (S.rep n) }

pub settled_sums : (l q : List ℕ) (s : PotState) → settled_of (with_sums l q s) ≡ with_sums l q (settled_of s)
unfolding settled_of shut_in shut_of hung_of with_sums
settled_sums l q s = go s.hang
  where
    go : (year : Option ℕ) → shut_in year (with_sums l q s) ≡ with_sums l q (shut_in year s)
    go None = refl
    go (Some d) = case (ltb d 4) (λ t. rw t) (λ f. rw f)
