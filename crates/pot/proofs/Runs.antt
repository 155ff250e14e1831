-- The looks to the end, and the start: the arrays follow the trace. Assumes nothing.
use Prim.Native.Nat.{ℕ, zero, suc, ◌≤◌, ◌<◌}
use mathlib.Core.Path.{◌≡◌, refl, sym, ap, ◌∙◌}
use mathlib.Core.Bool.{Bool, true, false}
use mathlib.Core.List.{List, [], ◌∷◌}
use native.Mathlib.Omega.{arith}
use lib.ListN.{length, get_or}
use lib.Dec.{eqb, ltb}
use borrow.Author.Tests.{ne_eqb, ltb-true, ltb-false}
use Rattle.rules.specs.Names.{most_bids, no_price, no_reason, because_won}
use Rattle.rules.specs.Lists.{pick, memb, sift, below}
use Rattle.rules.specs.Pot.{Pot, Event, Trace, winners, seen, closed, hanging, wide_end, mark, goes_on, price_from, live, taken, drawn_after, look, run, onward}
use Rattle.rules.specs.Pot.{auction}
use Rattle.laws_pot.specs.Lists.{case, clash, In, here, in_memb, in_none, in_length, sift_in, in_sift, sift_le}
use Rattle.laws_pot.specs.Taken.{Lows, taken_lows}
use Rattle.laws_pot.specs.Runs.{Inv, inv_none, looked_next, inv_looked, step_of, lives, fewer}
use Rattle.arrays.specs.Sets.{fill}
use Rattle.arrays.proofs.Arrays.{put_is, at_start, fill_length, fill_at}
use Rattle.sheet.specs.declared.Size.{Size}
use Rattle.sheet.specs.Sheet.{number_in, one_more, drawn_in, pot_in, Ready, in_auction}
use Rattle.totals.proofs.Link.{not_bid}
use Rattle.pot.specs.declared.PotState.{PotState}
use Rattle.pot.specs.Marks.{least_or, live_of, lowest_of, NoneLive, Others, first_mark, no_marks, started_of, not_here}
use Rattle.pot.specs.Rep.{hangs, Rep, Stands, Stepped}
use Rattle.pot.proofs.Laws.{more_less}
use Rattle.pot.proofs.Link as link

-- what falls with each step
unfoldable pub unlooked : (sheet : List ℕ) (of : Size) → PotState → ℕ
unlooked sheet of s = length (sift (live_of sheet s) (below of.bids))

run_stop : (P : Pot) (n : ℕ) (t : Trace) → taken P t ≡ [] → run P n t ≡ t
unfolding run
run_stop P zero t e = refl
run_stop P (suc n) t e = rw e

run_on : (P : Pot) (n : ℕ) (t : Trace) (x : ℕ) → In x (taken P t)
    → run P (suc n) t ≡ pick (look P t (taken P t)).wide (look P t (taken P t) ∷ t) (run P n (look P t (taken P t) ∷ t))
unfolding run
run_on P n t x i = walk (taken P t) i
  where
    walk : (l : List ℕ) → In x l → onward P l t (pick (look P t (taken P t)).wide (look P t (taken P t) ∷ t) (run P n (look P t (taken P t) ∷ t)))
        ≡ pick (look P t (taken P t)).wide (look P t (taken P t) ∷ t) (run P n (look P t (taken P t) ∷ t))
    walk [] i = in_none i
    walk (y ∷ l) i = refl

-- the state stands for a trace from which the auction runs on to its end in so many steps
pub record Going (P : Pot) (s : PotState) : Type 0 where
  pub trace : Trace
  pub left : ℕ
  pub inv : Inv P trace
  pub stands : Stands P trace s
  pub enough : wide_end trace ≡ false → lives P trace ≤ left
  pub on : auction P ≡ pick (wide_end trace) trace (run P left trace)

pub start : (P : Pot) (s : PotState) → Stands P [] s → Going P s
unfolding auction wide_end
start P s S = record { trace = []; left = length P.bids; inv = inv_none P; stands = S; enough = λ n. sift_le (live P []) P.bids; on = refl }

pub start_narrow : {P : Pot} {s : PotState} → Stands P [] s → s.wide ≡ false
unfolding wide_end
start_narrow S = S.wide

module _ (sheet : List ℕ) (of : Size) (ok : Ready sheet of) where
  abbrev P : Pot
  P = pot_in sheet of

  lives_is : (t : Trace) (s : PotState) → Rep P t s → length (sift (live_of sheet s) (below of.bids)) ≡ lives P t
  lives_is t s R = ap length (link.live_list sheet of ok t s R)

  -- some price is below none where a bid is live
  some_live : (l : List ℕ) → least_or sheet l < no_price → (x : ℕ) × In x l
  unfolding least_or
  some_live [] e = absurd (let no : ⊥ = omega arith in no)
  some_live (x ∷ l) e = (x, here refl)

  module _ (s : PotState) (G : Going P s) where
    abbrev t : Trace
    t = G.trace

    -- the bids that are not of the pot
    pub run_others : s.wide ≡ false → Others sheet of s
    run_others w i h f = rw ((G.stands.rep (sym G.stands.wide ∙ w)).other i (link.small sheet of ok i h) (not_bid sheet of ok i f)) refl

    module _ {r : PotState} (n : s.wide ≡ false) {p : ℕ} (ep : p ≡ lowest_of sheet s of.bids) (e : p < no_price) (st : Stepped P s r) where
      narrow : wide_end t ≡ false
      narrow = sym G.stands.wide ∙ n

      R : Rep P t s
      R = G.stands.rep narrow

      found : (x : ℕ) × In x (sift (live P t) P.bids)
      unfolding lowest_of
      found =
          let f = some_live (sift (live_of sheet s) (below of.bids)) (rw ep at e) in
          (f.0, rw (sym (link.live_list sheet of ok t s R)) f.1)

      held : In found.0 P.bids × (live P t found.0 ≡ true)
      held = sift_in found.0 (live P t) P.bids found.1

      first : (x : ℕ) × In x (taken P t)
      first = (taken_lows P t).some found.0 held.0 held.1

      abbrev event : Event
      event = look P t (taken P t)

      stands : Stands P (event ∷ t) r
      stands = st t first.0 G.stands narrow first.1

      less : wide_end (event ∷ t) ≡ false → lives P (event ∷ t) < lives P t
      unfolding wide_end
      less n = fewer P t event (step_of P (link.lawful sheet of ok) t G.inv n) found.0 held.0 held.1

      pub run_less : r.wide ≡ false → unlooked sheet of r < unlooked sheet of s
      unfolding unlooked
      run_less w = let n = sym stands.wide ∙ w in omega (arith, lives_is (event ∷ t) r (stands.rep n), lives_is t s R, less n)

      pub run_again : Going P r
      run_again = go G.left (G.enough narrow) (G.on ∙ ap (λ (w : Bool). pick w t (run P G.left t)) narrow)
        where
          kept : Inv P (event ∷ t)
          kept = inv_looked P (link.lawful sheet of ok) t event G.inv (looked_next P (link.lawful sheet of ok) t G.inv)

          go : (j : ℕ) → lives P t ≤ j → auction P ≡ run P j t → Going P r
          go zero h q = absurd (omega (arith, in_length (in_sift (live P t) held.0 held.1)))
          go (suc j) h q =
              record {
                trace = event ∷ t;
                left = j;
                inv = kept;
                stands = stands;
                enough = λ n. omega (arith, less n);
                on = q ∙ run_on P j t first.0 first.1 ∙ opened;
              }
            where
              opened : pick event.wide (event ∷ t) (run P j (event ∷ t)) ≡ pick (wide_end (event ∷ t)) (event ∷ t) (run P j (event ∷ t))
              opened = unfold wide_end in refl

    -- a tie was too wide
    pub run_wide : s.wide ≡ true → Stands P (auction P) s
    run_wide w = rw (G.on, sym G.stands.wide ∙ w) G.stands

    -- no bid is live
    pub run_ends : s.wide ≡ false → NoneLive sheet of s → Stands P (auction P) s
    run_ends w e = rw (G.on, n, run_stop P G.left t (none (taken P t) (taken_lows P t))) G.stands
      where
        n : wide_end t ≡ false
        n = sym G.stands.wide ∙ w

        empty : sift (live P t) P.bids ≡ []
        empty = sym (link.live_list sheet of ok t s (G.stands.rep n)) ∙ e

        none : (l : List ℕ) → Lows P t l → l ≡ []
        none [] h = refl
        none (x ∷ l) h = let f = h.sound x (here refl) in in_none (rw empty at (in_sift (live P t) f.0 f.1))

  -- ---- no bid has been looked at
  size : of.bids ≤ length no_marks
  unfolding no_marks
  size = ok.few

  -- the marks at the start: of the auction's own bids, and of all others
  started_at : (i : ℕ) → i < of.bids → get_or (started_of sheet of).marks i 0 ≡ pick (in_auction sheet i) no_reason not_here
  unfolding started_of first_mark
  started_at i h = fill_at no_marks (λ i. pick (in_auction sheet i) no_reason not_here) of.bids i 0 size h

  started_past : (n i : ℕ) → n ≤ i → n ≤ most_bids → i < most_bids → get_or (fill no_marks (λ i. first_mark (in_auction sheet i)) n) i 0 ≡ not_here
  unfolding fill no_marks
  started_past zero i h g k = at_start most_bids i not_here 0 k
  started_past (suc n) i h g k =
      put_is (fill no_marks (λ i. first_mark (in_auction sheet i)) n) n i (first_mark (in_auction sheet n)) 0
      (omega (arith, fill_length no_marks (λ i. first_mark (in_auction sheet i)) n))
      ∙ rw (ne_eqb i n (λ e. let no : ⊥ = omega arith in no)) (started_past n i (omega arith) (omega arith) k)

  pub started_stands : {s : PotState} → s ≡ started_of sheet of → Stands P [] s
  unfolding wide_end winners seen closed hanging mark price_from hangs started_of no_marks
  started_stands e = rw e (record {
    wide = refl;
    rep = λ f. record {
      sizes = record { marks = fill_length no_marks (λ i. first_mark (in_auction sheet i)) of.bids; won = refl; opened = refl; prices = refl };
      other = others;
      why = own;
      one = λ i j. ap (λ (x : ℕ). eqb x because_won) (own i j);
      fresh = λ i j. ap (λ (x : ℕ). eqb x no_reason) (own i j);
      has = λ j h. at_start 64 j false false h;
      free = λ d h. at_start 4 d true false h;
      price = λ d h. at_start 4 d no_price 0 h;
      hang = refl;
      drawn = number;
    };
  })
    where
      number : drawn_after P [] ≡ number_in (one_more (started_of sheet of).drawn)
      number = unfold goes_on pot_in in ap number_in (sym (more_less (drawn_in sheet)))

      own : (i : ℕ) → In i P.bids → get_or (started_of sheet of).marks i 0 ≡ no_reason
      own i j = started_at i (link.bid_lt sheet of ok i j) ∙ rw (link.bid_in sheet of ok i j)

      others : (i : ℕ) → i < most_bids → memb i P.bids ≡ false → get_or (started_of sheet of).marks i 0 ≡ not_here
      others i h f =
          case (ltb i of.bids)
          (λ t. started_at i (ltb-true i of.bids t)
          ∙ case (in_auction sheet i) (λ e. clash (in_memb (link.bid sheet of ok i (ltb-true i of.bids t) e)) f) (λ g. rw g))
          (λ t. past i (ltb-false i of.bids t) h)
        where
          past : (i : ℕ) → of.bids ≤ i → i < most_bids → get_or (started_of sheet of).marks i 0 ≡ not_here
          past i g h = unfold started_of in started_past of.bids i g ok.few h
