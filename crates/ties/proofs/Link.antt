-- From the arrays of a tie to the rules: what fits alone, what a combination comes to, and which is chosen. Assumes nothing.
use Prim.Native.Nat.{ℕ, zero, suc, ◌+◌, ◌-◌, ◌*◌, ◌/◌, ◌%◌, ◌^◌, ◌≤◌, ◌<◌}
use mathlib.Core.Path.{◌≡◌, refl, sym, ap, ap₂, ◌∙◌}
use mathlib.Core.Bool.{Bool, true, false, not, ◌&&◌, ◌||◌}
use mathlib.Core.Logic.{⊎_elim}
use mathlib.Core.Option.{Option, some}
use Rattle.std.specs.declared.option.Option as code
use Rattle.std.specs.Prelude.{None, Some}
use mathlib.Core.List.{List, [], ◌∷◌, ◌++◌, map}
use native.Mathlib.Omega.{arith}
use lib.Pow.{pow_pos, pow_mono}
use lib.ListN.{length, get_or, length-set}
use lib.Dec.{eqb, ltb}
use borrow.Author.Tests.{eqb-true, eqb-false, eq-eqb, ne_eqb, lt-ltb}
use Rattle.rules.specs.Names.{most_bids, no_price, widest_tie}
use Rattle.rules.specs.Lists.{pick, memb, sift, below, sum}
use Rattle.rules.specs.Pot.{Pot, has, best, all, at_place, divided, price_from, clearing, tally, fits, remaining, rank, combination, fits_at, last_at, top_number}
use Rattle.rules.specs.Pot.{full, keeps, kept, number, chosen, choose, ways_of}
use Rattle.laws_pot.specs.Lists.{case, In, memb_in, in_memb, in_one, in_tail, in_map, sift_in, sift_same, sift_both, memb_join, below_in}
use Rattle.laws_pot.specs.Bits.{has_none, add_adds, add_other, add_lt}
use Rattle.laws_pot.specs.Tie.{tally_same, combination_in, rank_lt, with_one, fits_alike}
use Rattle.arrays.specs.Sets.{none, built, members}
use Rattle.arrays.proofs.Arrays.{put_is, at_start, fill_at, members_built}
use Rattle.sheet.specs.declared.Size.{Size}
use Rattle.sheet.proofs.Columns.{columns_few}
use Rattle.sheet.specs.Sheet.{columns, pot_in, Ready, in_auction, number_in, one_more, row_year, row_price, row_draw}
use Rattle.totals.specs.Totals.{worth_of, total_of}
use Rattle.totals.proofs.Link as link
use Rattle.totals.proofs.Link.{Marked, column_of, column_total}
use Rattle.ties.specs.declared.Choice.{Choice}
use Rattle.combinations.specs.Combinations.{year_sets, combinations, repriced_to, base_at, no_base, bases_of, compact_of, listed, above_of, rank_of, ranks_of}
use Rattle.combinations.specs.Combinations.{start_of, starts_of, tied_of, own_at, no_own, owns_of, Numbers, touch_of, touched_of, combined_of, table_by, joint_of, union_of}
use Rattle.ties.specs.declared.listing.Answer.{Answer}
use Rattle.ties.specs.Ties.{alone_total, alone_fits, keeps_of, combination_of, ok_by, last_by, addable_of, full_to, kept_by, top_by, ways_by, answer_by}
use Rattle.ties.specs.Ties.{left_of, answer_of, chosen_of, choice_of}
use Rattle.combinations.proofs.Parts.{touch_low, joint_total}
use Rattle.combinations.proofs.Lists.{in_listed, listed_is, numbers, rank_at, start_at}
use Rattle.ties.proofs.Laws.{pow_low, best_less, best_alike}
use Rattle.ties.proofs.Sums.{sum_same, memb_sift, price_won, price_one, tally_split, tally_sum, Part, part_sift, part_in}

-- ---- a row of prices, some of them anew
repriced_length : (prices : List ℕ) (p t n : ℕ) → length (repriced_to prices p t n) ≡ length prices
unfolding repriced_to
repriced_length prices p t zero = refl
repriced_length prices p t (suc n) =
    case (has t n) (λ e. rw e (length-set (repriced_to prices p t n) n p ∙ repriced_length prices p t n)) (λ f. rw f (repriced_length prices p t n))

repriced_past : (prices : List ℕ) (p t n d : ℕ) → n ≤ d → n ≤ length prices → get_or (repriced_to prices p t n) d 0 ≡ get_or prices d 0
unfolding repriced_to
repriced_past prices p t zero d h g = refl
repriced_past prices p t (suc n) d h g =
    let r = repriced_past prices p t n d (omega arith) (omega arith) in
    case (has t n)
    (λ e. rw e (put_is (repriced_to prices p t n) n d p 0 (omega (arith, repriced_length prices p t n))
    ∙ rw (ne_eqb d n (λ q. let no : ⊥ = omega arith in no)) r))
    (λ f. rw f r)

repriced_at : (prices : List ℕ) (p t n d : ℕ) → d < n → n ≤ length prices → get_or (repriced_to prices p t n) d 0 ≡ pick (has t d) p (get_or prices d 0)
unfolding repriced_to
repriced_at prices p t zero d h g = absurd (omega arith)
repriced_at prices p t (suc n) d h g =
    case (eqb d n)
    (λ q. let u = eqb-true d n q in
    case (has t n)
    (λ e. rw (e, u) (put_is (repriced_to prices p t n) n n p 0 (omega (arith, repriced_length prices p t n)) ∙ rw (eq-eqb n n refl, e)))
    (λ f. rw (f, u, f) (repriced_past prices p t n n (omega arith) (omega arith))))
    (λ q. let u = eqb-false d n q in
    let r = repriced_at prices p t n d (omega arith) (omega arith) in
    case (has t n)
    (λ e. rw e (put_is (repriced_to prices p t n) n d p 0 (omega (arith, repriced_length prices p t n)) ∙ rw q r))
    (λ f. rw f r))

-- ---- sets of delivery years
one_year : (d e : ℕ) → has (2 ^ d) e ≡ (eqb e d || false)
one_year d e =
    case (eqb e d)
    (λ t. rw (t, eqb-true e d t) (ap (λ (x : ℕ). has x d) zero_add ∙ add_adds 0 d (has_none d)))
    (λ f. rw f (ap (λ (x : ℕ). has x e) zero_add ∙ add_other 0 d e (has_none d) (eqb-false e d f) ∙ has_none e))
  where
    zero_add : {x : ℕ} → x ≡ 0 + x
    zero_add = omega arith

pub touch_has : (t d e : ℕ) → has (touch_of t d) e ≡ (eqb e d || has t e)
unfolding touch_of
touch_has t d e =
    case (has t d)
    (λ u. rw u (case (eqb e d) (λ q. rw (q, eqb-true e d q, u)) (λ q. rw q)))
    (λ u. rw u (case (eqb e d) (λ q. rw (q, eqb-true e d q) (add_adds t d u)) (λ q. rw q (add_other t d e u (eqb-false e d q)))))

module _ (sheet : List ℕ) (of : Size) (ok : Ready sheet of) where
  abbrev P : Pot
  P = pot_in sheet of

  -- a bid of the pot is a part of it
  pub part_one : (i : ℕ) → In i P.bids → Part P (i ∷ [])
  part_one i h = record {
    part =
        opened
        ∙ sift_same (λ k. in_auction sheet k && memb k (i ∷ [])) (λ k. eqb k i) (below of.bids) (λ k j. alike k)
        ∙ one of.bids (link.bid_lt sheet of ok i h);
  }
    where
      opened : sift (λ k. memb k (i ∷ [])) P.bids ≡ sift (λ k. in_auction sheet k && memb k (i ∷ [])) (below of.bids)
      opened = unfold pot_in in sift_both (λ k. memb k (i ∷ [])) (in_auction sheet) (below of.bids)

      alike : (k : ℕ) → (in_auction sheet k && memb k (i ∷ [])) ≡ eqb k i
      alike k = case (eqb k i) (λ t. rw (t, eqb-true k i t, link.bid_in sheet of ok i h)) (λ f. rw f (no (in_auction sheet k)))
        where
          no : (t : Bool) → (t && false) ≡ false
          no true = refl
          no false = refl

      past : (n : ℕ) → n ≤ i → sift (λ k. eqb k i) (below n) ≡ []
      past zero g = refl
      past (suc n) g = rw (ne_eqb n i (λ e. let no : ⊥ = omega arith in no)) (past n (omega arith))

      one : (n : ℕ) → i < n → sift (λ k. eqb k i) (below n) ≡ i ∷ []
      one zero g = absurd (omega arith)
      one (suc n) g =
          case (eqb n i)
          (λ t. rw (t, eqb-true n i t) (ap (λ (s : List ℕ). i ∷ s) (past i (omega arith))))
          (λ f. rw f (one n (let d = eqb-false n i f in omega arith)))

  -- the members of a set that has the bids of a part
  pub part_members : (bs : List ℕ) (s : List Bool) → Part P bs → ((i : ℕ) → i < of.bids → get_or s i false ≡ memb i bs) → members s of.bids ≡ bs
  part_members bs s Q h =
      opened
      ∙ sift_same (λ i. get_or s i false) (λ i. in_auction sheet i && memb i bs) (below of.bids) (λ i j. h i (below_in i of.bids j) ∙ alike i)
      ∙ sym (sift_both (λ i. memb i bs) (in_auction sheet) (below of.bids)) ∙ closed
    where
      opened : members s of.bids ≡ sift (λ i. get_or s i false) (below of.bids)
      opened = unfold members in refl

      closed : sift (λ i. memb i bs) (sift (in_auction sheet) (below of.bids)) ≡ bs
      closed = unfold pot_in in Q.part

      alike : (i : ℕ) → memb i bs ≡ (in_auction sheet i && memb i bs)
      alike i = case (memb i bs) (λ t. rw (t, link.bid_in sheet of ok i (part_in P i Q (memb_in i bs t)))) (λ f. rw f (no (in_auction sheet i)))
        where
          no : (t : Bool) → false ≡ (t && false)
          no true = refl
          no false = refl

  -- ---- the winners ws, as marks and a row of prices, and bids at price p that are tried on top of them
  module _ (ws marks prices : List ℕ) (M : Marked P ws marks) (size : length prices ≡ 4) (at : (d : ℕ) → d < 4 → get_or prices d 0 ≡ price_from P no_price ws d)
      (p : ℕ) {base : List ℕ} (eb : base ≡ bases_of sheet of marks prices p) where
    -- the clearing prices where p is that of the years t
    abbrev over : ℕ → ℕ → ℕ
    over t d = pick (has t d) p (clearing P ws d)

    start : (i : ℕ) → In i P.bids → row_year sheet i < 4
    start i h = ok.year i (link.bid_lt sheet of ok i h)

    row_at : (t c : ℕ) → t < 16 → c < of.columns → get_or base (t * columns + c) 0 ≡ total_of sheet of marks (repriced_to prices p t 4) c of.bids
    unfolding no_base base_at
    row_at t c h g =
        ap (λ (l : List ℕ). get_or l (t * columns + c) 0) eb
        ∙ fill_at no_base (base_at sheet of marks prices p) (year_sets * columns) (t * columns + c) 0 (omega arith) (omega (arith, columns_few ok))
        ∙ rw (place, row, lt-ltb c of.columns g)
      where
        place : (t * columns + c) % columns ≡ c
        place = omega (arith, columns_few ok)

        row : (t * columns + c) / columns ≡ t
        row = omega (arith, columns_few ok)

    base_is : (t c : ℕ) → t < 16 → c < of.columns → get_or base (t * columns + c) 0 ≡ tally P (column_of P) (λ i. memb i ws) (over t) c P.bids
    base_is t c h g =
        row_at t c h g
        ∙ link.total_at_lem sheet of ok ws marks (repriced_to prices p t 4) M (over t) same c
      where
        same : (i : ℕ) → In i P.bids → memb i ws ≡ true → get_or (repriced_to prices p t 4) (row_year sheet i) 0 ≡ over t (row_year sheet i)
        same i j w =
            repriced_at prices p t 4 (row_year sheet i) (start i j) (omega (arith, size))
            ∙ ap (pick (has t (row_year sheet i)) p) (at (row_year sheet i) (start i j) ∙ opened (price_won P no_price i ws (memb_in i ws w)))
          where
            opened : price_from P no_price ws (P.yr i) ≡ clearing P ws (P.yr i) → price_from P no_price ws (row_year sheet i) ≡ clearing P ws (row_year sheet i)
            opened e = unfold pot_in in e

    -- bids at price p that have not won, and the years in which they start
    pub record Tried (bs : List ℕ) (t : ℕ) : Type 0 where
      pub part : Part P bs
      pub price : (i : ℕ) → In i bs → P.price i ≡ p
      pub fresh : (i : ℕ) → In i bs → memb i ws ≡ false
      pub low : t < 16
      pub years : (d : ℕ) → d < 4 → has t d ≡ memb d (map P.yr bs)

    pub joined : (bs : List ℕ) (t c : ℕ) → Tried bs t → c < of.columns
        → get_or base (t * columns + c) 0 + sum (λ i. worth_of sheet of i p c) bs ≡ column_total P (bs ++ ws) c
    joined bs t c T g = sym (
        tally_same P (column_of P) (λ i. memb i (bs ++ ws)) (λ i. memb i bs || memb i ws) (clearing P (bs ++ ws)) (over t) c P.bids (λ i j. memb_join i bs ws)
        (λ i j u. price i j)
        ∙ tally_split P (column_of P) (λ i. memb i bs) (λ i. memb i ws) (over t) c P.bids (λ i j u. T.fresh i (memb_in i bs u))
        ∙ ap₂ ◌+◌ (sym (base_is t c T.low g))
        (tally_sum P (column_of P) (λ i. memb i bs) (over t) c P.bids ∙ ap (sum (λ i. column_of P i (over t (P.yr i)) c)) T.part.part
        ∙ sum_same (λ i. column_of P i (over t (P.yr i)) c) (λ i. worth_of sheet of i p c) bs own)
        )
      where
        years : (i : ℕ) → In i P.bids → has t (P.yr i) ≡ memb (P.yr i) (map P.yr bs)
        years i j = T.years (P.yr i) (low (start i j))
          where
            low : row_year sheet i < 4 → P.yr i < 4
            low h = unfold pot_in in h

        price : (i : ℕ) → In i P.bids → clearing P (bs ++ ws) (P.yr i) ≡ over t (P.yr i)
        price i j = price_one P 0 p bs ws (P.yr i) T.price ∙ ap (λ (u : Bool). pick u p (clearing P ws (P.yr i))) (sym (years i j))

        own : (i : ℕ) → In i bs → column_of P i (over t (P.yr i)) c ≡ worth_of sheet of i p c
        own i j =
            let k = part_in P i T.part j in
            rw (years i k, in_memb (in_map P.yr j)) (link.column_is sheet of ok i p c (link.bid_in sheet of ok i k))

    -- ---- what fits alone
    module _ (a : List Bool) (l : List ℕ) (of_set : members a of.bids ≡ l) (Q : Part P l) (pl : (i : ℕ) → In i l → P.price i ≡ p)
        (fl : (i : ℕ) → In i l → memb i ws ≡ false) where
      alone_is : (i c : ℕ) → In i l → c < of.columns → alone_total sheet of base p i c ≡ column_total P (i ∷ ws) c
      unfolding alone_total
      alone_is i c j g = omega (arith, plus) ∙ joined (i ∷ []) (2 ^ row_year sheet i) c tried g
        where
          plus : sum (λ i. worth_of sheet of i p c) (i ∷ []) ≡ worth_of sheet of i p c + 0
          plus = unfold sum in refl

          tried : Tried (i ∷ []) (2 ^ row_year sheet i)
          tried = record {
            part = part_one i (part_in P i Q j);
            price = λ h q. rw (in_one q) (pl i j);
            fresh = λ h q. rw (in_one q) (fl i j);
            low = omega (arith, pow_low (row_year sheet i) (start i (part_in P i Q j)));
            years = λ d h. one_year (row_year sheet i) d ∙ opened d;
          }
            where
              opened : (d : ℕ) → (eqb d (row_year sheet i) || false) ≡ (eqb d (P.yr i) || false)
              opened d = unfold pot_in in refl

      alone_fits_lem : (i : ℕ) → In i l → alone_fits sheet of base p i ≡ fits P (i ∷ ws)
      alone_fits_lem i j = link.fits_is sheet of ok (alone_total sheet of base p i) (i ∷ ws) (λ c h. alone_is i c j h)

      module _ (s : List Bool) (es : s ≡ built (keeps_of sheet of base p a) of.bids) where
        abbrev r : List ℕ
        r = remaining P ws l

        pub of_rest : members s of.bids ≡ r
        unfolding keeps_of remaining
        of_rest =
            ap (λ (x : List Bool). members x of.bids) es ∙ members_built (keeps_of sheet of base p a) of.bids ok.few
            ∙ sym (sift_both (λ i. alone_fits sheet of base p i) (λ i. get_or a i false) (below of.bids))
            ∙ ap (sift (λ i. alone_fits sheet of base p i)) (opened ∙ of_set)
            ∙ sift_same (λ i. alone_fits sheet of base p i) (λ c. fits P (c ∷ ws)) l alone_fits_lem
          where
            opened : sift (λ i. get_or a i false) (below of.bids) ≡ members a of.bids
            opened = unfold members in refl

        among : (i : ℕ) → In i r → In i l
        unfolding remaining
        among i j = (sift_in i (λ c. fits P (c ∷ ws)) l j).0

        part_r : Part P r
        unfolding remaining
        part_r = part_sift P (λ c. fits P (c ∷ ws)) Q

        -- ---- combinations of the k bids that remain
        module _ {k : ℕ} (ek : k ≡ length (members s of.bids)) (few : k ≤ widest_tie) where
          abbrev list : List ℕ
          list = compact_of s of.bids

          abbrev ranks : List ℕ
          ranks = ranks_of sheet list k

          abbrev starts : List ℕ
          starts = starts_of sheet list k

          abbrev own : List ℕ
          own = owns_of sheet of list p k

          abbrev table : List ℕ
          table = table_by base own ranks starts k

          in_list : listed list k ≡ r
          in_list = listed_is s of.bids ek few refl ∙ of_rest

          N : Numbers list k of.bids
          N = numbers s of.bids ek few refl

          rank_is : (j : ℕ) → j < k → get_or ranks j 0 ≡ rank P r (get_or list j 0)
          unfolding rank rank_of above_of pot_in
          rank_is j g =
              rank_at sheet of list k ok N j g ∙ ap (λ (x : List ℕ). length (sift (λ c. ltb (row_draw sheet (get_or list j 0)) (row_draw sheet c)) x)) in_list

          start_is : (j : ℕ) → j < k → get_or starts j 0 ≡ P.yr (get_or list j 0)
          unfolding start_of pot_in
          start_is j g = start_at sheet of list k ok N j g

          start_low : (j : ℕ) → j < k → get_or starts j 0 < 4
          start_low j g = rw (start_is j g) (low j g)
            where
              low : (j : ℕ) → j < k → P.yr (get_or list j 0) < 4
              low j g = unfold pot_in in ok.year (get_or list j 0) (N.small j g)

          own_is : (j c : ℕ) → j < k → c < of.columns → get_or own (j * columns + c) 0 ≡ worth_of sheet of (get_or list j 0) p c
          unfolding no_own own_at
          own_is j c g h =
              fill_at no_own (own_at sheet of list p) (k * columns) (j * columns + c) 0 (omega arith) (omega (arith, columns_few ok))
              ∙ rw (place, row, lt-ltb c of.columns h)
            where
              place : (j * columns + c) % columns ≡ c
              place = omega (arith, columns_few ok)

              row : (j * columns + c) / columns ≡ j
              row = omega (arith, columns_few ok)

          module _ (mask : ℕ) where
            abbrev sel : ℕ → Bool
            sel i = has mask (rank P r i)

            sel_is : (j : ℕ) → j < k → has mask (get_or ranks j 0) ≡ sel (get_or list j 0)
            sel_is j g = ap (has mask) (rank_is j g)

            touched_is : (n : ℕ) → n ≤ k → (touched_of ranks starts mask n < 16) × ((d : ℕ) → d < 4
                → has (touched_of ranks starts mask n) d ≡ memb d (map P.yr (sift sel (listed list n))))
            unfolding touched_of listed
            touched_is zero h = (omega arith, λ d g. has_none d)
            touched_is (suc n) h =
                let ih = touched_is n (omega arith) in
                case (sel (get_or list n 0))
                (λ u. rw (sel_is n h ∙ u, u) (
                  touch_low (touched_of ranks starts mask n) (get_or starts n 0) ih.0 (start_low n h),
                  λ d g. touch_has (touched_of ranks starts mask n) (get_or starts n 0) d ∙ rw (start_is n h, ih.1 d g),
                ))
                (λ u. rw (sel_is n h ∙ u, u) ih)

            sum_is : (c n : ℕ) → n ≤ k → c < of.columns → combined_of own ranks mask c n ≡ sum (λ i. worth_of sheet of i p c) (sift sel (listed list n))
            unfolding combined_of listed sum
            sum_is c zero h g = refl
            sum_is c (suc n) h g =
                let ih = sum_is c n (omega arith) g in
                case (sel (get_or list n 0))
                (λ u. rw (sel_is n h ∙ u, u, own_is n c h g, ih) (omega arith))
                (λ u. rw (sel_is n h ∙ u, u, ih) (omega arith))

            set_size : (n : ℕ) → length (combination_of list ranks mask n) ≡ most_bids
            unfolding combination_of none
            set_size zero = refl
            set_size (suc n) =
                case (has mask (get_or ranks n 0)) (λ u. rw u (length-set (combination_of list ranks mask n) (get_or list n 0) true ∙ set_size n))
                (λ u. rw u (set_size n))

            set_is : (n i : ℕ) → n ≤ k → i < of.bids → get_or (combination_of list ranks mask n) i false ≡ memb i (sift sel (listed list n))
            unfolding combination_of listed none
            set_is zero i h g = at_start most_bids i false false (omega (arith, ok.few))
            set_is (suc n) i h g =
                let ih = set_is n i (omega arith) g in
                case (sel (get_or list n 0))
                (λ u. rw (sel_is n h ∙ u, u) (
                put_is (combination_of list ranks mask n) (get_or list n 0) i true false (omega (arith, set_size n, N.small n h, ok.few))
                ∙ case (eqb i (get_or list n 0)) (λ q. rw q) (λ q. rw q ih)
                ))
                (λ u. rw (sel_is n h ∙ u, u) ih)

            abbrev cs : List ℕ
            cs = combination P r mask

            of_com : sift sel (listed list k) ≡ cs
            unfolding combination
            of_com = ap (sift sel) in_list

            part_com : Part P cs
            unfolding combination
            part_com = part_sift P sel part_r

            in_com : (i : ℕ) → In i cs → In i l
            in_com i j = among i (combination_in P i mask r j)

            abbrev years : ℕ
            years = touched_of ranks starts mask k

            tried : Tried cs years
            tried =
                let f = touched_is k (omega arith) in
                record {
                  part = part_com;
                  price = λ i j. pl i (in_com i j);
                  fresh = λ i j. fl i (in_com i j);
                  low = f.0;
                  years = λ d g. f.1 d g ∙ ap (λ (x : List ℕ). memb d (map P.yr x)) of_com;
                }

            -- what the table says of it
            module _ (low : mask < combinations) where
              total_is : (c : ℕ) → c < of.columns → joint_of table mask (union_of table mask) c ≡ column_total P (cs ++ ws) c
              total_is c g =
                  joint_total base own ranks starts k start_low mask c low (omega (arith, columns_few ok))
                  ∙ ap (λ (x : ℕ). get_or base (years * columns + c) 0 + x) (sum_is c k (omega arith) g ∙ ap (sum (λ i. worth_of sheet of i p c)) of_com)
                  ∙ joined cs years c tried g

              ok_is : ok_by sheet of table mask ≡ fits_at P ws r mask
              unfolding ok_by
              ok_is = link.fits_is sheet of ok (joint_of table mask (union_of table mask)) (cs ++ ws) total_is

              last_is : last_by of table mask ≡ last_at P ws r mask
              unfolding last_by
              last_is = total_is (of.years - 1) (omega (arith, ok.some, ok.columns_least)) ∙ opened ∙ link.total_column P (cs ++ ws) (P.years - 1) year
                where
                  opened : column_total P (cs ++ ws) (of.years - 1) ≡ column_total P (cs ++ ws) (P.years - 1)
                  opened = unfold pot_in in refl

                  year : P.years - 1 < P.years
                  year = unfold pot_in in omega (arith, ok.some)

            of_set_com : members (combination_of list ranks mask k) of.bids ≡ cs
            of_set_com = part_members cs (combination_of list ranks mask k) part_com (λ i g. set_is k i (omega arith) g ∙ ap (memb i) of_com)

          -- ---- those kept
          few_numbers : 2 ^ k ≤ combinations
          few_numbers = pow_mono {j = widest_tie} few

          remains : (j : ℕ) → j < k → In (get_or list j 0) r
          remains j g = rw in_list at (in_listed list j k g)

          price_is : (i : ℕ) → In i r → P.price i ≡ p
          price_is i j = pl i (among i j)

          apart : (c d : ℕ) → In c r → In d r → P.draw c ≡ P.draw d → c ≡ d
          apart c d i j e =
              ok.apart c d (link.bid_lt sheet of ok c (of_pot_lem c i)) (link.bid_lt sheet of ok d (of_pot_lem d j)) (link.bid_in sheet of ok c (of_pot_lem c i))
              (link.bid_in sheet of ok d (of_pot_lem d j)) (one_price (price_is c i ∙ sym (price_is d j))) (one_draw e)
            where
              of_pot_lem : (x : ℕ) → In x r → In x P.bids
              of_pot_lem x h = part_in P x Q (among x h)

              one_price : P.price c ≡ P.price d → row_price sheet c ≡ row_price sheet d
              one_price q = unfold pot_in in q

              one_draw : P.draw c ≡ P.draw d → row_draw sheet c ≡ row_draw sheet d
              one_draw q = unfold pot_in in q

          -- one bid more
          added_is : (mask c : ℕ) → In c r → memb c (combination P r mask) ≡ false → mask + 2 ^ rank P r c < combinations
              → ok_by sheet of table (mask + 2 ^ rank P r c) ≡ fits P (c ∷ (combination P r mask ++ ws))
          added_is mask c i f low =
              ok_is (mask + 2 ^ rank P r c) low
              ∙ fits_alike P p (combination P r (mask + 2 ^ rank P r c)) (c ∷ combination P r mask) ws (with_one P r mask c (λ d j e. apart d c j i e) i f)
              (λ x j. ⊎_elim (λ e. rw e (price_is c i)) (λ h. price_is x (combination_in P x mask r h)) (in_tail j))

          rank_low : (c : ℕ) → In c r → rank P r c < widest_tie
          rank_low c i = omega (arith, rank_lt P r c i, ek, ap length of_rest)

          full_at : (mask j : ℕ) → mask < combinations → j < k → not (addable_of (ok_by sheet of table) mask (get_or ranks j 0))
              ≡ (memb (get_or list j 0) (combination P r mask) || not (fits P (get_or list j 0 ∷ (combination P r mask ++ ws))))
          unfolding addable_of
          full_at mask j h g =
              let c = get_or list j 0 in
              let i = remains j g in
              let e : memb c (combination P r mask) ≡ has mask (rank P r c) = in_com mask c i in
              rw (rank_is j g)
              (case (has mask (rank P r c)) (λ t. rw (t, e ∙ t))
              (λ f. rw (f, e ∙ f) (ap not (added_is mask c i (e ∙ f) (add_lt mask (rank P r c) widest_tie f (rank_low c i) h)))))
            where
              in_com : (mask c : ℕ) → In c r → memb c (combination P r mask) ≡ has mask (rank P r c)
              in_com mask c i = unfold combination in memb_sift (λ b. has mask (rank P r b)) c r ∙ rw (in_memb i)

          full_is : (mask n : ℕ) → mask < combinations → n ≤ k → full_to (ok_by sheet of table) ranks mask n
              ≡ all (λ c. memb c (combination P r mask) || not (fits P (c ∷ (combination P r mask ++ ws)))) (listed list n)
          unfolding full_to all listed
          full_is mask zero h g = refl
          full_is mask (suc n) h g = ap₂ ◌&&◌ (full_at mask n h g) (full_is mask n h (omega arith))

          keeps_is : (mask most : ℕ) → mask < combinations → kept_by sheet of table (tied_of sheet of s k) most mask ≡ keeps P ws r most mask
          unfolding kept_by tied_of keeps full
          keeps_is mask most h =
              ap₂ ◌&&◌ (ok_is mask h)
              (ap₂ ◌&&◌ (ap (λ (x : ℕ). eqb x most) (last_is mask h))
              (full_is mask k h (omega arith) ∙ ap (all (λ c. memb c (combination P r mask) || not (fits P (c ∷ (combination P r mask ++ ws))))) in_list))

          many : 2 ^ k ≡ 2 ^ length r
          many = ap (λ (n : ℕ). 2 ^ n) (ek ∙ ap length of_rest)

          -- the number of the best combination, and the most that there is
          top_is : top_by sheet of table k ≡ top_number P ws r
          unfolding top_by top_number
          top_is =
              best_alike (ok_by sheet of table) (fits_at P ws r) (last_by of table) (last_at P ws r) combinations (2 ^ k) few_numbers ok_is last_is
              ∙ ap (best (fits_at P ws r) (last_at P ws r)) many

          most_is : last_by of table (top_by sheet of table k) ≡ last_at P ws r (top_number P ws r)
          most_is = last_is (top_by sheet of table k) (low few_numbers) ∙ ap (last_at P ws r) top_is
            where
              low : 2 ^ k ≤ combinations → top_by sheet of table k < combinations
              low h = unfold top_by in omega (arith, best_less (ok_by sheet of table) (last_by of table) (2 ^ k) (pow_pos k))

          ways_is : ways_by sheet of table (tied_of sheet of s k) ≡ kept P ws r
          unfolding ways_by tied_of kept
          ways_is =
              ap (λ (q : ℕ). sift (kept_by sheet of table (tied_of sheet of s k) q) (below (2 ^ k))) most_is
              ∙ sift_same (kept_by sheet of table (tied_of sheet of s k) most) (keeps P ws r most) (below (2 ^ k))
              (λ m i. keeps_is m most (omega (arith, below_in m (2 ^ k) i, few_numbers)))
              ∙ ap (λ (n : ℕ). sift (keeps P ws r most) (below n)) many
            where
              most : ℕ
              most = last_at P ws r (top_number P ws r)

          -- ---- what a drawn number takes, and what it leaves
          abbrev answer : (drawn : ℕ) → Answer
          answer drawn = answer_by sheet of table (tied_of sheet of s k) drawn

          number_is : (drawn : ℕ) → (answer drawn).mask ≡ number P (number_in drawn) ws r
          unfolding answer_by tied_of number number_in
          number_is zero = top_is
          number_is (suc d) = ap (λ (x : List ℕ). at_place (d % length x) x) ways_is

          left_is : (drawn : code.Option ℕ) → number_in (one_more (left_of drawn (answer (one_more drawn)).ways)) ≡ divided (number_in (one_more drawn)) (ways_of P ws l)
          unfolding answer_by left_of number_in divided ways_of
          left_is None = refl
          left_is (Some d) = ap (λ (x : List ℕ). some (d / length x)) ways_is

          module _ (drawn : code.Option ℕ) {d : Option ℕ} (ed : d ≡ number_in (one_more drawn)) {w : Choice}
              (ew : w ≡ choice_of sheet of base (tied_of sheet of s k) p drawn) where
            abbrev mask : ℕ
            mask = (answer (one_more drawn)).mask

            number_taken : mask ≡ number P d ws r
            number_taken = number_is (one_more drawn) ∙ ap (λ (x : Option ℕ). number P x ws r) (sym ed)

            wins_are : w.wins ≡ combination_of list ranks mask k
            unfolding choice_of chosen_of answer_of tied_of
            wins_are = ap (λ (x : Choice). x.wins) ew

            pub of_choice : members w.wins of.bids ≡ choose P d ws l
            unfolding choose chosen
            of_choice = ap (λ (x : List Bool). members x of.bids) wins_are ∙ of_set_com mask ∙ ap (combination P r) number_taken

            -- the chosen bids as a set
            pub choice_at : (i : ℕ) → i < of.bids → get_or w.wins i false ≡ memb i (choose P d ws l)
            unfolding choose chosen
            choice_at i g =
                ap (λ (x : List Bool). get_or x i false) wins_are ∙ set_is mask k i (omega arith) g
                ∙ ap (memb i) (of_com mask ∙ ap (combination P r) number_taken)

            -- what is left of the drawn number
            pub number_left : number_in (one_more w.drawn) ≡ divided d (ways_of P ws l)
            unfolding choice_of chosen_of answer_of tied_of
            number_left = ap (λ (x : Choice). number_in (one_more x.drawn)) ew ∙ left_is drawn ∙ ap (λ (x : Option ℕ). divided x (ways_of P ws l)) (sym ed)

          pub chosen_among : (d : Option ℕ) (i : ℕ) → In i (choose P d ws l) → In i l
          unfolding choose chosen
          chosen_among d i j = in_com (number P d ws r) i j
