-- Those kept: of which combinations it is known that they are not, and when one that has the greatest total is. Assumes nothing.
use Prim.Native.Nat.{ℕ, zero, suc, ◌+◌, ◌-◌, ◌%◌, ◌^◌, ◌≤◌, ◌<◌}
use mathlib.Core.Path.{◌≡◌, refl, sym, ap, ◌∙◌}
use mathlib.Core.Bool.{Bool, true, false, ◌&&◌}
use mathlib.Core.Logic.{⊎_elim}
use mathlib.Core.List.{List, [], ◌∷◌}
use native.Mathlib.Numerals.{add-one}
use native.Mathlib.Nat.{add-zero, add-suc}
use native.Mathlib.Omega.{arith}
use lib.ListN.{length, get_or, set, replicate, length-set}
use lib.Pow.{pow_mono}
use lib.Dec.{eqb, leb, ltb}
use borrow.Author.Tests.{eqb-true, eqb-false, ne_eqb, le-leb, ltb-true, ltb-false}
use Rattle.std.specs.Prelude.{Option, None, Some, MatchOption, ⊤}
use Rattle.rules.specs.Names.{widest_tie}
use Rattle.rules.specs.Lists.{sift, below}
use Rattle.rules.specs.Pot.{has, at_place}
use Rattle.laws_pot.specs.Lists.{case, clash, and_true, and_false, and_none}
use Rattle.laws_pot.specs.Bits.{has_none, add_lt}
use Rattle.laws_pot.specs.Tie.{best_is}
use Rattle.sheet.specs.declared.Size.{Size}
use Rattle.sheet.specs.Sheet.{one_more}
use Rattle.combinations.specs.declared.Tied.{Tied}
use Rattle.sheet.proofs.Columns.{columns_few}
use Rattle.combinations.specs.Combinations.{combinations, Placed, Gathered, owns_of, table_by}
use Rattle.ties.specs.declared.best.Best as declared
use Rattle.ties.specs.declared.listing.Listed.{Listed}
use Rattle.ties.specs.declared.listing.Answer.{Answer}
use Rattle.ties.specs.declared.Choice.{Choice}
use Rattle.ties.specs.Ties.{Cuttable, Based, ok_by, last_by, addable_of, full_to, kept_by, listed_of, best_of, top_by, answer_by, left_of, table_for, answer_of, chosen_of, choice_of}
use Rattle.arrays.proofs.Arrays.{put_is}
use Rattle.ties.proofs.Laws.{listed_same, addable_in, addable_out, full_stops, drawing, answer_top, answer_none, answer_place, power_low}
use Rattle.branches.specs.Branches.{Unsought, Passed, near_by}
use Rattle.search.specs.declared.kept.Aim.{Aim}
use Rattle.added.specs.declared.whole.Narrow.{Narrow}
use Rattle.added.specs.Added.{Rising, Onto, Busy, Narrows, Addable, Closes}
use Rattle.search.specs.Search.{Seeking, stretches, stretch_end, kept_before, Tallied, Stands, TooFew, place_of}
use Rattle.added.proofs.Rise.{cuttable, gains, adding}

-- numbers that are passed over are not counted
pub listed_past : (f : ℕ → Bool) (place n r : ℕ) {l : Listed} → l ≡ listed_of f place n → ((j : ℕ) → j < r → f (n + j) ≡ false) → l ≡ listed_of f place (n + r)
listed_past f place n zero e h = e ∙ ap (listed_of f place) (sym (add-zero n))
listed_past f place n (suc r) e h =
    listed_same f place (n + r) (listed_past f place n r e (λ j l. h j (omega arith))) refl (h r (omega arith)) ∙ ap (listed_of f place) one
  where
    one : n + r + 1 ≡ n + suc r
    one = omega arith

module _ (sheet : List ℕ) (of : Size) (table : List ℕ) (tied : Tied) (most : ℕ) where
  abbrev ok : ℕ → Bool
  ok = ok_by sheet of table

  abbrev tot : ℕ → ℕ
  tot = last_by of table

  abbrev kept : ℕ → Bool
  kept = kept_by sheet of table tied most

  -- one that does not fit or stays below is not kept; nor is one to which a bid can be added
  kept_past : (m : ℕ) → (ok m && leb most (tot m)) ≡ false → kept m ≡ false
  unfolding kept_by
  kept_past m e =
      case (ok m)
      (λ t. case (eqb (tot m) most) (λ q. clash (yes t (le-leb most (tot m) (omega (arith, eqb-true (tot m) most q)))) e) (λ q. rw (t, q)))
      (λ u. rw u)
    where
      yes : {a b : Bool} → a ≡ true → b ≡ true → (a && b) ≡ true
      yes p q = rw (p, q)

  kept_addable : (m j : ℕ) → j < tied.count → addable_of ok m (get_or tied.ranks j 0) ≡ true → kept m ≡ false
  unfolding kept_by
  kept_addable m j l e = rw (← (full_stops ok tied.ranks m j refl tied.count e l), and_none (eqb (tot m) most)) (and_none (ok m))

  pub kept_other : (m : ℕ) {w : ℕ} → w ≡ tot m → (w ≡ most → ⊥) → false ≡ kept m
  unfolding kept_by
  kept_other m ew n = rw (← ew, ne_eqb _ most n) (sym (and_none (ok m)))

  -- nor is any that is passed over
  unsought : Onto tied → (end m : ℕ) → end ≤ 2 ^ tied.count → Unsought ok tot most end m → kept m ≡ false
  unsought O end m r u = ⊎_elim (kept_past m) (λ v. ⊎_elim (λ n. sym (kept_other m refl n))
      (λ o.
      let b = O o.place (low o.place o.low) in
      kept_addable m b.bid b.low (opened b.is o.free o.fits)) v) u
    where
      low : (i : ℕ) → m + 2 ^ i < end → i < tied.count
      low i h = case (ltb i tied.count) (λ t. ltb-true i tied.count t)
          (λ f. absurd (omega (arith, r, h, pow_mono {i = tied.count} {j = i} (ltb-false i tied.count f))))

      opened : {p i : ℕ} → p ≡ i → has m i ≡ false → ok (m + 2 ^ i) ≡ true → addable_of ok m p ≡ true
      opened e f t = unfold addable_of in rw (e, f, t)

  pub passed_unkept : Onto tied → {mask left n : ℕ} → mask + left ≤ 2 ^ tied.count → Passed ok tot most mask left n
      → (j : ℕ) → j < n → kept (mask + j) ≡ false
  passed_unkept O {mask} {left} room P j l = unsought O (mask + left) (mask + j) room (P.none j l)

-- one that is near is kept if it is full; and any other is not
module _ (sheet : List ℕ) (of : Size) (table : List ℕ) (tied : Tied) (most m : ℕ) {b : Bool} (eb : b ≡ near_by (ok_by sheet of table) (last_by of table) most m) where
  near_most : b ≡ true → last_by of table m ≡ most
  unfolding near_by
  near_most h = eqb-true (last_by of table m) most (and_true (eqb (last_by of table m) most) (ok_by sheet of table m) (sym eb ∙ h)).0

  pub near_full : {f : Bool} → b ≡ true → f ≡ full_to (ok_by sheet of table) tied.ranks m tied.count → f ≡ kept_by sheet of table tied most m
  unfolding near_by kept_by
  near_full h ef =
      let a = and_true (eqb (last_by of table m) most) (ok_by sheet of table m) (sym eb ∙ h) in
      rw (a.0, a.1) ef

  pub near_not : b ≡ false → false ≡ kept_by sheet of table tied most m
  unfolding near_by kept_by
  near_not h =
      ⊎_elim (λ e. rw e (sym (and_none (ok_by sheet of table m)))) (λ e. rw e) (and_false (eqb (last_by of table m) most) (ok_by sheet of table m) (sym eb ∙ h))

-- one to which the bid of no binary place can be added is full
module _ (ok : ℕ → Bool) (tied : Tied) (placed : Placed tied) (m : ℕ) where
  full_all : ((place : ℕ) → place < tied.count → addable_of ok m place ≡ false) → (n : ℕ) → n ≤ tied.count → true ≡ full_to ok tied.ranks m n
  unfolding full_to
  full_all h zero l = refl
  full_all h (suc n) l = rw (h (get_or tied.ranks n 0) (placed.ranks n l)) (full_all h n (omega arith))

  pub closed_full : {r : Bool} → Onto tied → Closes ok m tied.count r → r ≡ full_to ok tied.ranks m tied.count
  closed_full {r} O c = case r (λ t. t ∙ full_all (c.0 t) tied.count (omega arith)) (λ f. f ∙ opened (c.1 f))
    where
      opened : Addable ok m tied.count → false ≡ full_to ok tied.ranks m tied.count
      opened a = let b = O a.place a.low in
          full_stops ok tied.ranks m b.bid refl tied.count (ap (addable_of ok m) b.is ∙ a.is) b.low

-- where each bid adds to the total, one that is near is full
module _ (sheet : List ℕ) (of : Size) (table : List ℕ) (tied : Tied) (aim : Aim) (S : Seeking sheet of table tied aim) (e : aim.idle ≡ None) where
  pub near_whole : (m : ℕ) {b : Bool} → m < 2 ^ tied.count → b ≡ near_by (ok_by sheet of table) (last_by of table) aim.most m → b ≡ true
      → true ≡ full_to (ok_by sheet of table) tied.ranks m tied.count
  near_whole m l eb h = full_all (ok_by sheet of table) tied S.drawing.placed m shut tied.count (omega arith)
    where
      more : (j place : ℕ) → j < tied.count → get_or tied.ranks j 0 ≡ place → has m place ≡ false → ok_by sheet of table (m + 2 ^ place) ≡ false
      more j place g q f =
          case (ok_by sheet of table (m + 2 ^ place))
          (λ t. absurd (omega (
            arith,
            near_most sheet of table tied aim.most m eb h,
            rw q at (S.gain e m j l g (ap (has m) q ∙ f)),
            S.top (m + 2 ^ place) (add_lt m place tied.count f (rw q at (S.drawing.placed.ranks j g)) l) t,
          )))
          (λ u. u)

      shut : (place : ℕ) → place < tied.count → addable_of (ok_by sheet of table) m place ≡ false
      shut place g = let b = S.onto place g in
          case (has m place) (λ t. sym (addable_in (ok_by sheet of table) m place refl t))
          (λ f. sym (addable_out (ok_by sheet of table) m place refl f refl refl) ∙ more b.bid place b.low b.is f)

-- none that fits has more than the best
top_best : (sheet : List ℕ) (of : Size) (table : List ℕ) (tied : Tied) {b : declared.Best} → Cuttable (ok_by sheet of table) (last_by of table)
    → 2 ^ tied.count ≤ combinations → b ≡ best_of (ok_by sheet of table) (last_by of table) (2 ^ tied.count)
    → (m : ℕ) → m < 2 ^ tied.count → ok_by sheet of table m ≡ true → last_by of table m ≤ b.total
top_best sheet of table tied C few eb m l t =
    rw eb (⊎_elim (λ u. omega (arith, u)) (λ u. u.0) ((best_is (ok_by sheet of table) (last_by of table) first (2 ^ tied.count)).top m l t))
  where
    first : ok_by sheet of table 0 ≡ true
    first = C.down 0 m (omega arith) (omega (arith, few)) (λ i u. clash u (has_none i)) t

-- ---- of the gathered bids
module _ (sheet : List ℕ) (of : Size) (base : List ℕ) (tied : Tied) (p : ℕ) (B : Based sheet of base) (G : Gathered of tied) (R : Rising base)
    {own table : List ℕ} (eo : own ≡ owns_of sheet of tied.bids p tied.count) (et : table ≡ table_by base own tied.ranks tied.starts tied.count) where
  pub cuts_of : Cuttable (ok_by sheet of table) (last_by of table)
  cuts_of = cuttable base own tied.ranks tied.starts tied.count R G.placed.starts et of B.ready.some B.ready.columns_least
      (columns_few B.ready) sheet

  gaining : (m j : ℕ) → Busy of own tied → m < 2 ^ tied.count → j < tied.count → has m (get_or tied.ranks j 0) ≡ false
      → last_by of table m < last_by of table (m + 2 ^ get_or tied.ranks j 0)
  gaining m j h l g f =
      gains base own tied.ranks tied.starts tied.count R G.placed.starts et of B.ready.some B.ready.columns_least (columns_few B.ready)
      m j g (h j g) f (omega (arith, l, low)) (omega (arith, add_lt m (get_or tied.ranks j 0) tied.count f (G.placed.ranks j g) l, low))
    where
      low : 2 ^ tied.count ≤ combinations
      low = power_low G.placed.few

  -- what the walk over those kept needs
  pub seeking : Onto tied → {b : declared.Best} {aim : Aim} → b ≡ best_of (ok_by sheet of table) (last_by of table) (2 ^ tied.count) → aim.most ≡ b.total
      → MatchOption aim.idle (Busy of own tied) (Narrows of table tied.count) → Seeking sheet of table tied aim
  seeking O eb em h = record {
    drawing = drawing sheet of base tied p B G eo et;
    cuts = cuts_of;
    onto = O;
    adding = adding base own tied.ranks tied.starts tied.count R G.placed.starts et;
    narrow = narrowed _ h;
    top = λ m l t. omega (arith, em, top_best sheet of table tied cuts_of (power_low G.placed.few) eb m l t);
    gain = λ e m j. gaining m j (rw e at h);
  }
    where
      narrowed : (o : Option Narrow) → MatchOption o (Busy of own tied) (Narrows of table tied.count) → MatchOption o ⊤ (Narrows of table tied.count)
      narrowed None h = tt
      narrowed (Some r) h = h

module _ (sheet : List ℕ) (of : Size) (base : List ℕ) (tied : Tied) (p : ℕ) where
  pub top_is : {own table : List ℕ} {b : declared.Best} → own ≡ owns_of sheet of tied.bids p tied.count
      → table ≡ table_by base own tied.ranks tied.starts tied.count → b ≡ best_of (ok_by sheet of table) (last_by of table) (2 ^ tied.count)
      → b.mask ≡ top_by sheet of (table_for sheet of base tied p) tied.count
  unfolding top_by
  top_is eo et eb = rw (eb, et, eo)

  -- what is chosen: without a drawn number m is not asked for
  pub choice_undrawn : {drawn : Option ℕ} {mask : ℕ} {a : Answer} {c : Choice} → drawn ≡ None → mask ≡ top_by sheet of (table_for sheet of base tied p) tied.count
      → a ≡ record { mask = mask; ways = 1 } → c ≡ chosen_of tied a drawn → c ≡ choice_of sheet of base tied p drawn
  unfolding choice_of chosen_of answer_of answer_by left_of
  choice_undrawn e em ea ec = rw (ec, ea, em, e)

  pub choice_drawn : (drawn : Option ℕ) {a : Answer} {c : Choice} → a ≡ answer_of sheet of base tied p (one_more drawn) → c ≡ chosen_of tied a drawn
      → c ≡ choice_of sheet of base tied p drawn
  unfolding choice_of
  choice_drawn drawn ea ec = rw (ec, ea)

-- ---- stretch by stretch
place_beyond : (place : ℕ) (l : List ℕ) → length l ≤ place → at_place place l ≡ 0
unfolding at_place
place_beyond place [] h = refl
place_beyond place (x ∷ l) h = rw (ne_eqb (length l) place (λ e. let no : ⊥ = omega arith in no)) (place_beyond place l (omega arith))

module _ (f : ℕ → Bool) (place n : ℕ) where
  many_more : (r : ℕ) → length (sift f (below n)) ≤ length (sift f (below (n + r)))
  many_more zero = rw (add-zero n) (omega arith)
  many_more (suc r) = rw (add-suc n r) (case (f (n + r)) (λ t. rw t (omega (arith, many_more r))) (λ u. rw u (many_more r)))

  place_stays : (r : ℕ) → place < length (sift f (below n)) → at_place place (sift f (below (n + r))) ≡ at_place place (sift f (below n))
  unfolding at_place
  place_stays zero h = rw (add-zero n)
  place_stays (suc r) h =
      rw (add-suc n r) (case (f (n + r))
      (λ t. rw (t, ne_eqb (length (sift f (below (n + r)))) place (λ e. let no : ⊥ = omega (arith, many_more r) in no)) (place_stays r h))
      (λ u. rw u (place_stays r h)))

pub stretch_start : (n : ℕ) → stretch_end n 0 ≡ 0
unfolding stretch_end
stretch_start n = omega arith

module _ (n k : ℕ) where
  pub stretch_up : (stretch_end n k ≤ stretch_end n (k + 1)) × (stretch_end n (k + 1) ≤ n)
  unfolding stretch_end
  stretch_up = (omega arith, omega arith)

pub stretch_last : (n : ℕ) → n ≤ combinations → stretch_end n stretches ≡ n
unfolding stretch_end
stretch_last n h = omega arith

-- by the code's end of the tie
pub stretch_same : (k : ℕ) {e n r : ℕ} → e ≡ n → r ≡ stretch_end e k → r ≡ stretch_end n k
stretch_same k ee er = rw ee at er

module _ (f : ℕ → Bool) (n : ℕ) where
  pub tally_none : Tallied f n 0 (replicate (stretches + 1) 0)
  unfolding kept_before
  tally_none = record { size = refl; each = λ i h. let e : i ≡ 0 = omega arith in rw (e, stretch_start n) }

  -- what is counted of one stretch more
  pub tally_more : (place k : ℕ) {out : List ℕ} {l : Listed} → Tallied f n k out → k < stretches → l ≡ listed_of f place (stretch_end n (k + 1))
      → Tallied f n (k + 1) (set out (k + 1) l.count)
  unfolding listed_of kept_before
  tally_more place k {out} {l} T h el = record {
    size = length-set out (k + 1) l.count ∙ T.size;
    each = λ i g.
        put_is out (k + 1) i l.count 0 (omega (arith, T.size))
        ∙ case (eqb i (k + 1))
        (λ t. rw t (ap (λ (x : Listed). x.count) el ∙ ap (λ (x : ℕ). kept_before f (stretch_end n x)) (sym (eqb-true i (k + 1) t))))
        (λ u. let d = eqb-false i (k + 1) u in rw u (T.each i (omega arith)));
  }

  module _ {counts : List ℕ} (T : Tallied f n stretches counts) (place : ℕ) where
    -- the first k stretches have too few
    too_few : (k : ℕ) → k ≤ stretches → ((i : ℕ) → i < k → get_or counts (i + 1) 0 ≤ place) → kept_before f (stretch_end n k) ≤ place
    too_few zero h p = unfold kept_before in rw (stretch_start n) (omega arith)
    too_few (suc i) h p = omega (arith, T.each (suc i) h, p i (omega arith), ap (λ (x : ℕ). get_or counts x 0) (add-one i))

    pub place_none : n ≤ combinations → TooFew counts place → 0 ≡ place_of f n place
    unfolding place_of
    place_none l h = sym (place_beyond place (sift f (below n)) all)
      where
        all : length (sift f (below n)) ≤ place
        all = unfold kept_before in rw (stretch_last n l) at (too_few stretches (omega arith) h)

  module _ {counts : List ℕ} (T : Tallied f n stretches counts) (place k : ℕ) (S : Stands counts place k) where
    -- the walk over it starts with what was counted before it
    pub stretch_list : ◌≡◌ {A = Listed} (record { count = get_or counts k 0; mask = 0 }) (listed_of f place (stretch_end n k))
    unfolding listed_of kept_before
    stretch_list =
        let h : k ≤ stretches = omega (arith, S.low) in
        rw (T.each k h, place_beyond place (sift f (below (stretch_end n k))) (too_few T place k h S.past))

    pub stretch_place : {l : Listed} → l ≡ listed_of f place (stretch_end n (k + 1)) → l.mask ≡ place_of f n place
    unfolding listed_of place_of
    stretch_place el =
        ap (λ (x : Listed). x.mask) el
        ∙ sym (ap (λ (x : ℕ). at_place place (sift f (below x))) whole ∙ place_stays f place (stretch_end n (k + 1)) (n - stretch_end n (k + 1)) enough)
      where
        whole : n ≡ stretch_end n (k + 1) + (n - stretch_end n (k + 1))
        whole = omega (arith, (stretch_up n k).1)

        enough : place < length (sift f (below (stretch_end n (k + 1))))
        enough = unfold kept_before in omega (arith, S.here, T.each (k + 1) (omega (arith, S.low)))

-- ---- what the search answers
module _ (sheet : List ℕ) (of : Size) (table : List ℕ) (tied : Tied) {b : declared.Best}
    (eb : b ≡ best_of (ok_by sheet of table) (last_by of table) (2 ^ tied.count)) {counts : List ℕ}
    (T : Tallied (kept_by sheet of table tied b.total) (2 ^ tied.count) stretches counts) (few : tied.count ≤ widest_tie)
    {ways : ℕ} (ew : ways ≡ get_or counts stretches 0) where
  abbrev first : Listed
  first = listed_of (kept_by sheet of table tied b.total) 0 (2 ^ tied.count)

  ways_are : ways ≡ first.count
  unfolding listed_of kept_before
  ways_are =
      ew ∙ T.each stretches (omega arith)
      ∙ ap (kept_before (kept_by sheet of table tied b.total)) (stretch_last (2 ^ tied.count) (power_low few))

  pub searched_top : {drawn : ℕ} → drawn ≡ 0 → ◌≡◌ {A = Answer} (record { mask = b.mask; ways = ways }) (answer_by sheet of table tied drawn)
  searched_top e = rw ways_are (answer_top sheet of table tied eb {first = first} refl e)

  module _ (d : ℕ) {drawn : ℕ} (ed : drawn ≡ suc d) where
    pub searched_none : ways ≡ 0 → ◌≡◌ {A = Answer} (record { mask = 0; ways = ways }) (answer_by sheet of table tied drawn)
    searched_none e = rw ways_are (answer_none sheet of table tied eb {first = first} refl d ed (sym ways_are ∙ e))

    pub searched_place : {mask : ℕ} → mask ≡ place_of (kept_by sheet of table tied b.total) (2 ^ tied.count) (d % ways)
        → ◌≡◌ {A = Answer} (record { mask = mask; ways = ways }) (answer_by sheet of table tied drawn)
    searched_place em =
        rw (em, at, ways_are)
        (answer_place sheet of table tied eb {first = first} refl d ed (d % first.count)
        {l = listed_of (kept_by sheet of table tied b.total) (d % first.count) (2 ^ tied.count)} refl refl)
      where
        at : place_of (kept_by sheet of table tied b.total) (2 ^ tied.count) (d % ways)
            ≡ (listed_of (kept_by sheet of table tied b.total) (d % ways) (2 ^ tied.count)).mask
        at = unfold place_of listed_of in refl
