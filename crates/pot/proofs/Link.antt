-- From the arrays to the trace: what is live, what is taken, what fits; and an event that the arrays have followed. Assumes nothing.
use Prim.Native.Nat.{ℕ, ◌≤◌, ◌<◌, min}
use mathlib.Core.Path.{◌≡◌, refl, sym, ap, ◌∙◌}
use mathlib.Core.Bool.{Bool, true, false, not, ◌&&◌, ◌||◌}
use mathlib.Core.Option.{Option, some}
use Rattle.std.specs.declared.option.Option as code
use Rattle.std.specs.Prelude.{None, Some}
use mathlib.Core.List.{List, [], ◌∷◌, ◌++◌, map}
use native.Mathlib.Omega.{arith}
use native.Mathlib.Nat.{mul-le-mul_right, div-one}
use lib.ListN.{get_or}
use lib.Dec.{eqb, ltb}
use borrow.Author.Tests.{eqb-true}
use Rattle.rules.specs.Names.{most_bids, no_price, no_reason, because_won, highest_price}
use Rattle.rules.specs.Lists.{pick, memb, sift, below}
use Rattle.rules.specs.Pot.{Pot, Event, Trace, winners, seen, closed, hanging, mark, divided, goes_on, price_from, clearing, fits, live}
use Rattle.rules.specs.Pot.{least, lowest, taken}
use Rattle.laws_pot.specs.Lists.{case, clash, and_true, In, here, there, memb_in, in_memb, sift_in, sift_same, sift_both, memb_join, memb_map_join, below_in}
use Rattle.laws_pot.specs.Mono.{Lawful}
use Rattle.arrays.specs.Sets.{built, members}
use Rattle.arrays.proofs.Arrays.{eqb_sym, put_is, members_built}
use Rattle.sheet.specs.declared.Size.{Size}
use Rattle.sheet.specs.Sheet.{number_in, one_more, pot_in, Ready, in_auction, parts_at, sheet_cost, row_app, row_year, row_price}
use Rattle.totals.specs.Totals.{total_of, fits_to}
use Rattle.totals.proofs.Link as link
use Rattle.totals.proofs.Link.{Marked, column_total}
use Rattle.ties.proofs.Sums.{price_won, Part, part_all, part_sift}
use Rattle.pot.specs.declared.PotState.{PotState}
use Rattle.pot.specs.Marks.{least_or, live_of, lowest_of, at_of, win_of, win_all}
use Rattle.pot.specs.Rep.{hangs, Sizes, Rep}
use Rattle.pot.proofs.Arrays.{price_join, win_sizes, win_marks}

-- ---- an event

-- what an event does to the arrays
pub record Did (P : Pot) (e : Event) (s r : PotState) : Type 0 where
  pub sizes : Sizes r
  pub marks : (b : ℕ) → get_or r.marks b 0 ≡ pick (memb b e.wins) because_won (pick (memb b e.downs) e.why (get_or s.marks b 0))
  pub won : (a : ℕ) → a < 64 → get_or r.won a false ≡ (memb a (map P.app e.wins) || get_or s.won a false)
  pub opened : (d : ℕ) → d < 4 → get_or r.opened d false ≡ (not (memb d e.closes) && get_or s.opened d false)
  pub prices : (d : ℕ) → d < 4 → get_or r.prices d 0 ≡ price_from P (get_or s.prices d 0) e.wins d
  pub hang : e.hangs ≡ hangs r.hang
  pub drawn : number_in (one_more r.drawn) ≡ divided (number_in (one_more s.drawn)) e.ways

-- where there was nothing to choose, the drawn number stays
pub same_number : {a b : code.Option ℕ} → a ≡ b → number_in (one_more a) ≡ divided (number_in (one_more b)) 1
unfolding number_in divided
same_number {a} {b} e = ap (λ (x : code.Option ℕ). number_in (one_more x)) e ∙ undivided b
  where
    undivided : (d : code.Option ℕ) → number_in (one_more d) ≡ divided (number_in (one_more d)) 1
    undivided None = refl
    undivided (Some d) = ap some (sym (div-one d))

not_or : (a b : Bool) → not (a || b) ≡ (not a && not b)
not_or true b = refl
not_or false b = refl

-- the arrays stood for the trace, and then for the trace with the event in front: the bids turned down had not won
pub rep_did : (P : Pot) (t : Trace) (e : Event) (s r : PotState) → eqb e.why no_reason ≡ false → eqb e.why because_won ≡ false
    → ((b : ℕ) → In b e.downs → memb b (winners t) ≡ false) → ((b : ℕ) → In b e.wins → In b P.bids) → ((b : ℕ) → In b e.downs → In b P.bids)
    → Rep P t s → Did P e s r → Rep P (e ∷ t) r
unfolding mark winners seen closed hanging goes_on
rep_did P t e s r y o un wi oi R D = record {
  sizes = D.sizes;
  other = λ b h f. D.marks b ∙ rw (outside e.wins wi b f, outside e.downs oi b f) (R.other b h f);
  why = λ b i. D.marks b ∙ ap (λ (x : ℕ). pick (memb b e.wins) because_won (pick (memb b e.downs) e.why x)) (R.why b i);
  one = λ b i.
      ap (λ (x : ℕ). eqb x because_won) (D.marks b) ∙
      rw (memb_join b e.wins (winners t)) (
      case (memb b e.wins) (λ w. rw w)
      (λ w. rw w (case (memb b e.downs) (λ q. rw (q, o, un b (memb_in b e.downs q))) (λ q. rw q (R.one b i))))
      );
  fresh = λ b i.
      ap (λ (x : ℕ). eqb x no_reason) (D.marks b) ∙
      rw (memb_join b (e.wins ++ e.downs) (seen t), memb_join b e.wins e.downs) (
      case (memb b e.wins) (λ w. rw w)
      (λ w. rw w (case (memb b e.downs) (λ q. rw (q, y)) (λ q. rw q (R.fresh b i))))
      );
  has = λ a h. D.won a h ∙ rw (memb_map_join a P.app e.wins (winners t), R.has a h);
  free = λ d h. D.opened d h ∙ rw (memb_join d e.closes (closed t), R.free d h) (sym (not_or (memb d e.closes) (memb d (closed t))));
  price = λ d h. D.prices d h ∙ rw (R.price d h) (sym (price_join P no_price e.wins (winners t) d));
  hang = D.hang;
  drawn = ap (λ (x : Option ℕ). divided x e.ways) R.drawn ∙ sym D.drawn;
}
  where
    outside : (l : List ℕ) → ((b : ℕ) → In b l → In b P.bids) → (b : ℕ) → memb b P.bids ≡ false → memb b l ≡ false
    outside l h b f = case (memb b l) (λ t. clash (in_memb (h b (memb_in b l t))) f) (λ g. g)

-- ---- what is read off the arrays

-- the winners are ws: what the totals read
pub record Holds (P : Pot) (ws : List ℕ) (s : PotState) : Type 0 where
  pub marked : Marked P ws s.marks
  pub price : (d : ℕ) → d < 4 → get_or s.prices d 0 ≡ price_from P no_price ws d

pub holds_rep : {P : Pot} {t : Trace} {s : PotState} → Rep P t s → Holds P (winners t) s
holds_rep R = record { marked = record { one = R.one; other = λ b h f. ap (λ (x : ℕ). eqb x because_won) (R.other b h f) }; price = R.price }

module _ (sheet : List ℕ) (of : Size) (ok : Ready sheet of) where
  abbrev pub P : Pot
  P = pot_in sheet of

  pub bid : (i : ℕ) → i < of.bids → in_auction sheet i ≡ true → In i P.bids
  bid = link.bid sheet of ok

  pub bid_lt : (i : ℕ) → In i P.bids → i < of.bids
  bid_lt = link.bid_lt sheet of ok

  pub bid_in : (i : ℕ) → In i P.bids → in_auction sheet i ≡ true
  bid_in = link.bid_in sheet of ok

  pub small : (i : ℕ) → i < of.bids → i < most_bids
  small = link.small sheet of ok

  -- the pot's figures are lawful
  pub lawful : Lawful P
  unfolding pot_in
  lawful = record {
    pos = omega arith;
    apart = λ c d i j e f. ok.apart c d (bid_lt c i) (bid_lt d j) (bid_in c i) (bid_in d j) e f;
    mono = λ i p q y h. unfold sheet_cost parts_at in up (ltb y of.years) (mul-le-mul_right _ (mul-le-mul_right _ (omega arith)));
  }
    where
      up : (t : Bool) {x y : ℕ} → x ≤ y → pick t x 0 ≤ pick t y 0
      up true h = h
      up false h = omega arith

  -- ---- what is live, and taken
  module _ (t : Trace) (s : PotState) (R : Rep P t s) where
    pub live_is : (i : ℕ) → i < of.bids → live_of sheet s i ≡ (in_auction sheet i && live P t i)
    unfolding live_of live
    live_is i h =
        case (in_auction sheet i)
        (λ e. rw (e, R.fresh i (bid i h e), R.has (row_app sheet i) (ok.app i h), R.free (row_year sheet i) (ok.year i h)) (same i))
        (λ f. rw (f, R.other i (small i h) (link.not_bid sheet of ok i f)))
      where
        same : (i : ℕ) → (not (memb i (seen t)) && (not (memb (row_app sheet i) (map P.app (winners t))) && not (memb (row_year sheet i) (closed t))))
            ≡ (not (memb i (seen t)) && (not (memb (P.app i) (map P.app (winners t))) && not (memb (P.yr i) (closed t))))
        same i = unfold pot_in in refl

    -- the live bids
    pub live_list : sift (live_of sheet s) (below of.bids) ≡ sift (live P t) P.bids
    live_list =
        sift_same (live_of sheet s) (λ i. in_auction sheet i && live P t i) (below of.bids) (λ k i. live_is k (below_in k of.bids i))
        ∙ sym (sift_both (live P t) (in_auction sheet) (below of.bids)) ∙ opened
      where
        opened : sift (live P t) (sift (in_auction sheet) (below of.bids)) ≡ sift (live P t) P.bids
        opened = unfold pot_in in refl

    least_is : (x : ℕ) (l : List ℕ) → ((k : ℕ) → In k (x ∷ l) → row_price sheet k ≤ highest_price) → least_or sheet (x ∷ l) ≡ least P x l
    unfolding least_or least pot_in
    least_is x [] h = omega (arith, h x (here refl))
    least_is x (y ∷ l) h = ap (min (row_price sheet x)) (least_is y l (λ k i. h k (there i)))

    lowest_is : (l : List ℕ) → ((k : ℕ) → In k l → row_price sheet k ≤ highest_price) → sift (λ i. eqb (row_price sheet i) (least_or sheet l)) l ≡ lowest P l
    unfolding lowest pot_in
    lowest_is [] h = refl
    lowest_is (x ∷ l) h = ap (λ (q : ℕ). sift (λ i. eqb (row_price sheet i) q) (x ∷ l)) (least_is x l h)

    pub taken_is : {p : ℕ} {a : List Bool} → p ≡ lowest_of sheet s of.bids → a ≡ built (at_of sheet s p) of.bids → members a of.bids ≡ taken P t
    unfolding taken lowest_of at_of
    taken_is {p} {a} ep ea =
        ap (λ (l : List Bool). members l of.bids) ea
        ∙ members_built (λ i. live_of sheet s i && eqb (row_price sheet i) p) of.bids ok.few
        ∙ sym (sift_both (λ i. eqb (row_price sheet i) p) (live_of sheet s) (below of.bids))
        ∙ ap (λ (q : ℕ). sift (λ i. eqb (row_price sheet i) q) l) ep
        ∙ lowest_is l (λ k i. ok.price k (below_in k of.bids (sift_in k (live_of sheet s) (below of.bids) i).0))
        ∙ ap (lowest P) live_list
      where
        l : List ℕ
        l = sift (live_of sheet s) (below of.bids)

    -- what is taken has the lowest price, and is live
    pub taken_sound : {p : ℕ} → p ≡ lowest_of sheet s of.bids → (k : ℕ) → In k (taken P t)
        → (k < of.bids) × (live P t k ≡ true) × (row_price sheet k ≡ p) × In k P.bids
    unfolding at_of
    taken_sound {p} ep k i =
        let e : taken P t ≡ sift (at_of sheet s p) (below of.bids) = sym (taken_is {a = built (at_of sheet s p) of.bids} ep refl)
        ∙ members_built (at_of sheet s p) of.bids ok.few in
        let j : In k (sift (at_of sheet s p) (below of.bids)) = rw e at i in
        let r = sift_in k (at_of sheet s p) (below of.bids) j in
        let q = and_true (live_of sheet s k) (eqb (row_price sheet k) p) r.1 in
        let h = below_in k of.bids r.0 in
        let w = and_true (in_auction sheet k) (live P t k) (sym (live_is k h) ∙ q.0) in
        (h, w.1, eqb-true (row_price sheet k) p q.1, bid k h w.0)

  -- what is taken is a part of the pot's bids
  pub taken_part : (t : Trace) → Part P (taken P t)
  unfolding taken lowest
  taken_part t = go (sift (live P t) P.bids) (part_sift P (live P t) (part_all P))
    where
      go : (l : List ℕ) → Part P l → Part P (lowest P l)
      go [] Q = Q
      go (x ∷ l) Q = part_sift P (λ i. eqb (P.price i) (least P x l)) Q

  -- ---- what fits
  module _ (ws : List ℕ) (s : PotState) (H : Holds P ws s) where
    pub total_is : (c : ℕ) → total_of sheet of s.marks s.prices c of.bids ≡ column_total P ws c
    total_is c = link.total_at_lem sheet of ok ws s.marks s.prices H.marked (clearing P ws) same c
      where
        same : (i : ℕ) → In i P.bids → memb i ws ≡ true → get_or s.prices (row_year sheet i) 0 ≡ clearing P ws (row_year sheet i)
        same i j w = H.price (row_year sheet i) (ok.year i (bid_lt i j)) ∙ opened (price_won P no_price i ws (memb_in i ws w))
          where
            opened : price_from P no_price ws (P.yr i) ≡ clearing P ws (P.yr i) → price_from P no_price ws (row_year sheet i) ≡ clearing P ws (row_year sheet i)
            opened e = unfold pot_in in e

    pub fits_is : (f : ℕ → ℕ) → ((c : ℕ) → c < of.columns → f c ≡ total_of sheet of s.marks s.prices c of.bids)
        → fits_to f sheet of.columns ≡ fits P ws
    fits_is f e = link.fits_is sheet of ok f ws (λ c h. e c h ∙ total_is c)

  -- ---- winning
  module _ (ws : List ℕ) (s : PotState) (S : Sizes s) (p : ℕ) where
    -- bids at price p: the clearing prices
    pub win_prices : (l : List ℕ) (d : ℕ) → ((i : ℕ) → In i l → (i < of.bids) × (row_price sheet i ≡ p))
        → get_or (win_all sheet p s l).prices d 0 ≡ price_from P (get_or s.prices d 0) l d
    unfolding win_all win_of price_from pot_in
    win_prices [] d h = refl
    win_prices (i ∷ l) d h =
        put_is (win_all sheet p s l).prices (row_year sheet i) d p 0 (omega (arith, (win_sizes sheet p s S l).prices, ok.year i (h i (here refl)).0))
        ∙ rw (eqb_sym d (row_year sheet i), (h i (here refl)).1, win_prices l d (λ k j. h k (there j)))

    pub holds_win : (l : List ℕ) → ((i : ℕ) → In i l → (i < of.bids) × (row_price sheet i ≡ p) × In i P.bids) → Holds P ws s
        → Holds P (l ++ ws) (win_all sheet p s l)
    holds_win l h H = record {
      marked = record {
        one = λ k i.
            ap (λ (x : ℕ). eqb x because_won) (win_marks sheet p s S l k few)
            ∙ rw (memb_join k l ws) (case (memb k l) (λ t. rw t) (λ f. rw f (H.marked.one k i)));
        other =
            λ k j f. ap (λ (x : ℕ). eqb x because_won) (win_marks sheet p s S l k few)
            ∙ case (memb k l) (λ t. clash (in_memb (h k (memb_in k l t)).2) f) (λ g. rw g (H.marked.other k j f));
      };
      price = λ d k. win_prices l d (λ i j. ((h i j).0, (h i j).1)) ∙ rw (H.price d k) (sym (price_join P no_price l ws d));
    }
      where
        few : (i : ℕ) → In i l → i < most_bids
        few i j = small i (h i j).0
