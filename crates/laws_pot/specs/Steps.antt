-- One step of the auction as a record of facts, and that every look makes one, but for a look at a tie too wide. Assumes nothing.
use Rattle.std.specs.Prelude.{ℕ, ◌≤◌, ◌<◌, ◌≡◌, Bool, true, false, not, ◌⊎◌, length, ltb}
use Rattle.std.proofs.Math.Path.{refl, sym}
use Rattle.std.proofs.Common.{inl, inr, arith}
use Rattle.std.proofs.Math.Logic.{⊎_elim}
use mathlib.Core.List.{List, [], ◌∷◌, ◌++◌}
use Rattle.std.proofs.Math.Option.{Option}
use Rattle.rules.specs.Lists.{memb}
use Rattle.rules.specs.Names.{widest_tie}
use Rattle.laws_pot.specs.Lists.{split, case, clash, not_is_true, In, here, memb_in, in_none, in_one, in_left, in_right, in_cases, in_map, map_in}
use Rattle.laws_pot.specs.Lists.{sift_in, in_sift}
use Rattle.rules.specs.Pot.{Pot, Event, Trace, winners, hanging, clearing, fits, live, taken, won, down, follows, remaining, choose, ways_of, drawn_after}
use Rattle.rules.specs.Pot.{others, shared, ended_wide, tied, alone, lost, look}
use Rattle.laws_pot.specs.Taken.{Lows}
use Rattle.laws_pot.specs.Mono.{Lawful, fits_less, clearing_below, dearer_more}

-- What the tie rule's choice is good for, whatever number was drawn: some of those taken, which fit, and to which no other of them can be added
pub record Choice (P : Pot) : Type 0 where
  pub among : (n : Option ℕ) (ws l : List ℕ) (c : ℕ) → In c (choose P n ws l) → In c l
  pub fit : (n : Option ℕ) (ws l : List ℕ) → fits P ws ≡ true → fits P (choose P n ws l ++ ws) ≡ true
  pub most : (n : Option ℕ) (ws l : List ℕ) (q c : ℕ) → fits P ws ≡ true → ((a : ℕ) → In a l → In a P.bids × (P.price a ≡ q))
      → ((d : ℕ) → clearing P ws d ≤ q) → In c l → memb c (choose P n ws l) ≡ false
      → (fits P (c ∷ ws) ≡ false) ⊎ (fits P (c ∷ (choose P n ws l ++ ws)) ≡ false)
  -- and there is something to choose
  pub some : (ws l : List ℕ) (q : ℕ) → fits P ws ≡ true → ((a : ℕ) → In a l → In a P.bids × (P.price a ≡ q)) → ((d : ℕ) → clearing P ws d ≤ q)
      → 0 < ways_of P ws l

module _ (P : Pot) where
  -- What a step e after the trace s does
  pub record Step (s : Trace) (e : Event) : Type 0 where
    -- the bids that it looks at are all live bids at the lowest live price, and there is one where any is live
    pub low : ℕ
    pub sound : (b : ℕ) → In b (e.wins ++ e.downs) → In b P.bids × (live P s b ≡ true) × (P.price b ≡ low)
    pub whole : (c : ℕ) → In c P.bids → live P s c ≡ true → In c (e.wins ++ e.downs) ⊎ (low < P.price c)
    pub some : (c : ℕ) → In c P.bids → live P s c ≡ true → (b : ℕ) × In b (e.wins ++ e.downs)
    -- those that win fit, and none that is turned down fits with them
    pub fit : fits P (e.wins ++ winners s) ≡ true
    pub over : (c : ℕ) → In c e.downs → fits P (c ∷ (e.wins ++ winners s)) ≡ false
    -- the year of a bid that is turned down closes, or is left open for a further look; and no other year does, but for one that was left open
    pub shut : (c : ℕ) → In c e.downs → In (P.yr c) e.closes ⊎ In (P.yr c) e.hangs
    pub closed_by : (y : ℕ) → In y e.closes → In y (hanging s) ⊎ ((c : ℕ) × In c e.downs × (P.yr c ≡ y))
    pub hung_by : (y : ℕ) → In y e.hangs → (c : ℕ) × In c e.downs × (P.yr c ≡ y)
    -- it chose among one combination or more
    pub ways : 0 < e.ways

  only : {A : Type 0} (l : List ℕ) {b : ℕ} → (In b l → A) → In b (l ++ []) → A
  only l f i = ⊎_elim f (λ j. in_none j) (in_cases l [] i)

  won_step : (s : Trace) (l : List ℕ) → Lows P s l → fits P (l ++ winners s) ≡ true → Step s (won P s l)
  won_step s l h t = record {
    low = h.low;
    sound = λ b i. only l (h.sound b) i;
    whole = λ c n v. ⊎_elim (λ i. inl (in_left [] i)) (λ q. inr q) (h.whole c n v);
    some = λ c n v. let r = h.some c n v in (r.0, in_left [] r.1);
    fit = t;
    over = λ c i. in_none i;
    shut = λ c i. in_none i;
    closed_by = λ y i. inl i;
    hung_by = λ y i. in_none i;
    ways = omega arith;
  }

  -- one bid turned down alone, whose year either closes or hangs
  down_step : (s : Trace) (b : ℕ) (close hang : List ℕ) → Lows P s (b ∷ []) → fits P (winners s) ≡ true → fits P (b ∷ winners s) ≡ false
      → In (P.yr b) close ⊎ In (P.yr b) hang → ((y : ℕ) → In y close ⊎ In y hang → P.yr b ≡ y) → Step s (down P b close hang)
  down_step s b close hang h w f o k = record {
    low = h.low;
    sound = h.sound;
    whole = h.whole;
    some = h.some;
    fit = w;
    over = λ c i. rw (in_one i) f;
    shut = λ c i. rw (in_one i) o;
    closed_by = λ y i. inr (b, here refl, k y (inl i));
    hung_by = λ y i. (b, here refl, k y (inr i));
    ways = omega arith;
  }

  module _ (L : Lawful P) (C : Choice P) where
    -- several that do not fit together
    tie_step : (s : Trace) (l : List ℕ) {x : ℕ} → In x l → Lows P s l → fits P (winners s) ≡ true
        → ((w b : ℕ) → In w (winners s) → In b l → P.price w ≤ P.price b) → Step s (shared P s l)
    tie_step s l {x} first h w up =
        let n = drawn_after P s in
        let ch = choose P n (winners s) l in
        let test : ℕ → Bool = λ b. not (memb b ch) in
        let at : (a : ℕ) → In a l → In a P.bids × (P.price a ≡ h.low) = λ a j. ((h.sound a j).0, (h.sound a j).2) in
        let under : (d : ℕ) → clearing P (winners s) d ≤ h.low = λ d.
        clearing_below P h.low (winners s) d (λ v k. omega (arith, up v x k first, (h.sound x first).2)) in
        let back : (b : ℕ) → In b (ch ++ others P l ch) → In b l = λ b i.
        ⊎_elim (C.among n (winners s) l b) (λ j. (sift_in b test l j).0) (in_cases ch (others P l ch) i) in
        let on : (c : ℕ) → In c l → In c (ch ++ others P l ch) = λ c i.
        ⊎_elim (λ t. in_left (others P l ch) (memb_in c ch t)) (λ f. in_right ch (in_sift test i (rw f))) (split (memb c ch)) in
        record {
          low = h.low;
          sound = λ b i. h.sound b (back b i);
          whole = λ c n v. ⊎_elim (λ i. inl (on c i)) (λ q. inr q) (h.whole c n v);
          some = λ c n v. let r = h.some c n v in (r.0, on r.0 r.1);
          fit = C.fit n (winners s) l w;
          over = λ c i.
              let r = sift_in c test l i in
              ⊎_elim
              (λ f. fits_less P (c ∷ winners s) (c ∷ (ch ++ winners s))
              (dearer_more P L c ch (winners s) (λ a d j. clearing_below P (P.price a) (winners s) d (λ v k. up v a k (C.among n (winners s) l a j)))) f)
              (λ f. f)
              (C.most n (winners s) l h.low c w at under r.0 (not_is_true _ r.1));
          shut = λ c i. inl (in_map P.yr i);
          closed_by = λ y i. let r = map_in P.yr (others P l ch) i in inr (r.0, r.1, sym r.2);
          hung_by = λ y i. in_none i;
          ways = C.some (winners s) l h.low w at under;
        }

    tied_step : (s : Trace) (l : List ℕ) {x : ℕ} → In x l → Lows P s l → fits P (winners s) ≡ true
        → ((w b : ℕ) → In w (winners s) → In b l → P.price w ≤ P.price b) → (tied P s l).wide ≡ false → Step s (tied P s l)
    unfolding tied
    tied_step s l i h w up =
        case (ltb widest_tie (length (remaining P (winners s) l))) (λ t. rw t (λ n. clash refl n)) (λ t. rw t (λ n. tie_step s l i h w up))

    alone_step : (s : Trace) (b : ℕ) → Lows P s (b ∷ []) → fits P (winners s) ≡ true → fits P (b ∷ winners s) ≡ false → Step s (alone P s b)
    unfolding alone
    alone_step s b h w f =
        case (follows P b (taken P (down P b [] [] ∷ s)))
        (λ t. rw t (down_step s b [] (P.yr b ∷ []) h w f (inr (here refl)) (λ y i. ⊎_elim (λ j. in_none j) (λ j. sym (in_one j)) i)))
        (λ t. rw t (down_step s b (P.yr b ∷ []) [] h w f (inl (here refl)) (λ y i. ⊎_elim (λ j. sym (in_one j)) (λ j. in_none j) i)))

    lost_step : (s : Trace) (l : List ℕ) → Lows P s l → fits P (winners s) ≡ true → ((w b : ℕ) → In w (winners s) → In b l → P.price w ≤ P.price b)
        → fits P (l ++ winners s) ≡ false → (lost P s l).wide ≡ false → Step s (lost P s l)
    unfolding lost
    lost_step s [] h w up f n = clash w f
    lost_step s (b ∷ []) h w up f n = alone_step s b h w f
    lost_step s (b ∷ c ∷ l) h w up f n = tied_step s (b ∷ c ∷ l) (here refl) h w up n

    pub look_step : (s : Trace) (l : List ℕ) → Lows P s l → fits P (winners s) ≡ true → ((w b : ℕ) → In w (winners s) → In b l → P.price w ≤ P.price b)
        → (look P s l).wide ≡ false → Step s (look P s l)
    unfolding look
    look_step s l h w up = case (fits P (l ++ winners s)) (λ t. rw t (λ n. won_step s l h t)) (λ f. rw f (λ n. lost_step s l h w up f n))

  -- ---- a tie too wide

  tied_wide : (s : Trace) (l : List ℕ) → (tied P s l).wide ≡ true → tied P s l ≡ ended_wide P
  unfolding tied
  tied_wide s l = case (ltb widest_tie (length (remaining P (winners s) l))) (λ t. rw t (λ n. refl)) (λ t. rw t (λ n. clash n refl))

  alone_narrow : (s : Trace) (b : ℕ) → (alone P s b).wide ≡ false
  unfolding alone
  alone_narrow s b = case (follows P b (taken P (down P b [] [] ∷ s))) (λ t. rw t) (λ t. rw t)

  lost_wide : (s : Trace) (l : List ℕ) → (lost P s l).wide ≡ true → lost P s l ≡ ended_wide P
  unfolding lost
  lost_wide s [] t = clash t refl
  lost_wide s (b ∷ []) t = clash t (alone_narrow s b)
  lost_wide s (b ∷ c ∷ l) t = tied_wide s (b ∷ c ∷ l) t

  -- it does nothing but end the pot
  pub look_wide : (s : Trace) (l : List ℕ) → (look P s l).wide ≡ true → look P s l ≡ ended_wide P
  unfolding look
  look_wide s l = case (fits P (l ++ winners s)) (λ t. rw t (λ n. clash n refl)) (λ f. rw f (λ n. lost_wide s l n))
