-- Change request 3: "an application with a single sealed bid that won still wins if only that price is lowered, to one that no other bid in the pot
-- carries", of a pot. Assumes
-- nothing but what `Lowered` says of the two pots, and `Lawful` of the first.
use Prim.Native.Nat.{ℕ, zero, suc, ◌≤◌, ◌<◌}
use Rattle.std.specs.Prelude.{◌≡◌, Bool, true, ◌⊎◌, length, eqb}
use Rattle.std.proofs.Math.Path.{refl, sym, ap}
use Rattle.std.proofs.Common.{◌∙◌, inl}
use Rattle.std.proofs.Math.Bool.{false}
use Rattle.std.proofs.Math.Logic.{inr, ⊎_elim}
use mathlib.Core.List.{List, [], ◌∷◌, ◌++◌, append_assoc}
use native.Mathlib.Omega.{arith}
use borrow.Author.Tests.{eqb-true, eq-eqb, ne_eqb}
use Rattle.rules.specs.Lists.{pick, memb}
use Rattle.rules.specs.Pot.{Pot, Event, Trace, winners, seen, closed, hanging, value, price_from, clearing, tally, summed, total, summed_capacity, fits}
use Rattle.rules.specs.Pot.{live, taken, won, down, ended_wide, follows, alone, lost, look, run, onward, auction}
use Rattle.laws_pot.specs.Lists.{case, clash, and_true, In, here, memb_in, in_memb, in_none, in_one, in_tail, in_left, in_right, in_cases, memb_parts}
use Rattle.laws_pot.specs.Lists.{memb_join}
use Rattle.laws_pot.specs.Taken.{live_is, is_live, Lows, taken_lows}
use Rattle.laws_pot.specs.Money.{Fit, Unfit, over_budget, over_cap, fits_true, fits_false}
use Rattle.laws_pot.specs.Mono.{Lawful, Rising, value_mono}
use Rattle.laws_pot.specs.Steps.{Step, look_wide}
use Rattle.laws_pot.specs.Runs.{Inv, inv_none, live_back, won_seen, price_up, run_keeps, step_of, Went, stepped, ended, looked_next, inv_looked}
use Rattle.laws_pot.specs.Runs as r
use Rattle.laws_pot.specs.Lowered.{priced, Lowered, other, clearing_same, below_price, member, Next, the_same, b_next, next, Looks, like, hung, looks}

module _ (R : Pot) (n : ℕ) (s : Trace) where
  abbrev event : Event
  event = r.next R s

  -- a run that takes something takes one step and goes on, unless a tie too wide ended it
  run_on : (x : ℕ) → In x (taken R s) → run R (suc n) s ≡ pick event.wide (event ∷ s) (run R n (event ∷ s))
  unfolding run
  run_on x i = go (taken R s) i
    where
      go : (l : List ℕ) → In x l → onward R l s (pick event.wide (event ∷ s) (run R n (event ∷ s))) ≡ pick event.wide (event ∷ s) (run R n (event ∷ s))
      go [] j = in_none j
      go (y ∷ l) j = refl

  run_narrow : (x : ℕ) → In x (taken R s) → event.wide ≡ false → run R (suc n) s ≡ run R n (event ∷ s)
  run_narrow x i f = run_on x i ∙ ap (λ (w : Bool). pick w (event ∷ s) (run R n (event ∷ s))) f

  module _ (b : ℕ) where
    stays : In b (winners s) → In b (winners (run R n s))
    unfolding winners
    stays i = run_keeps R (λ (t : Trace). In b (winners t)) (λ t j. in_right (r.next R t).wins j) n s i

    -- who wins in the run has won before, or wins in what goes on
    goes_on_lem : (x : ℕ) → In x (taken R s) → In b (winners (run R (suc n) s)) → In b (winners s) ⊎ ((event.wide ≡ false) × In b (winners (run R n (event ∷ s))))
    goes_on_lem x i j = case event.wide (λ t. inl (before t)) (λ f. inr (f, rw (run_narrow x i f) at j))
      where
        same : winners (ended_wide R ∷ s) ≡ winners s
        same = unfold winners in refl

        before : event.wide ≡ true → In b (winners s)
        before t =
            let e = run_on x i ∙ ap (λ (w : Bool). pick w (event ∷ s) (run R n (event ∷ s))) t ∙ ap (λ (e : Event). e ∷ s) (look_wide R s (taken R s) t) in
            let k : In b (winners (ended_wide R ∷ s)) = rw e at j in
            rw same at k

module _ (P : Pot) (b : ℕ) (pr : ℕ → ℕ) (W : Lowered P b pr) (L : Lawful P) where
  abbrev Q : Pot
  Q = priced P pr

  inv_next : (s : Trace) → Inv P s → Inv P (r.next P s ∷ s)
  inv_next s I = inv_looked P L s (r.next P s) I (looked_next P L s I)

  -- ---- a trace t later than s

  record Later (s t : Trace) : Type 0 where
    inv : Inv P t
    new : List ℕ
    grown : winners t ≡ new ++ winners s
    up : (d : ℕ) → clearing P (winners s) d ≤ clearing P (winners t) d
    was_live : live P t b ≡ true → live P s b ≡ true
    won_live : In b (winners t) → In b (winners s) ⊎ (live P s b ≡ true)

  later_step : (s t : Trace) (e : Event) → Later s t → Step P t e → Inv P (e ∷ t) → Later s (e ∷ t)
  unfolding winners
  later_step s t e A S I = record {
    inv = I;
    new = e.wins ++ A.new;
    grown = ap (λ (l : List ℕ). e.wins ++ l) A.grown ∙ sym (append_assoc e.wins A.new (winners s));
    up = λ d. omega (arith, A.up d, price_up P t e A.inv S d);
    was_live = λ v. A.was_live (live_back P e t b v).0;
    won_live = λ i. ⊎_elim (λ j. inr (A.was_live (S.sound b (in_left e.downs j)).1)) (λ j. A.won_live j) (in_cases e.wins (winners t) i);
  }

  later_wide : (s t : Trace) → Later s t → Inv P (ended_wide P ∷ t) → Later s (ended_wide P ∷ t)
  unfolding winners
  later_wide s t A I = record {
    inv = I;
    new = A.new;
    grown = A.grown;
    up = A.up;
    was_live = λ v. A.was_live (live_back P (ended_wide P) t b v).0;
    won_live = A.won_live;
  }

  later_looked : (s t : Trace) (e : Event) → Later s t → Went P L t e → Inv P (e ∷ t) → Later s (e ∷ t)
  later_looked s t e A (stepped S) I = later_step s t e A S I
  later_looked s t e A (ended q) I = rw q (later_wide s t A (rw q at I))

  later : (n : ℕ) (s : Trace) → Inv P s → Later s (run P n s)
  later n s I =
      run_keeps P (Later s) (λ t A. later_looked s t (r.next P t) A (looked_next P L t A.inv) (inv_next t A.inv)) n s
      (record { inv = I; new = []; grown = refl; up = λ d. omega arith; was_live = λ v. v; won_live = λ i. inl i })

  -- ---- b fits at its new price wherever it won later at the old one

  cross : (f : ℕ → ℕ → ℕ → ℕ) → Rising f → (on more : ℕ → Bool) (at up : ℕ → ℕ) (y : ℕ) (bs : List ℕ) → ((k : ℕ) → on k ≡ true → more k ≡ true)
      → ((d : ℕ) → at d ≤ up d) → tally Q f on at y bs ≤ tally P f more up y bs
  unfolding tally
  cross f r on more at up y [] h k = omega arith
  cross f r on more at up y (v ∷ vs) h k =
      let z = cross f r on more at up y vs h k in
      case (on v) (λ t. rw (t, h v t) (omega (arith, r v (at (P.yr v)) (up (P.yr v)) y (k (P.yr v))))) (λ u. rw u (omega arith))

  b_fits : (n : ℕ) (s : Trace) → Inv P s → memb b (winners s) ≡ false → In b (winners (run P n s)) → fits Q (b ∷ winners s) ≡ true
  unfolding price_from
  b_fits n s I m i = case (fits Q (b ∷ winners s)) (λ t. t) (λ f. absurd (no_room (fits_false Q (b ∷ winners s) f)))
    where
      F : Trace
      F = run P n s

      A : Later s F
      A = later n s I

      dearer : (d : ℕ) → clearing Q (b ∷ winners s) d ≤ clearing P (winners F) d
      dearer d =
          case (eqb (P.yr b) d)
          (λ t. let e = eqb-true (P.yr b) d t in rw t (omega (arith, A.inv.paid b i, W.less, ap (clearing P (winners F)) e)))
          (λ f. rw f (omega (arith, clearing_same P b pr W (winners s) d m, A.up d)))

      stay : (k : ℕ) → memb k (b ∷ winners s) ≡ true → memb k (winners F) ≡ true
      stay k t = ⊎_elim (λ e. rw e (in_memb i)) (λ j. rw A.grown (in_memb (in_right A.new j))) (in_tail (memb_in k (b ∷ winners s) t))

      less : (f : ℕ → ℕ → ℕ → ℕ) → Rising f → (y : ℕ) → summed Q f (b ∷ winners s) y ≤ summed P f (winners F) y
      less f r y =
          cross f r (λ k. memb k (b ∷ winners s)) (λ k. memb k (winners F)) (clearing Q (b ∷ winners s)) (clearing P (winners F)) y P.bids stay dearer

      cheaper : (y : ℕ) → total Q (b ∷ winners s) y ≤ total P (winners F) y
      cheaper y = unfold value in less (value P) (value_mono P L) y

      smaller : summed_capacity Q (b ∷ winners s) ≤ summed_capacity P (winners F)
      smaller = less (λ k p y. P.capacity k) (λ k p q y l. omega arith) 0

      fit : Fit P (winners F)
      fit = fits_true P (winners F) A.inv.fit

      no_room : Unfit Q (b ∷ winners s) → ⊥
      no_room (over_budget y h l) = omega (arith, cheaper y, fit.budget y h)
      no_room (over_cap limit e l) = omega (arith, smaller, fit.cap limit e)

  -- ---- a year that hangs closes before b is looked at

  follows_is : (c : ℕ) (l : List ℕ) → follows P c l ≡ true → (d : ℕ) × (l ≡ d ∷ []) × (P.app d ≡ P.app c) × (P.yr d ≡ P.yr c)
  unfolding follows
  follows_is c [] t = clash t refl
  follows_is c (d ∷ []) t =
      let z = and_true (eqb (P.app d) (P.app c)) (eqb (P.yr d) (P.yr c)) t in
      (d, refl, eqb-true (P.app d) (P.app c) z.0, eqb-true (P.yr d) (P.yr c) z.1)
  follows_is c (d ∷ e ∷ l) t = clash t refl

  data One (s : Trace) (d : ℕ) (e : Event) : Type 0 where
    one_won : e ≡ won P s (d ∷ []) → One s d e
    one_hung : e ≡ down P d [] (P.yr d ∷ []) → follows P d (taken P (down P d [] [] ∷ s)) ≡ true → One s d e
    one_closed : e ≡ down P d (P.yr d ∷ []) [] → One s d e

  one : (s : Trace) (d : ℕ) → One s d (look P s (d ∷ []))
  unfolding look lost alone
  one s d =
      case (fits P (d ∷ winners s)) (λ t. one_won (rw t))
      (λ f. case (follows P d (taken P (down P d [] [] ∷ s))) (λ t. one_hung (rw (f, t)) t) (λ t. one_closed (rw (f, t))))

  -- in a closed year b wins no more
  too_late : (n : ℕ) (s : Trace) → Inv P s → memb (P.yr b) (closed s) ≡ true → In b (winners (run P n s)) → In b (winners s)
  too_late n s I t i = ⊎_elim (λ j. j) (λ v. clash t (live_is P s b v).opened) ((later n s I).won_live i)

  hung_taken : (c : ℕ) (s : Trace) → taken P (down P c [] (P.yr c ∷ []) ∷ s) ≡ taken P (down P c [] [] ∷ s)
  unfolding taken live winners seen closed
  hung_taken c s = refl

  -- the bid that follows c, of its application and year, wins, hangs the year again, or closes it
  after : (n : ℕ) (s : Trace) (c d : ℕ) → (P.app c ≡ P.app b → ⊥) → P.yr b ≡ P.yr c → P.app d ≡ P.app c → P.yr d ≡ P.yr c
      → let t = down P c [] (P.yr c ∷ []) ∷ s in
      ((s : Trace) (c : ℕ) → Inv P (down P c [] (P.yr c ∷ []) ∷ s) → follows P c (taken P (down P c [] [] ∷ s)) ≡ true
      → (P.app c ≡ P.app b → ⊥) → P.yr b ≡ P.yr c → In b (winners (run P n (down P c [] (P.yr c ∷ []) ∷ s))) → In b (winners s))
      → (e : Event) → Inv P (e ∷ t) → In b (winners (run P n (e ∷ t))) → One t d e → In b (winners s)
  unfolding winners closed hanging
  after n s c d a y p q ih e I k (one_won w) =
      let t = down P c [] (P.yr c ∷ []) ∷ s in
      let z : In b (winners (e ∷ t)) = too_late n (e ∷ t) I (rw (w, eq-eqb (P.yr b) (P.yr c) y)) k in
      let z' : In b (d ∷ winners s) = rw w at z in
      ⊎_elim (λ h. absurd (a (sym p ∙ ap P.app (sym h)))) (λ h. h) (in_tail z')
  after n s c d a y p q ih e I k (one_hung w g) = ih (down P c [] (P.yr c ∷ []) ∷ s) d (rw w at I) g (λ h. a (sym p ∙ h)) (y ∙ sym q) (rw w at k)
  after n s c d a y p q ih e I k (one_closed w) =
      let t = down P c [] (P.yr c ∷ []) ∷ s in
      let z : In b (winners (e ∷ t)) = too_late n (e ∷ t) I (rw (w, eq-eqb (P.yr b) (P.yr d) (y ∙ sym q))) k in
      rw w at z

  chained : (n : ℕ) (s : Trace) (c : ℕ) → Inv P (down P c [] (P.yr c ∷ []) ∷ s) → follows P c (taken P (down P c [] [] ∷ s)) ≡ true
      → (P.app c ≡ P.app b → ⊥) → P.yr b ≡ P.yr c → In b (winners (run P n (down P c [] (P.yr c ∷ []) ∷ s))) → In b (winners s)
  unfolding run winners
  chained zero s c I f a y i = i
  chained (suc n) s c I f a y i =
      ⊎_elim (λ j. j)
      (λ z. after n s c d a y q.2 q.3 (chained n) (look P t (d ∷ [])) (rw e at (inv_next t I)) (rw e at z.1) (one t d))
      (goes_on_lem P n t b d (rw e (here refl)) i)
    where
      t : Trace
      t = down P c [] (P.yr c ∷ []) ∷ s

      q : (d : ℕ) × (taken P (down P c [] [] ∷ s) ≡ d ∷ []) × (P.app d ≡ P.app c) × (P.yr d ≡ P.yr c)
      q = follows_is c (taken P (down P c [] [] ∷ s)) f

      d : ℕ
      d = q.0

      e : taken P t ≡ d ∷ []
      e = hung_taken c s ∙ q.1

  -- ---- the two runs

  b_wins : (n : ℕ) (s : Trace) → taken Q s ≡ b ∷ [] → fits Q (b ∷ winners s) ≡ true → In b (winners (run Q (suc n) s))
  unfolding run look
  b_wins n s e t = rw (e, t) (stays Q n (won Q s (b ∷ []) ∷ s) b first)
    where
      first : In b (winners (won Q s (b ∷ []) ∷ s))
      first = unfold winners in here refl

  seen_next : (s : Trace) (e : Event) → Step P s e → memb b (seen s) ≡ false → (c : ℕ) → In c P.bids
      → live P s c ≡ true → P.price c < pr b → memb b (seen (e ∷ s)) ≡ false
  unfolding seen
  seen_next s e S m c i v p = memb_join b (e.wins ++ e.downs) (seen s) ∙ rw (not_now, m)
    where
      not_now : memb b (e.wins ++ e.downs) ≡ false
      not_now =
          case (memb b (e.wins ++ e.downs))
          (λ t.
          let z = (S.sound b (memb_in b (e.wins ++ e.downs) t)).2 in
          ⊎_elim (λ j. absurd (omega (arith, (S.sound c j).2, W.less))) (λ q. absurd (omega (arith, W.less))) (S.whole c i v))
          (λ f. f)

  -- b is live where P hangs the year of another bid and Q closes it, and is what Q takes there
  live_closed : (s : Trace) (c : ℕ) → (c ≡ b → ⊥) → (P.yr b ≡ P.yr c → ⊥) → live P s b ≡ true → live P (down P c (P.yr c ∷ []) [] ∷ s) b ≡ true
  unfolding live winners seen closed
  live_closed s c n y v = rw (ne_eqb b c (λ e. n (sym e)), ne_eqb (P.yr b) (P.yr c) y) v

  live_open : (s : Trace) (c k : ℕ) → live P (down P c (P.yr c ∷ []) [] ∷ s) k ≡ true → live P (down P c [] [] ∷ s) k ≡ true
  unfolding winners seen closed
  live_open s c k t =
      let l = live_is P (down P c (P.yr c ∷ []) [] ∷ s) k t in
      is_live P (down P c [] [] ∷ s) k (record { fresh = l.fresh; free = l.free; opened = (memb_parts (P.yr k) (P.yr c ∷ []) (closed s) l.opened).1 })

  live_same : (s : Trace) (k : ℕ) → live P s k ≡ live Q s k
  unfolding live
  live_same s k = refl

  closed_takes_b : (s : Trace) (c : ℕ) → taken Q (down P c [] [] ∷ s) ≡ b ∷ [] → live P (down P c (P.yr c ∷ []) [] ∷ s) b ≡ true
      → taken Q (down P c (P.yr c ∷ []) [] ∷ s) ≡ b ∷ []
  closed_takes_b s c e v = go (next P b pr W (down P c (P.yr c ∷ []) [] ∷ s) v)
    where
      h : Lows Q (down P c [] [] ∷ s) (b ∷ [])
      h = rw e at (taken_lows Q (down P c [] [] ∷ s))

      go : Next P b pr W (down P c (P.yr c ∷ []) [] ∷ s) → taken Q (down P c (P.yr c ∷ []) [] ∷ s) ≡ b ∷ []
      go (b_next q) = q
      go (the_same d i w p q m) =
          let z = (h.sound b (here refl)).2 in
          ⊎_elim (λ j. absurd (omega (arith, ap P.price (in_one j), W.less))) (λ r. absurd (omega (arith, below_price P b pr W d)))
          (h.whole d i (sym (live_same (down P c [] [] ∷ s) d) ∙ live_open s c d w))

  -- P hangs the year of c, Q closes it since b comes next, and b wins
  hung_wins : (n : ℕ) (s : Trace) (c : ℕ) → Inv P (down P c [] (P.yr c ∷ []) ∷ s) → (c ≡ b → ⊥)
      → In c P.bids → memb b (winners s) ≡ false → live P s b ≡ true
      → follows P c (taken P (down P c [] [] ∷ s)) ≡ true → taken Q (down P c [] [] ∷ s) ≡ b ∷ []
      → In b (winners (run P n (down P c [] (P.yr c ∷ []) ∷ s))) → In b (winners (run Q n (down P c (P.yr c ∷ []) [] ∷ s)))
  unfolding run winners
  hung_wins zero s c I n ic w v f e i = i
  hung_wins (suc k) s c I n ic w v f e i =
      let y : P.yr b ≡ P.yr c → ⊥ = λ q. clash (in_memb (chained (suc k) s c I f (λ a. n (W.single c ic a)) q i)) w in
      b_wins k (down P c (P.yr c ∷ []) [] ∷ s) (closed_takes_b s c e (live_closed s c n y v)) (b_fits (suc k) (down P c [] (P.yr c ∷ []) ∷ s) I w i)

  main : (n : ℕ) (s : Trace) → Inv P s → memb b (seen s) ≡ false → In b (winners (run P n s)) → In b (winners (run Q n s))
  unfolding run
  main zero s I m i = i
  main (suc n) s I m i = go (main n) (next P b pr W s v)
    where
      w : memb b (winners s) ≡ false
      w = case (memb b (winners s)) (λ t. clash (in_memb (won_seen b s (memb_in b (winners s) t))) m) (λ f. f)

      v : live P s b ≡ true
      v = ⊎_elim (λ j. clash (in_memb j) w) (λ t. t) ((later (suc n) s I).won_live i)

      x : (k : ℕ) × In k (taken P s)
      x = (taken_lows P s).some b (member P b pr W) v

      on_goes : ((event P n s).wide ≡ false) × In b (winners (run P n (event P n s ∷ s)))
      on_goes = ⊎_elim (λ j. clash (in_memb j) w) (λ z. z) (goes_on_lem P n s b x.0 x.1 i)

      go : ((s : Trace) → Inv P s → memb b (seen s) ≡ false → In b (winners (run P n s)) → In b (winners (run Q n s)))
          → Next P b pr W s → In b (winners (run Q (suc n) s))
      go ih (b_next e) = b_wins n s e (b_fits (suc n) s I w i)
      go ih (the_same c ic vc pc e k) = on (looks P b pr W s (taken P s) (λ d j. ((taken_lows P s).sound d j).0) v w k)
        where
          q : (z : Event) → look Q s (taken P s) ≡ z → z.wide ≡ false → run Q (suc n) s ≡ run Q n (z ∷ s)
          q z h g =
              let y : event Q n s ≡ z = ap (λ (l : List ℕ). look Q s l) e ∙ h in
              run_narrow Q n s x.0 (rw e x.1) (ap (λ (u : Event). u.wide) y ∙ g) ∙ ap (λ (u : Event). run Q n (u ∷ s)) y

          on : Looks P b pr W s (taken P s) → In b (winners (run Q (suc n) s))
          on (like h) = rw (q (event P n s) h on_goes.0)
              (ih (event P n s ∷ s) (inv_next s I) (seen_next s (event P n s) (step_of P L s I on_goes.0) m c ic vc pc) on_goes.1)
          on (hung d j p h f t) = rw (q (down P d (P.yr d ∷ []) []) h refl)
              (hung_wins n s d (rw p at (inv_next s I)) (other P b pr W d (taken P s) j k) ((taken_lows P s).sound d j).0 w v f t (rw p at on_goes.1))

  -- Change request 3
  pub still_wins : In b (winners (auction P)) → In b (winners (auction Q))
  unfolding auction
  still_wins i = main (length P.bids) [] (inv_none P) nothing i
    where
      nothing : memb b (seen []) ≡ false
      nothing = unfold seen in refl
