-- What every step of an auction keeps, and how its run ends: no bid is live, or a tie is too wide. Assumes nothing but what is known of a pot's figures
-- (`Lawful`).
use Prim.Native.Nat.{ℕ, zero, suc, ◌+◌, ◌≤◌, ◌<◌}
use Rattle.std.specs.Prelude.{◌≡◌, true}
use Rattle.std.proofs.Math.Path.{refl}
use Rattle.std.proofs.Math.Bool.{false}
use Rattle.std.proofs.Math.Logic.{⊎_elim}
use mathlib.Core.List.{List, [], ◌∷◌, ◌++◌, map}
use native.Mathlib.Omega.{arith}
use Rattle.std.proofs.Math.ListN.{length}
use Rattle.std.proofs.Math.Dec.{leb-zero}
use Rattle.rules.specs.Lists.{memb, pick, sift}
use Rattle.laws_pot.specs.Lists.{split, case, pick_all, clash, In, here, in_memb, in_none, in_left, in_right, in_cases, memb_parts, memb_map_more}
use Rattle.laws_pot.specs.Lists.{sift_le, sift_less, in_sift, in_length}
use Rattle.rules.specs.Pot.{Pot, Event, Trace, winners, downs, seen, closed, hanging, value, clearing, tally, total, within, fits, live, taken, look, run}
use Rattle.rules.specs.Pot.{onward, auction, wide_end, ended_wide}
use Rattle.laws_pot.specs.Taken.{live_is, is_live, Dead, looked, app_won, year_closed, not_live, Lows, taken_lows}
use Rattle.laws_pot.specs.Money.{at_most_none}
use Rattle.laws_pot.specs.Mono.{Lawful, clearing_below, clearing_more, clearing_new}
use Rattle.laws_pot.specs.Steps.{Step, look_step, look_wide}
use Rattle.laws_pot.specs.Kept.{choice_of_lem}

pub won_seen : (w : ℕ) (s : Trace) → In w (winners s) → In w (seen s)
unfolding winners seen
won_seen w [] i = i
won_seen w (e ∷ s) i =
    ⊎_elim (λ j. in_left (seen s) (in_left e.downs j)) (λ j. in_right (e.wins ++ e.downs) (won_seen w s j)) (in_cases e.wins (winners s) i)

pub down_seen : (c : ℕ) (s : Trace) → In c (downs s) → In c (seen s)
unfolding downs seen
down_seen c [] i = i
down_seen c (e ∷ s) i =
    ⊎_elim (λ j. in_left (seen s) (in_right e.wins j)) (λ j. in_right (e.wins ++ e.downs) (down_seen c s j)) (in_cases e.downs (downs s) i)

module _ (P : Pot) where
  -- what the next step does
  abbrev pub next : Trace → Event
  next s = look P s (taken P s)

  -- c was turned down in a step of the trace: added to all that had won by the end of that step, it does not fit
  pub data Turned (c : ℕ) : Trace → Type 0 where
    now : {e : Event} {s : Trace} → In c e.downs → fits P (c ∷ winners (e ∷ s)) ≡ false → Turned c (e ∷ s)
    before : {e : Event} {s : Trace} → Turned c s → Turned c (e ∷ s)

  -- why a bid was not looked at
  pub data Rest (s : Trace) (k : ℕ) : Type 0 where
    has_won : memb (P.app k) (map P.app (winners s)) ≡ true → Rest s k
    cheaper : (c : ℕ) → In c (downs s) → P.yr c ≡ P.yr k → P.price c < P.price k → Rest s k
    waits : live P s k ≡ true → Rest s k

  -- What holds after each step
  pub record Inv (s : Trace) : Type 0 where
    -- the winners fit
    pub fit : fits P (winners s) ≡ true
    -- prices rise: what was looked at is cheaper than what is live
    pub up : (k j : ℕ) → In k (seen s) → In j P.bids → live P s j ≡ true → P.price k < P.price j
    -- a winner's clearing price is not below its own
    pub paid : (w : ℕ) → In w (winners s) → P.price w ≤ clearing P (winners s) (P.yr w)
    -- in a year left open for a further look a bid was turned down
    pub hang : (y : ℕ) → In y (hanging s) → (c : ℕ) × In c (downs s) × (P.yr c ≡ y)
    pub turned : (c : ℕ) → In c (downs s) → Turned c s
    pub rest : (k : ℕ) → In k P.bids → memb k (seen s) ≡ false → Rest s k

  -- ---- before the first step

  tally_none : (f : ℕ → ℕ → ℕ → ℕ) (at : ℕ → ℕ) (y : ℕ) (bs : List ℕ) → tally P f (λ b. false) at y bs ≡ 0
  unfolding tally
  tally_none f at y [] = refl
  tally_none f at y (b ∷ bs) = omega (arith, tally_none f at y bs)

  within_none : (n : ℕ) → within P (total P []) n ≡ true
  unfolding within
  within_none zero = refl
  within_none (suc n) = rw (tally_none (value P) (clearing P []) n P.bids, leb-zero, within_none n)

  fits_none : fits P [] ≡ true
  fits_none = rw (within_none P.years, tally_none (λ b p y. P.capacity b) (clearing P []) 0 P.bids, at_most_none P.cap)

  pub inv_none : Inv []
  unfolding winners downs seen hanging live closed
  inv_none = record {
    fit = fits_none;
    up = λ k j i h v. in_none i;
    paid = λ w i. in_none i;
    hang = λ y i. in_none i;
    turned = λ c i. in_none i;
    rest = λ k h f. waits refl;
  }

  -- what is live after a step was live before, and was not looked at in it
  pub live_back : (e : Event) (s : Trace) (j : ℕ) → live P (e ∷ s) j ≡ true → (live P s j ≡ true) × (memb j (e.wins ++ e.downs) ≡ false)
  unfolding winners seen closed
  live_back e s j t =
      let l = live_is P (e ∷ s) j t in
      let r = memb_parts j (e.wins ++ e.downs) (seen s) l.fresh in (
        is_live P s j (record {
          fresh = r.1;
          free = ⊎_elim (λ u. clash (memb_map_more (P.app j) P.app e.wins (winners s) u) l.free)
              (λ f. f) (split (memb (P.app j) (map P.app (winners s))));
          opened = (memb_parts (P.yr j) e.closes (closed s) l.opened).1;
        }),
        r.0,
      )

  module _ (s : Trace) (e : Event) (I : Inv s) (S : Step P s e) where
    up_step : (k j : ℕ) → In k (seen (e ∷ s)) → In j P.bids → live P (e ∷ s) j ≡ true → P.price k < P.price j
    unfolding seen
    up_step k j i h v =
        let b = live_back e s j v in
        ⊎_elim
        (λ i. ⊎_elim (λ m. clash (in_memb m) b.1) (λ q. let r = (S.sound k i).2 in omega arith) (S.whole j h b.0))
        (λ i. I.up k j i h b.0)
        (in_cases (e.wins ++ e.downs) (seen s) i)

    -- the clearing price of a year never falls
    pub price_up : (d : ℕ) → clearing P (winners s) d ≤ clearing P (winners (e ∷ s)) d
    unfolding winners
    price_up d = clearing_more P e.wins (winners s) d (λ a i.
        let z = S.sound a (in_left e.downs i) in
        clearing_below P (P.price a) (winners s) d (λ w j. let r = I.up w a (won_seen w s j) z.0 z.1 in omega arith))

    paid_step : (w : ℕ) → In w (winners (e ∷ s)) → P.price w ≤ clearing P (winners (e ∷ s)) (P.yr w)
    unfolding winners
    paid_step w i =
        ⊎_elim
        (λ j. let z = (S.sound w (in_left e.downs j)).2 in
        let r = clearing_new P S.low e.wins (winners s) w (λ a k. (S.sound a (in_left e.downs k)).2) j in omega arith)
        (λ j. omega (arith, I.paid w j, price_up (P.yr w)))
        (in_cases e.wins (winners s) i)

    turned_step : (c : ℕ) → In c (downs (e ∷ s)) → Turned c (e ∷ s)
    unfolding downs winners
    turned_step c i = ⊎_elim (λ j. now j (S.over c j)) (λ j. before (I.turned c j)) (in_cases e.downs (downs s) i)

    -- a year that closed in this step had a cheaper bid turned down
    rest_closed : (k : ℕ) → In k P.bids → live P s k ≡ true → memb k (e.wins ++ e.downs) ≡ false → In (P.yr k) e.closes → Rest (e ∷ s) k
    unfolding downs
    rest_closed k h v f i =
        ⊎_elim
        (λ j. let r = I.hang (P.yr k) j in cheaper r.0 (in_right e.downs r.1) r.2 (I.up r.0 k (down_seen r.0 s r.1) h v))
        (λ r. ⊎_elim (λ m. clash (in_memb m) f)
        (λ q. let z = (S.sound r.0 (in_right e.wins r.1)).2 in cheaper r.0 (in_left (downs s) r.1) r.2 (omega arith)) (S.whole k h v))
        (S.closed_by (P.yr k) i)

    rest_step : (k : ℕ) → In k P.bids → memb k (seen (e ∷ s)) ≡ false → Rest (e ∷ s) k
    unfolding seen winners downs closed
    rest_step k h f = go (I.rest k h r.1)
      where
        r : (memb k (e.wins ++ e.downs) ≡ false) × (memb k (seen s) ≡ false)
        r = memb_parts k (e.wins ++ e.downs) (seen s) f

        dead : live P s k ≡ true → Dead P (e ∷ s) k → Rest (e ∷ s) k
        dead v (looked i) = clash (in_memb i) f
        dead v (app_won t) = has_won t
        dead v (year_closed i) = ⊎_elim (rest_closed k h v r.0) (λ j. clash (in_memb j) (live_is P s k v).opened) (in_cases e.closes (closed s) i)

        go : Rest s k → Rest (e ∷ s) k
        go (has_won t) = has_won (memb_map_more (P.app k) P.app e.wins (winners s) t)
        go (cheaper c i q p) = cheaper c (in_right e.downs i) q p
        go (waits v) = ⊎_elim (λ t. waits t) (λ g. dead v (not_live P (e ∷ s) k g)) (split (live P (e ∷ s) k))

    pub inv_step : Inv (e ∷ s)
    unfolding winners downs hanging
    inv_step = record {
      fit = S.fit;
      up = up_step;
      paid = paid_step;
      hang = λ y i. let r = S.hung_by y i in (r.0, in_left (downs s) r.1, r.2);
      turned = turned_step;
      rest = rest_step;
    }

  -- a tie too wide changes nothing
  inv_wide : (s : Trace) → Inv s → Inv (ended_wide P ∷ s)
  unfolding winners downs seen hanging live closed
  inv_wide s I = record {
    fit = I.fit;
    up = I.up;
    paid = I.paid;
    hang = λ y i. in_none i;
    turned = λ c i. before (I.turned c i);
    rest = λ k h f. go (I.rest k h f);
  }
    where
      go : {k : ℕ} → Rest s k → Rest (ended_wide P ∷ s) k
      go (has_won t) = has_won t
      go (cheaper c i q p) = cheaper c i q p
      go (waits v) = waits v

  -- ---- the run

  -- what every look keeps
  pub run_keeps : (Q : Trace → Type 0) → ((s : Trace) → Q s → Q (next s ∷ s)) → (n : ℕ) (s : Trace) → Q s → Q (run P n s)
  unfolding run
  run_keeps Q h zero s q = q
  run_keeps Q h (suc n) s q = go (run_keeps Q h n (next s ∷ s) (h s q)) (taken P s)
    where
      go : Q (run P n (next s ∷ s)) → (l : List ℕ) → Q (onward P l s (pick (next s).wide (next s ∷ s) (run P n (next s ∷ s))))
      go ih [] = q
      go ih (x ∷ l) = pick_all Q (next s).wide (next s ∷ s) (run P n (next s ∷ s)) (λ t. h s q) (λ f. ih)

  pub auction_keeps : (Q : Trace → Type 0) → ((s : Trace) → Q s → Q (next s ∷ s)) → Q [] → Q (auction P)
  unfolding auction
  auction_keeps Q h q = run_keeps Q h (length P.bids) [] q

  -- how many bids are live
  abbrev pub lives : Trace → ℕ
  lives s = length (sift (live P s) P.bids)

  pub fewer : (s : Trace) (e : Event) → Step P s e → (c : ℕ) → In c P.bids → live P s c ≡ true → lives (e ∷ s) < lives s
  fewer s e S c h v =
      let r = S.some c h v in
      let z = S.sound r.0 r.1 in
      sift_less (live P s) (live P (e ∷ s)) (λ k t. (live_back e s k t).0) z.0 z.1
      (⊎_elim (λ t. clash (in_memb r.1) (live_back e s r.0 t).1) (λ f. f) (split (live P (e ∷ s) r.0)))

  module _ (L : Lawful P) where
    pub step_of : (s : Trace) → Inv s → (next s).wide ≡ false → Step P s (next s)
    step_of s I n =
        look_step P L (choice_of_lem P L) s (taken P s) h I.fit (λ w b i j. let z = h.sound b j in let r =
        I.up w b (won_seen w s i) z.0 z.1 in omega arith) n
      where
        h : Lows P s (taken P s)
        h = taken_lows P s

    -- how a look went: it makes a step, or meets a tie too wide
    pub data Went (s : Trace) (e : Event) : Type 0 where
      stepped : Step P s e → Went s e
      ended : e ≡ ended_wide P → Went s e

    pub looked_next : (s : Trace) → Inv s → Went s (next s)
    looked_next s I = case (next s).wide (λ t. ended (look_wide P s (taken P s) t)) (λ f. stepped (step_of s I f))

    pub inv_looked : (s : Trace) (e : Event) → Inv s → Went s e → Inv (e ∷ s)
    inv_looked s e I (stepped S) = inv_step s e I S
    inv_looked s e I (ended q) = rw q (inv_wide s I)

    -- what every step keeps, and a tie too wide as well, holds at the end
    module _ (Q : Trace → Type 0) (step : (s : Trace) (e : Event) → Inv s → Step P s e → Q s → Q (e ∷ s)) (wide : (s : Trace) → Q s → Q (ended_wide P ∷ s)) where
      abbrev Both : Trace → Type 0
      Both t = Inv t × Q t

      kept_looked : (s : Trace) (e : Event) → Inv s → Q s → Went s e → Q (e ∷ s)
      kept_looked s e I q (stepped S) = step s e I S q
      kept_looked s e I q (ended z) = rw z (wide s q)

      both_next : (s : Trace) → Both s → Both (next s ∷ s)
      both_next s b = let h = looked_next s b.0 in (inv_looked s (next s) b.0 h, kept_looked s (next s) b.0 b.1 h)

      pub holds_at_the_end : Q [] → Q (auction P)
      holds_at_the_end q = (auction_keeps Both both_next (inv_none, q)).1

    pub inv_end : Inv (auction P)
    inv_end = holds_at_the_end Inv (λ s e I S q. inv_step s e I S) inv_wide inv_none

    -- ---- the end

    abbrev NoneLive : Trace → Type 0
    NoneLive s = (c : ℕ) → In c P.bids → live P s c ≡ false

    run_ends : (n : ℕ) (s : Trace) → Inv s → lives s ≤ n → wide_end (run P n s) ≡ false → NoneLive (run P n s)
    unfolding run wide_end
    run_ends zero s I h = λ n c b. case (live P s c) (λ t. absurd (omega (arith, in_length (in_sift (live P s) b t)))) (λ f. f)
    run_ends (suc n) s I h = go (run_ends n (next s ∷ s)) (taken P s) refl
      where
        Ends : Trace → Type 0
        Ends t = wide_end t ≡ false → NoneLive t

        go : (Inv (next s ∷ s) → lives (next s ∷ s) ≤ n → Ends (run P n (next s ∷ s))) → (l : List ℕ) → taken P s ≡ l
            → Ends (onward P l s (pick (next s).wide (next s ∷ s) (run P n (next s ∷ s))))
        go ih [] e = λ n c b. case (live P s c) (λ t. in_none (rw e at ((taken_lows P s).some c b t).1)) (λ f. f)
        go ih (b ∷ l) e =
            let i : In b (taken P s) = rw e (here refl) in
            let z = (taken_lows P s).sound b i in
            pick_all Ends (next s).wide (next s ∷ s) (run P n (next s ∷ s))
            (λ t f. clash t f)
            (λ f. let S = step_of s I f in ih (inv_step s (next s) I S) (omega (arith, fewer s (next s) S b z.0 z.1)))

    -- "The pot ends when no bid is live"
    pub none_live : wide_end (auction P) ≡ false → (c : ℕ) → In c P.bids → live P (auction P) c ≡ false
    unfolding auction
    none_live = run_ends (length P.bids) [] inv_none (sift_le (live P []) P.bids)

  run_most : (n : ℕ) (s : Trace) → length (run P n s) ≤ n + length s
  unfolding run
  run_most zero s = omega arith
  run_most (suc n) s = go (run_most n (next s ∷ s)) (taken P s)
    where
      go : length (run P n (next s ∷ s)) ≤ n + length (next s ∷ s) → (l : List ℕ)
          → length (onward P l s (pick (next s).wide (next s ∷ s) (run P n (next s ∷ s)))) ≤ suc n + length s
      go ih [] = omega arith
      go ih (x ∷ l) =
          pick_all (λ (t : Trace). length t ≤ suc n + length s) (next s).wide (next s ∷ s) (run P n (next s ∷ s)) (λ t. omega arith) (λ f. omega arith)

  -- "after no more steps than it has bids"
  pub steps_most : length (auction P) ≤ length P.bids
  unfolding auction
  steps_most = let h = run_most (length P.bids) [] in omega arith
