-- The result's records carry the trace: each winner once, at the price paid, where there was an auction. Assumes nothing.
use Prim.Native.Nat.{ℕ, min}
use Rattle.std.specs.Prelude.{◌≡◌, Bool, true, false, ◌&&◌, length}
use Rattle.std.proofs.Math.Path.{refl, sym, ap}
use Rattle.std.proofs.Common.{◌∙◌, arith}
use mathlib.Core.List.{List, [], ◌∷◌}
use Rattle.std.proofs.Math.Dec.{eqb}
use borrow.Author.Tests.{eqb-true, eqb-false, eq-eqb}
use Rattle.rules.specs.Lists.{pick, memb, sift, below, sum}
use Rattle.rules.specs.Value.{exact_parts}
use Rattle.rules.specs.File.{Round, year_at, bid_at}
use Rattle.rules.specs.Pot.{Pot, winners, auction, total_in, paid, clearing, tally, exact, total, counted, summed_capacity, automatic_reason, winners_of}
use Rattle.rules.specs.Round.{mine, row_for, energy_of, cost_of, pot_of}
use Rattle.rules.specs.Result.{told, told_in, app_told}
use Rattle.rules.specs.declared.Told.{Told}
use Rattle.laws_pot.specs.Lists.{case, and_true, In, here, there, memb_in, in_memb, in_none, in_one, in_below, sift_in, in_sift, sift_both, sift_same}
use Rattle.laws_reading.specs.Reading.{Sound}
use Rattle.laws_pot.specs.Runs.{won_seen}
use Rattle.laws_pot.specs.Once.{NoneTwice, often, often_sift, seen_mine, single}
use Rattle.laws_round.specs.Bids.{app_pot, Mine, mine_is, bids_in_lem, bids_once, app_is, admin_is, capacity_is, cost_is, differ, lawful}
use Rattle.laws_pot.specs.Reasons.{Auctioned, by_auction}
use Rattle.laws_pot.specs.Sums.{sum_same, sum_ones, sum_sift, sum_parts}
use Rattle.laws_round.specs.Third.{won_apps, cost_told, capacity_told, exact_told, summed_told}

-- a list of numbers that are all equal, none twice, is empty or one number
pub data Short : List ℕ → Type 0 where
  nobody : Short []
  one : (w : ℕ) → Short (w ∷ [])

short : (l : List ℕ) → ((w v : ℕ) → In w l → In v l → w ≡ v) → NoneTwice l → Short l
unfolding often
short [] h o = nobody
short (x ∷ []) h o = one x
short (x ∷ y ∷ l) h o =
    let e = h x y (here refl) (there (here refl)) in
    absurd (omega (arith, rw (eq-eqb x x refl, eq-eqb x y e) at (o x)))

tally_is : (P : Pot) (f : ℕ → ℕ → ℕ → ℕ) (on : ℕ → Bool) (at : ℕ → ℕ) (y : ℕ) (bs : List ℕ)
    → sum (λ b. f b (at (P.yr b)) y) (sift on bs) ≡ tally P f on at y bs
unfolding sum tally
tally_is P f on at y [] = refl
tally_is P f on at y (b ∷ bs) = let h = tally_is P f on at y bs in case (on b) (λ t. rw t (omega arith)) (λ t. rw t (omega arith))

module _ (R : Round) (p : ℕ) (S : Sound R) where
  abbrev P : Pot
  P = pot_of R p

  -- the winners, as the totals count them
  abbrev pub won : List ℕ
  won = sift (λ b. memb b (winners (auction P))) P.bids

  pub won_in : (w : ℕ) → In w (winners (auction P)) → In w P.bids
  won_in w i = seen_mine P (lawful R p S) w (won_seen w (auction P) i)

  of : (a w : ℕ) → In w (winners_of P a) → In w P.bids × (P.app w ≡ a) × In w (winners (auction P))
  unfolding winners_of
  of a w i =
      let r = sift_in w (λ w. eqb (P.app w) a && memb w (winners (auction P))) P.bids i in
      let q = and_true (eqb (P.app w) a) (memb w (winners (auction P))) r.1 in
      (r.0, eqb-true _ a q.0, memb_in w (winners (auction P)) q.1)

  -- an application has one winner at the most
  pub winners_short : (a : ℕ) → Short (winners_of P a)
  unfolding winners_of
  winners_short a =
      short (winners_of P a) (λ w v i j. single P (lawful R p S) (differ R p S) w v (of a w i).2 (of a v j).2 ((of a w i).1 ∙ sym (of a v j).1))
      (λ k. omega (arith, often_sift k (λ w. eqb (P.app w) a && memb w (winners (auction P))) P.bids, bids_once R p k))

  -- those of one application
  won_of : (a : ℕ) → sift (λ w. eqb (P.app w) a) won ≡ winners_of P a
  unfolding winners_of
  won_of a =
      sift_both (λ w. eqb (P.app w) a) (λ b. memb b (winners (auction P))) P.bids
      ∙ sift_same _ _ P.bids
      (λ k i. case (memb k (winners (auction P))) (λ t. rw t (case (eqb (P.app k) a) (λ u. rw u) (λ u. rw u)))
      (λ t. rw t (case (eqb (P.app k) a) (λ u. rw u) (λ u. rw u))))

  -- a bid of the pot is of an application in the file and in the pot
  pub bid_mine : (w : ℕ) → In w P.bids → Mine R p (bid_at R.bids w) × (P.app w ≡ (bid_at R.bids w).app) × (mine R p w ≡ true)
  bid_mine w i = let m = bids_in_lem R p w i in (mine_is R S p w m, app_is R p w m, m)

  -- the price that is capped again is the same
  capped : (w : ℕ) → mine R p w ≡ true → (y : ℕ)
      → cost_of R.years (row_for R (bid_at R.bids w)) (paid P w) y ≡ P.cost w (clearing P (winners (auction P)) (P.yr w)) y
  unfolding paid cost_of
  capped w m y =
      let c = clearing P (winners (auction P)) (P.yr w) in
      let r = row_for R (bid_at R.bids w) in
      let e : min (min c (P.admin w)) r.admin ≡ min c r.admin = omega (arith, admin_is R p w m) in
      ap (λ (x : ℕ). exact_parts x (r.reference y) (r.load y) (energy_of R.years r.bid y) (year_at R.years y).tlm r.rqm) e
      ∙ sym (cost_is R p w m c y)

  -- a winner is among those of its application
  among : (w : ℕ) → In w (winners (auction P)) → In w (winners_of P (bid_at R.bids w).app)
  unfolding winners_of
  among w i = in_sift (λ v. eqb (P.app v) (bid_at R.bids w).app && memb v (winners (auction P)))
      (won_in w i) (rw (eq-eqb _ _ (bid_mine w (won_in w i)).1, in_memb i))

  module _ (A : Auctioned P) where
    -- what is told of an application of the pot
    pub told_is : (a : ℕ) → app_pot R a ≡ p → {l : List ℕ} → winners_of P a ≡ l → app_told R a ≡ told P (automatic_reason P a) l
    unfolding app_told told_in
    told_is a e q = ap (λ (q : ℕ). told_in (pot_of R q) a) e ∙ by_auction P A _ _ _ ∙ ap (told P (automatic_reason P a)) q

    -- an application's one winner is the bid told with it
    sole_told : (a w : ℕ) → app_pot R a ≡ p → winners_of P a ≡ w ∷ [] → (app_told R a).bid ≡ w
    unfolding told
    sole_told a w e q = ap (λ (x : Told). x.bid) (told_is a e q)

    -- each of the pot's winners is told once
    carried : (f F : ℕ → ℕ) → ((a w : ℕ) → mine R p w ≡ true → (app_told R a).bid ≡ w → (app_told R a).paid ≡ paid P w → f a ≡ F w)
        → sum f (won_apps R p (app_told R)) ≡ sum F won
    unfolding won_apps told sum
    carried f F h =
        sum_sift f (λ a. eqb (app_pot R a) p && eqb (app_told R a).won 1) (below R.n)
        ∙ sum_same _ _ (below R.n) (λ a i. each a ∙ ap (sum F) (sym (won_of a)))
        ∙ sym (sum_parts F P.app R.n won (λ w i. let z =
        bid_mine w (sift_in w (λ b. memb b (winners (auction P))) P.bids i).0 in omega (arith, z.0.app, z.1)))
      where
        go : (a : ℕ) → app_pot R a ≡ p → {l : List ℕ} → Short l → winners_of P a ≡ l → pick (eqb (app_told R a).won 1) (f a) 0 ≡ sum F (winners_of P a)
        go a e nobody q = let T = told_is a e q in rw (ap (λ (x : Told). x.won) T, q)
        go a e (one w) q =
            let T = told_is a e q in
            let z = bid_mine w (of a w (rw q (here refl))).0 in
            rw (ap (λ (x : Told). x.won) T, q) (omega (arith, h a w z.2 (sole_told a w e q) (ap (λ (x : Told). x.paid) T)))

        -- another pot's application has none
        other : (a : ℕ) → eqb (app_pot R a) p ≡ false → {l : List ℕ} → Short l → winners_of P a ≡ l → 0 ≡ sum F l
        other a t nobody q = refl
        other a t (one w) q =
            let i = of a w (rw q (here refl)) in
            let z = bid_mine w i.0 in
            absurd (eqb-false _ p t (ap (app_pot R) (sym i.1 ∙ z.1) ∙ z.0.pot))

        each : (a : ℕ) → pick (eqb (app_pot R a) p && eqb (app_told R a).won 1) (f a) 0 ≡ sum F (winners_of P a)
        each a =
            case (eqb (app_pot R a) p) (λ t. rw t (go a (eqb-true _ p t) (winners_short a) refl)) (λ t. rw t (other a t (winners_short a) refl))

    -- ---- what is told of the winners is what the trace has

    pub exact_told_lem : (y : ℕ) → exact_told R p (app_told R) y ≡ exact P (winners (auction P)) y
    unfolding cost_told
    exact_told_lem y =
        carried (cost_told R p (app_told R) y) (λ w. P.cost w (clearing P (winners (auction P)) (P.yr w)) y) (λ a w m b q. rw (b, q) (capped w m y))
        ∙ tally_is P P.cost (λ b. memb b (winners (auction P))) (clearing P (winners (auction P))) y P.bids

    pub capacity_told_lem : summed_told R p (app_told R) ≡ summed_capacity P (winners (auction P))
    unfolding capacity_told
    capacity_told_lem =
        carried (capacity_told R p (app_told R)) P.capacity (λ a w m b q. rw b (sym (capacity_is R p w m)))
        ∙ tally_is P (λ b p y. P.capacity b) (λ b. memb b (winners (auction P))) (clearing P (winners (auction P))) 0 P.bids

    pub length_told : length (won_apps R p (app_told R)) ≡ counted P (winners (auction P))
    length_told = sym (sum_ones (won_apps R p (app_told R))) ∙ carried (λ a. 1) (λ w. 1) (λ a w m b q. refl) ∙ sum_ones won

    pub total_told : (y : ℕ) → total_in P y ≡ total P (winners (auction P)) y
    unfolding total_in
    total_told y = by_auction P A _ _ _

    -- a winner's application is told as won
    pub won_told : (w : ℕ) → In w (winners (auction P)) → In (bid_at R.bids w).app (won_apps R p (app_told R))
    unfolding won_apps told winners_of
    won_told w i =
        in_sift (λ a. eqb (app_pot R a) p && eqb (app_told R a).won 1) (in_below (bid_at R.bids w).app R.n z.0.app)
        (rw (eq-eqb (app_pot R (bid_at R.bids w).app) p z.0.pot) (go z.0.pot (winners_short (bid_at R.bids w).app) refl))
      where
        z : Mine R p (bid_at R.bids w) × (P.app w ≡ (bid_at R.bids w).app) × (mine R p w ≡ true)
        z = bid_mine w (won_in w i)

        go : app_pot R (bid_at R.bids w).app ≡ p → {l : List ℕ} → Short l → winners_of P (bid_at R.bids w).app ≡ l
            → eqb (app_told R (bid_at R.bids w).app).won 1 ≡ true
        go q nobody e = in_none (rw e at (among w i))
        go q (one v) e = eq-eqb _ 1 (ap (λ (x : Told). x.won) (told_is (bid_at R.bids w).app q e))

    -- its bid is the one told with its application
    pub bid_told : (w : ℕ) → In w (winners (auction P)) → (app_told R (bid_at R.bids w).app).bid ≡ w
    unfolding winners_of
    bid_told w i = go (winners_short (bid_at R.bids w).app) refl
      where
        z : Mine R p (bid_at R.bids w) × (P.app w ≡ (bid_at R.bids w).app) × (mine R p w ≡ true)
        z = bid_mine w (won_in w i)

        go : {l : List ℕ} → Short l → winners_of P (bid_at R.bids w).app ≡ l → (app_told R (bid_at R.bids w).app).bid ≡ w
        go nobody e = in_none (rw e at (among w i))
        go (one v) e = sole_told (bid_at R.bids w).app v z.0.pot e ∙ sym (in_one (rw e at (among w i)))

    -- an application told as won has a winner, which is the bid told with it
    pub winner_of : (a : ℕ) → In a (won_apps R p (app_told R)) → (w : ℕ) × In w (winners (auction P)) × ((app_told R a).bid ≡ w) × ((bid_at R.bids w).app ≡ a)
    unfolding won_apps told
    winner_of a i = go (winners_short a) refl
      where
        r : In a (below R.n) × ((eqb (app_pot R a) p && eqb (app_told R a).won 1) ≡ true)
        r = sift_in a (λ a. eqb (app_pot R a) p && eqb (app_told R a).won 1) (below R.n) i

        q : (eqb (app_pot R a) p ≡ true) × (eqb (app_told R a).won 1 ≡ true)
        q = and_true (eqb (app_pot R a) p) (eqb (app_told R a).won 1) r.1

        pot : app_pot R a ≡ p
        pot = eqb-true _ p q.0

        go : {l : List ℕ} → Short l → winners_of P a ≡ l → (w : ℕ) × In w (winners (auction P)) × ((app_told R a).bid ≡ w) × ((bid_at R.bids w).app ≡ a)
        go nobody e = let z : ◌≡◌ {A = ℕ} 0 1 = sym (ap (λ (x : Told). x.won) (told_is a pot e)) ∙ eqb-true _ 1 q.1 in absurd (omega arith)
        go (one w) e = let m = of a w (rw e (here refl)) in (w, m.2, sole_told a w pot e, sym (bid_mine w m.0).1 ∙ m.1)
