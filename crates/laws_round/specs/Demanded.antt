-- The third demand, and that pots are cleared apart, over the bytes of the file and of the result. Assumes nothing.
use Rattle.std.specs.Prelude.{ℕ, ◌<◌, ◌≡◌, ◌&&◌, List}
use Rattle.std.proofs.Common.{sym, ap₂, ◌∙◌, inl, inr, ⊎_elim, arith}
use Rattle.std.proofs.Math.Path.{ap}
use Rattle.std.proofs.Math.Dec.{eqb}
use Rattle.rules.specs.Names.{auctioned}
use Rattle.rules.specs.Lists.{below, sum}
use Rattle.rules.specs.File.{Round, round_of, deliveries, bid_at}
use Rattle.rules.specs.Pot.{total_in, reason}
use Rattle.rules.specs.Round.{row_for, cost_of, pot_of}
use Rattle.rules.specs.Result.{app_told, refused_as, clear_of}
use Rattle.rules.specs.declared.Told.{Told}
use Rattle.laws_pot.specs.Lists.{In, below_in, sift_in, sift_same}
use Rattle.laws_reading.specs.Reading.{Sound, counts}
use Rattle.laws_round.specs.Bids.{app_pot, bid_pot, mine_in, bids_in_lem}
use Rattle.laws_pot.specs.Reasons.{auctioned_is}
use Rattle.laws_pot.specs.Sums.{sum_same}
use Rattle.laws_round.specs.Third.{won_apps, cost_told, capacity_told, exact_told, summed_told, Third}
use Rattle.laws_round.specs.Met.{third}
use Rattle.laws_round.specs.Read.{outcome_at, price_at, total_at, told_at, reason_at, Carries, carries}
use Rattle.laws_round.specs.Apart.{DifferElsewhere, apart}
use Rattle.laws_round.specs.Answers.{filled}

-- a result that tells the same
module _ (R : Round) (p : ℕ) (T U : ℕ → Told) (e : (a : ℕ) → a < R.n → T a ≡ U a) where
  won_same : won_apps R p T ≡ won_apps R p U
  unfolding won_apps
  won_same = sift_same _ _ (below R.n) (λ a i. ap (λ (x : Told). eqb (app_pot R a) p && eqb x.won 1) (e a (below_in a R.n i)))

  cost_same : (y : ℕ) → exact_told R p T y ≡ exact_told R p U y
  unfolding cost_told won_apps
  cost_same y =
      sum_same _ _ (won_apps R p T)
      (λ a i. ap (λ (x : Told). cost_of R.years (row_for R (bid_at R.bids x.bid)) x.paid y)
      (e a (below_in a R.n (sift_in a (λ a. eqb (app_pot R a) p && eqb (T a).won 1) (below R.n) i).0)))
      ∙ ap (sum (cost_told R p U y)) won_same

  capacity_same : summed_told R p T ≡ summed_told R p U
  unfolding capacity_told won_apps
  capacity_same =
      sum_same _ _ (won_apps R p T)
      (λ a i. ap (λ (x : Told). (bid_at R.bids x.bid).capacity)
      (e a (below_in a R.n (sift_in a (λ a. eqb (app_pot R a) p && eqb (T a).won 1) (below R.n) i).0)))
      ∙ ap (sum (capacity_told R p U)) won_same

  bid_same : (a : ℕ) → a < R.n → (T a).bid ≡ (U a).bid
  bid_same a h = ap (λ (x : Told). x.bid) (e a h)

  won_below : (a : ℕ) → In a (won_apps R p U) → a < R.n
  unfolding won_apps
  won_below a i = below_in a R.n (sift_in a (λ a. eqb (app_pot R a) p && eqb (U a).won 1) (below R.n) i).0

  third_same : (tt uu tw uw : ℕ → ℕ) → ((y : ℕ) → y < R.y → tt y ≡ uu y) → ((k : ℕ) → In k (pot_of R p).bids → tw k ≡ uw k)
      → Third R p U uu uw → Third R p T tt tw
  third_same tt uu tw uw f g D = record {
    affordable = λ y h. rw (cost_same y) (D.affordable y h);
    not_below = λ y h. rw (cost_same y, f y h) (D.not_below y h);
    not_above = λ y h. rw (cost_same y, f y h, won_same) (D.not_above y h);
    within_cap = λ limit c. rw capacity_same (D.within_cap limit c);
    turned_down = λ k i t. D.turned_down k i (rw (g k i) at t);
    in_parts = D.in_parts;
    in_pence = D.in_pence;
    of_file = D.of_file;
    of_bid = D.of_bid;
    unlooked = λ k i t.
        ⊎_elim (λ w. inl (rw won_same w)) (λ c. inr (c.0, c.1, rw (g c.0 c.1) c.2, c.3, c.4))
        (D.unlooked k i (rw (g k i) at t));
    one_step = D.one_step;
    fate = λ k i. rw (g k i) (D.fate k i);
    winner = λ k i t.
        let w = D.winner k i (sym (g k i) ∙ t) in
        (rw won_same w.0, bid_same (bid_at R.bids k).app (won_below _ w.0) ∙ w.1);
    won_by = λ a i.
        let j : In a (won_apps R p U) = rw won_same at i in
        let w = D.won_by a j in
        rw (bid_same a (won_below a j)) (w.0, g _ w.0 ∙ w.1, w.2);
  }

module _ (R : Round) (p : ℕ) (s : List ℕ) (C : Carries R s) where
  why_is : (k : ℕ) → In k (pot_of R p).bids → reason_at R s k ≡ reason (pot_of R p) k
  why_is k i = let z = mine_in R p k (bids_in_lem R p k i) in C.bid k z.0 ∙ ap (λ (q : ℕ). reason (pot_of R q) k) z.1

  demanded : Sound R → p < R.p → outcome_at R s p ≡ auctioned → Third R p (told_at R s) (total_at R s p) (reason_at R s)
  demanded S h o =
      third_same R p (told_at R s) (app_told R) C.app (total_at R s p) (total_in (pot_of R p)) (reason_at R s) (reason (pot_of R p))
      (λ y l. C.total p y h l) why_is
      (third R p S (auctioned_is (pot_of R p) (sym (C.outcome p h) ∙ o)))

-- the result of a round that is answered with one carries what the clearing says
pub carried : (file lent : List ℕ) → refused_as (clear_of file lent).answer ≡ 0 → Carries (round_of file) (clear_of file lent).exit
carried file lent e = let F = filled file lent e in carries (round_of file) F.sound (clear_of file lent).exit F.result

-- Demand 3, over bytes
pub demand_3 : (file lent : List ℕ) → refused_as (clear_of file lent).answer ≡ 0
    → let R = round_of file in
    let s = (clear_of file lent).exit in
    (p : ℕ) → p < R.p → outcome_at R s p ≡ auctioned → Third R p (told_at R s) (total_at R s p) (reason_at R s)
demand_3 file lent e p h o = demanded (round_of file) p (clear_of file lent).exit (carried file lent e) (filled file lent e).sound h o

-- Pots are cleared apart, over bytes: the records of pot p in the two results
pub record SameRecords (p : ℕ) (f g : Round) (s t : List ℕ) : Type 0 where
  pub outcome : outcome_at f s p ≡ outcome_at g t p
  pub prices : (d : ℕ) → d < f.d → price_at f s p d ≡ price_at g t p d
  pub totals : (y : ℕ) → y < f.y → total_at f s p y ≡ total_at g t p y
  pub apps : (a : ℕ) → a < f.n → app_pot f a ≡ p → told_at f s a ≡ told_at g t a
  pub bids : (k : ℕ) → k < f.b → bid_pot f k ≡ p → reason_at f s k ≡ reason_at g t k

pub cleared_apart : (file other lent lent' : List ℕ) → refused_as (clear_of file lent).answer ≡ 0 → refused_as (clear_of other lent').answer ≡ 0
    → (p : ℕ) → p < (round_of file).p → DifferElsewhere p (round_of file) (round_of other)
    → SameRecords p (round_of file) (round_of other) (clear_of file lent).exit (clear_of other lent').exit
cleared_apart file other lent lent' e e' p h A =
    let f = round_of file in
    let g = round_of other in
    let X = carried file lent e in
    let Y = carried other lent' e' in
    let T = apart p f g (filled file lent e).sound A in
    let q : p < g.p = omega (arith, A.count_p) in
    let dd : f.d ≡ g.d = (counts file).d ∙ ap₂ deliveries A.years A.count_y ∙ sym (counts other).d in
    record {
      outcome = X.outcome p h ∙ T.outcome ∙ sym (Y.outcome p q);
      prices = λ d l. X.price p d h l ∙ T.prices d ∙ sym (Y.price p d q (omega arith));
      totals = λ y l. X.total p y h l ∙ T.totals y ∙ sym (Y.total p y q (omega (arith, A.count_y)));
      apps = λ a l m. X.app a l ∙ T.apps a l m ∙ sym (Y.app a (omega (arith, A.count_n)));
      bids = λ k l m. X.bid k l ∙ T.bids k l m ∙ sym (Y.bid k (omega (arith, A.count_b)));
    }
