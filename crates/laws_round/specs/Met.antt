-- The third demand is met by the records told of every pot that an auction cleared. Assumes nothing.
use Rattle.std.specs.Prelude.{ℕ, ◌+◌, ◌*◌, ◌≤◌, ◌≡◌}
use Rattle.std.proofs.Common.{sym, ◌∙◌, arith, inl, inr, ⊎_elim}
use Rattle.rules.specs.Names.{because_won, pence_per_pound}
use Rattle.rules.specs.Value.{penny, pound}
use Rattle.rules.specs.File.{Round, bid_at}
use Rattle.rules.specs.Pot.{Pot, winners, downs, auction, total_in, reason}
use Rattle.rules.specs.Round.{pot_of}
use Rattle.rules.specs.Result.{app_told}
use Rattle.laws_pot.specs.Lists.{clash, In, memb_in, in_memb, map_in}
use Rattle.laws_reading.specs.Reading.{Sound}
use Rattle.laws_pot.specs.Runs.{won_seen, down_seen}
use Rattle.laws_pot.specs.Demand as d
use Rattle.laws_pot.specs.Once.{seen_mine, not_both, downs_once}
use Rattle.laws_round.specs.Bids.{penny_is, years_is, budget_is, cap_is, capacity_is, bids_in_lem, bids_once, app_is, yr_is, price_is, lawful}
use Rattle.laws_pot.specs.Reasons.{TurnedDown, Auctioned, Why, wins, falls, rests, fate, won_so, fell, rested, reason_why}
use Rattle.laws_round.specs.Third.{Third}
use Rattle.laws_round.specs.Carried.{bid_mine, won_in, won_told, bid_told, winner_of, exact_told_lem, capacity_told_lem, length_told, total_told}

at_scale : (b : ℕ) {a s t : ℕ} → s ≡ t → a ≤ b * s → a ≤ b * t
at_scale b q h = rw (sym q) h

-- so many pence, each of a penny's parts, are a budget in pounds
in_pounds : (budget : ℕ) {a pence scale : ℕ} → pence ≡ pence_per_pound * budget → scale ≡ penny → a ≤ pence * scale → a ≤ budget * pound
in_pounds budget {a} p q h = let g : a ≤ pence_per_pound * budget * penny = rw (sym p, sym q) h in omega arith

both_scales : (a b n : ℕ) {s t : ℕ} → s ≡ t → a * s ≤ b + n * s → a * t ≤ b + n * t
both_scales a b n q h = rw (sym q) h

module _ (R : Round) (p : ℕ) (S : Sound R) (A : Auctioned (pot_of R p)) where
  abbrev P : Pot
  P = pot_of R p

  demand : d.Meets P (auction P)
  demand = d.demand_3 P (lawful R p S) A.not_wide

  down_in : (c : ℕ) → In c (downs (auction P)) → In c P.bids
  down_in c i = seen_mine P (lawful R p S) c (down_seen c (auction P) i)

  -- what was turned down is told so
  down_told : (c : ℕ) → In c (downs (auction P)) → TurnedDown (reason P c)
  down_told c i = go (reason_why P A c)
    where
      go : {n : ℕ} → Why P c n → TurnedDown n
      go (wins j e) = absurd (not_both c P (bids_once R p c) j i)
      go (falls j t) = t
      go (rests f t) = clash (in_memb (down_seen c (auction P) i)) f

  -- what won is told so
  won_reason : (w : ℕ) → In w (winners (auction P)) → reason P w ≡ because_won
  won_reason w i = go (reason_why P A w)
    where
      go : {n : ℕ} → Why P w n → n ≡ because_won
      go (wins j e) = e
      go (falls j t) = absurd (not_both w P (bids_once R p w) i j)
      go (rests f t) = clash (in_memb (won_seen w (auction P) i)) f

  pub third : Third R p (app_told R) (total_in P) (reason P)
  third = record {
    affordable = λ y h. rw (exact_told_lem R p S A y) (in_pounds _ (budget_is R p y h) (penny_is R p) (demand.affordable y (rw (years_is R p) h)));
    not_below = λ y l. rw (exact_told_lem R p S A y, total_told R p S A y) (at_scale _ (penny_is R p) (demand.not_below y));
    not_above = λ y l. rw (exact_told_lem R p S A y, total_told R p S A y, length_told R p S A) (both_scales _ _ _ (penny_is R p) (demand.not_above y));
    within_cap = λ limit e. rw (capacity_told_lem R p S A) (demand.within_cap limit (cap_is R p ∙ e));
    turned_down = λ k i t. demand.turned_down k (fell P k (reason P k) (reason_why P A k) t);
    in_parts = penny_is R p;
    in_pence = budget_is R p;
    of_file = cap_is R p;
    of_bid = λ k i. capacity_is R p k (bids_in_lem R p k i);
    unlooked = λ k i t.
        let n = bids_in_lem R p k i in
        ⊎_elim
        (λ h.
        let r = map_in P.app (winners (auction P)) (memb_in _ _ h) in
        let z = bid_mine R p S r.0 (won_in R p S r.0 r.1) in
        let e : (bid_at R.bids k).app ≡ (bid_at R.bids r.0).app = sym (app_is R p k n) ∙ r.2 ∙ z.1 in
        inl (rw e (won_told R p S A r.0 r.1)))
        (λ h.
        let c = h.0 in
        let j = down_in c h.1 in
        let m = bids_in_lem R p c j in
        inr (c, j, down_told c h.1, sym (yr_is R p c m) ∙ h.2 ∙ yr_is R p k n, rw (price_is R p c m, price_is R p k n) at h.3))
        (demand.unlooked k i (rested P k (reason P k) (reason_why P A k) t));
    one_step = downs_once P (bids_once R p);
    fate = λ k i. fate P k (reason P k) (reason_why P A k);
    winner = λ k i e. let w = won_so P k (reason P k) (reason_why P A k) e in (won_told R p S A k w, bid_told R p S A k w);
    won_by = λ a i.
        let z = winner_of R p S A a i in
        let w = z.0 in
        rw z.2 (won_in R p S w z.1, won_reason w z.1, z.3);
  }
