-- The numbers of the result of an accepted file fit in their bytes. Assumes nothing.
use Prim.Native.Nat.{ℕ, ◌*◌, ◌≤◌, ◌<◌}
use Rattle.std.specs.Prelude.{◌≡◌, refl, true, ◌&&◌}
use Rattle.std.proofs.Common.{◌∙◌, eq-eqb}
use mathlib.Core.List.{List, [], ◌∷◌}
use native.Mathlib.Omega.{arith}
use Rattle.std.proofs.Math.Dec.{eqb}
use Rattle.rules.specs.Names.{pence_per_pound, highest_budget, highest_price, no_price, no_bid, because_silent}
use Rattle.rules.specs.Lists.{memb}
use Rattle.rules.specs.File.{Round, app_at}
use Rattle.rules.specs.Pot.{Pot, winners, auction, admin_total, admin_fits, price_in, total_in, total, paid, automatic_reason, winners_of}
use Rattle.rules.specs.Round.{tech_of, mine, app_mine, row_for, pot_of}
use Rattle.rules.specs.Result.{pot_for, told, told_in, app_told}
use Rattle.rules.specs.declared.Told.{Told}
use Rattle.laws_pot.specs.Lists.{and_true, In, here, sift_in}
use Rattle.laws_reading.specs.Reading.{Sound, admin_most, app_tech, app_year, bid_app, bid_year, bid_price}
use Rattle.laws_pot.specs.Money.{within_true, fits_true}
use Rattle.laws_pot.specs.Mono.{price_below}
use Rattle.laws_pot.specs.Runs.{inv_end}
use Rattle.laws_round.specs.Bids.{app_pot, mine_in, app_mine_lem, mine_is, bids_in_lem, years_is, budget_is, price_is, admin_is, admin_price_is, lawful}
use Rattle.laws_pot.specs.Reasons.{by_all, automatic_most}
use Rattle.laws_round.specs.Carried.{won_in}

module _ (R : Round) (S : Sound R) where
  -- an administrative price of an application in a delivery year
  admin_of_lem : (a y : ℕ) → a < R.n → y < R.d → (tech_of R (app_at R.apps a)).admin y ≤ highest_price
  admin_of_lem a y h l = admin_most R S _ y (app_tech R S a h) l

  module _ (p : ℕ) where
    abbrev P : Pot
    P = pot_of R p

    price_most : (k : ℕ) → mine R p k ≡ true → P.price k ≤ highest_price
    price_most k t =
        let h = (mine_in R p k t).0 in
        rw (price_is R p k t) (omega (arith, bid_price R S k h, admin_of_lem _ _ (bid_app R S k h) (bid_year R S k h)))

    pot_admin_most : (k : ℕ) → mine R p k ≡ true → P.admin k ≤ highest_price
    unfolding row_for
    pot_admin_most k t = let M = mine_is R S p k t in rw (admin_is R p k t) (admin_of_lem _ _ M.app M.year)

    pub price_in_most : (d : ℕ) → price_in P d ≤ no_price
    unfolding price_in
    price_in_most d =
        by_all P (λ (n : ℕ). n ≤ no_price) _ _ _ (λ t. omega arith)
        (λ t u. price_below P no_price no_price (winners (auction P)) d (omega arith) (λ w i. omega (arith, price_most w (bids_in_lem R p w (won_in R p S w i)))))
        (omega arith)

    pub total_in_most : (y : ℕ) → p < R.p → y < R.y → total_in P y ≤ pence_per_pound * highest_budget
    unfolding total_in admin_fits
    total_in_most y l h =
        let B = S.budget_most p y l h in
        by_all P (λ (n : ℕ). n ≤ pence_per_pound * highest_budget) _ _ _
        (λ t. omega (arith, budget_is R p y h, within_true P (admin_total P) P.years (and_true _ _ t).0 y (rw (years_is R p) h)))
        (λ t u. omega
        (arith, budget_is R p y h, (fits_true P (winners (auction P)) (inv_end P (lawful R p S)).fit).budget y (rw (years_is R p) h)))
        (omega arith)

  -- what is told of an application
  pub record Small (x : Told) : Type 0 where
    pub won : x.won ≤ 1
    pub bid : x.bid ≤ no_bid
    pub reason : x.reason ≤ because_silent
    pub paid : x.paid ≤ highest_price

  told_list : (P : Pot) (n : ℕ) (l : List ℕ) → n ≤ because_silent → ((w : ℕ) → In w l → (w < R.b) × (P.admin w ≤ highest_price)) → Small (told P n l)
  unfolding told paid
  told_list P n [] h c = record { won = omega arith; bid = omega arith; reason = h; paid = omega arith }
  told_list P n (w ∷ l) h c =
      let z = c w (here refl) in
      record { won = omega arith; bid = omega (arith, z.0, S.bids_few); reason = h; paid = omega (arith, z.1) }

  pub told_small : (a : ℕ) → a < R.n → Small (app_told R a)
  unfolding app_told told_in winners_of
  told_small a h =
      by_all Q Small _ _ _
      (λ t. record { won = omega arith; bid = omega arith; reason = most; paid = rw (admin_price_is R p a m) (admin_of_lem a _ h (app_year R S a h)) })
      (λ t u. told_list Q _ (winners_of Q a) most (λ w i.
      let k = bids_in_lem R p w (sift_in w (λ w. eqb (Q.app w) a && memb w (winners (auction Q))) Q.bids i).0 in
      ((mine_in R p w k).0, pot_admin_most p w k)))
      (record { won = omega arith; bid = omega arith; reason = most; paid = omega arith })
    where
      p : ℕ
      p = app_pot R a

      Q : Pot
      Q = pot_for R a

      most : automatic_reason Q a ≤ because_silent
      most = automatic_most Q a

      m : app_mine R p a ≡ true
      m = app_mine_lem R p a h ∙ eq-eqb p p refl
