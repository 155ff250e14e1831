-- The first test, over the bytes of the file and of the result: which applications it counts, and at what. Assumes nothing.
use Rattle.std.specs.Prelude.{ℕ, ◌*◌, ◌≤◌, ◌<◌, ◌≡◌, refl, Bool, true, false, ◌↔◌, List, eqb}
use Rattle.std.proofs.Math.Path.{sym, ap}
use Rattle.std.proofs.Common.{◌∙◌, arith}
use Rattle.std.proofs.Math.Option.{some}
use Rattle.std.proofs.Math.Logic.{⊎_elim}
use Rattle.rules.specs.Names.{administrative, pence_per_pound}
use Rattle.rules.specs.Lists.{pick, sift, below, sum}
use Rattle.rules.specs.Value.{ceil_div, penny}
use Rattle.rules.specs.File.{Round, round_of, budget_at, app_at}
use Rattle.rules.specs.Pot.{Pot, at_most, within, admin_total, admin_capacity, admin_fits, outcome}
use Rattle.rules.specs.Round.{blank, cost_of, at_admin_price, app_mine, row_for, assemble, cap_of, pot_of}
use Rattle.rules.specs.Result.{refused_as, clear_of}
use Rattle.laws_pot.specs.Lists.{case, and_true, and_false, In, sift_same, below_in}
use Rattle.laws_pot.specs.Money.{within_true, within_false, at_most_lem, not_at_most}
use Rattle.laws_pot.specs.Sums.{sum_same}
use Rattle.laws_pot.specs.Reasons.{administrative_is}
use Rattle.laws_round.specs.Bids.{app_pot, app_mine_lem, apps_in, years_is, budget_is, cap_is, app_capacity_is}
use Rattle.laws_round.specs.Read.{outcome_at, Carries}
use Rattle.laws_round.specs.Demanded.{carried}

module _ (R : Round) where
  -- the value in year y, in pence, of application a's own capacity, year and days at its administrative price
  unfoldable pub admin_value : (y a : ℕ) → ℕ
  admin_value y a = let own = at_admin_price R a in ceil_div (cost_of R.years (row_for R own) own.price y) penny

  -- "all a pot's applications, at their administrative prices", and their capacity
  abbrev of_pot : (p : ℕ) → List ℕ
  of_pot p = sift (λ a. eqb (app_pot R a) p) (below R.n)

  unfoldable pub first_total : (p y : ℕ) → ℕ
  first_total p y = sum (admin_value y) (of_pot p)

  unfoldable pub first_capacity : (p : ℕ) → ℕ
  first_capacity p = sum (λ a. (app_at R.apps a).capacity) (of_pot p)

  -- ".. fit its budget in every year"; "The first test .. also check the cap" (02, CR 5)
  pub record FitsFirst (p : ℕ) : Type 0 where
    pub budget : (y : ℕ) → y < R.y → first_total p y ≤ pence_per_pound * budget_at R.y R.c R.pots p y
    pub cap : (limit : ℕ) → cap_of R p ≡ some limit → first_capacity p ≤ limit

  module _ (p : ℕ) where
    abbrev P : Pot
    P = pot_of R p

    -- what the pot reads of an application of its own
    one : (y a : ℕ) → app_mine R p a ≡ true → ceil_div ((pot_of R p).admin_cost a y) (pot_of R p).scale ≡ admin_value y a
    unfolding pot_of assemble admin_value row_for at_admin_price
    one y a t = rw t

    listed : P.apps ≡ of_pot p
    unfolding pot_of assemble
    listed = sift_same _ _ (below R.n) (λ a i. app_mine_lem R p a (below_in a R.n i))

    total_is : (y : ℕ) → admin_total P y ≡ first_total p y
    unfolding admin_total first_total
    total_is y = sum_same _ _ P.apps (λ a i. one y a (apps_in R p a i)) ∙ ap (sum (admin_value y)) listed

    capacity_is : admin_capacity P ≡ first_capacity p
    unfolding admin_capacity first_capacity
    capacity_is = sum_same _ _ P.apps (λ a i. app_capacity_is R p a (apps_in R p a i)) ∙ ap (sum (λ a. (app_at R.apps a).capacity)) listed

    fits_first : admin_fits P ≡ true → FitsFirst p
    unfolding admin_fits
    fits_first t =
        let a = and_true (within P (admin_total P) P.years) _ t in
        record {
          budget = λ y h. rw (sym (total_is y), sym (budget_is R p y h)) (within_true P (admin_total P) P.years a.0 y (rw (years_is R p) h));
          cap = λ limit e. rw (sym capacity_is) (at_most_lem P.cap (admin_capacity P) limit a.1 (cap_is R p ∙ e));
        }

    fails_first : admin_fits P ≡ false → FitsFirst p → ⊥
    unfolding admin_fits
    fails_first t F =
        ⊎_elim
        (λ f.
        let z = within_false P (admin_total P) P.years f in
        let h : z.0 < R.y = omega (arith, z.1, years_is R p) in
        omega (arith, F.budget z.0 h, z.2, total_is z.0, budget_is R p z.0 h))
        (λ f. let z = not_at_most P.cap (admin_capacity P) f in omega (arith, F.cap z.0 (sym (cap_is R p) ∙ z.1), z.2, capacity_is))
        (and_false (within P (admin_total P) P.years) _ t)

    fits_is : (admin_fits P ≡ true) ↔ FitsFirst p
    fits_is = (fits_first, λ F. case (admin_fits P) (λ t. t) (λ t. absurd (fails_first t F)))

-- "If all a pot's applications, at their administrative prices, fit its budget in every year, all win at those prices (outcome 0) .. Otherwise outcome 1", or
-- 2; "The first test .. also check the cap" (02, CR 5)
pub first_test : (file lent : List ℕ) → refused_as (clear_of file lent).answer ≡ 0
    → let R = round_of file in
    let s = (clear_of file lent).exit in
    (p : ℕ) → p < R.p → (outcome_at R s p ≡ administrative) ↔ FitsFirst R p
first_test file lent e p h =
    let R = round_of file in
    let C = carried file lent e in
    let F = fits_is R p in
    (λ o. F.0 (administrative_is (pot_of R p) (sym (C.outcome p h) ∙ o)), λ f. C.outcome p h ∙ won (pot_of R p) (F.1 f))
  where
    won : (P : Pot) → admin_fits P ≡ true → outcome P ≡ administrative
    won P t = unfold outcome in rw t
