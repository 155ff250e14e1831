-- The bids and the applications of a pot of an accepted file: what the pot reads of them, and that its figures are lawful. Assumes nothing.
use Rattle.std.specs.Prelude.{ℕ, ◌-◌, ◌*◌, ◌≤◌, ◌<◌, min, ◌≡◌, Bool, true, false, List, map, eqb, ltb}
use Rattle.std.proofs.Math.Path.{refl, sym, ap}
use Rattle.std.proofs.Common.{◌∙◌, arith, mul-le-mul_right}
use borrow.Author.Tests.{eqb-true, ltb-true, ltb-false, lt-ltb, le-ltb}
use Rattle.rules.specs.Names.{whole, pence_per_pound}
use Rattle.rules.specs.Lists.{pick, memb, below}
use Rattle.rules.specs.Value.{exact_parts, penny}
use Rattle.rules.specs.File.{Round, Bid, budget_at, app_at, bid_at}
use Rattle.rules.specs.Pot.{silent}
use Rattle.rules.specs.Round.{Row, blank, tech_of, cost_of, at_admin_price, mine, app_mine, row_for, assemble, cap_of, pot_of}
use Rattle.laws_pot.specs.Lists.{case, and_true, In, memb_in, in_memb, in_map, map_in, in_below, sift_in, in_sift}
use Rattle.laws_reading.specs.Reading.{Sound, app_year, bid_app, bid_year}
use Rattle.laws_reading.specs.Reading as r
use Rattle.laws_pot.specs.Mono.{Lawful}
use Rattle.laws_pot.specs.Once.{NoneTwice, often_sift, often_below}

-- the pot of an application, and of a sealed bid
abbrev pub app_pot : Round → ℕ → ℕ
app_pot R a = (tech_of R (app_at R.apps a)).pot

abbrev pub bid_pot : Round → ℕ → ℕ
bid_pot R k = app_pot R (bid_at R.bids k).app

-- ---- the bids of a pot, and its applications

module _ (R : Round) (p k : ℕ) where
  pub mine_own : k < R.b → mine R p k ≡ eqb (bid_pot R k) p
  unfolding mine
  mine_own h = rw (lt-ltb k R.b h)

  pub mine_out : R.b ≤ k → mine R p k ≡ false
  unfolding mine
  mine_out h = rw (le-ltb k R.b h)

  -- a bid of the pot is one of the file's
  pub mine_in : mine R p k ≡ true → (k < R.b) × (bid_pot R k ≡ p)
  unfolding mine
  mine_in t = let z = and_true (ltb k R.b) (eqb (bid_pot R k) p) t in (ltb-true k R.b z.0, eqb-true _ p z.1)

  pub app_mine_lem : k < R.n → app_mine R p k ≡ eqb (app_pot R k) p
  unfolding app_mine
  app_mine_lem h = rw (lt-ltb k R.n h)

  pub app_out : R.n ≤ k → app_mine R p k ≡ false
  unfolding app_mine
  app_out h = rw (le-ltb k R.n h)

  pub app_in : app_mine R p k ≡ true → (k < R.n) × (app_pot R k ≡ p)
  unfolding app_mine
  app_in t = let z = and_true (ltb k R.n) (eqb (app_pot R k) p) t in (ltb-true k R.n z.0, eqb-true _ p z.1)

-- what stands in the pot is of an application in the file and in the pot, and starts in a delivery year
pub record Mine (R : Round) (p : ℕ) (x : Bid) : Type 0 where
  pub app : x.app < R.n
  pub pot : app_pot R x.app ≡ p
  pub year : x.year < R.d

module _ (R : Round) (S : Sound R) (p k : ℕ) where
  pub mine_is : mine R p k ≡ true → Mine R p (bid_at R.bids k)
  mine_is t = let z = mine_in R p k t in record { app = bid_app R S k z.0; pot = z.1; year = bid_year R S k z.0 }

  pub app_mine_is : app_mine R p k ≡ true → Mine R p (at_admin_price R k)
  unfolding at_admin_price
  app_mine_is t = let z = app_in R p k t in record { app = z.0; pot = z.1; year = app_year R S k z.0 }

-- two applications with one draw are one
draw_one : (R : Round) → Sound R → (a e : ℕ) → a < R.n → e < R.n → (app_at R.apps a).draw ≡ (app_at R.apps e).draw → a ≡ e
draw_one R S a e h l q =
    case (ltb a e) (λ t. absurd ((S.app e l).draw a (ltb-true a e t) q))
    (λ t. case (ltb e a) (λ u. absurd ((S.app a h).draw e (ltb-true e a u) (sym q))) (λ u. omega (arith, ltb-false a e t, ltb-false e a u)))

-- ---- the costs do not fall with the price

exact_mono : (p q reference load energy tlm rqm : ℕ) → p ≤ q → exact_parts p reference load energy tlm rqm ≤ exact_parts q reference load energy tlm rqm
unfolding exact_parts
exact_mono p q reference load energy tlm rqm h =
    let d : p - reference ≤ q - reference = omega arith in
    omega (arith, mul-le-mul_right (load * energy * (whole - tlm) * rqm) d)

cost_mono : (years : List ℕ) (r : Row) (p q y : ℕ) → p ≤ q → cost_of years r p y ≤ cost_of years r q y
unfolding cost_of
cost_mono years r p q y h = exact_mono (min p r.admin) (min q r.admin) _ _ _ _ _ (omega arith)

-- ---- what the pot reads

module _ (R : Round) (p : ℕ) where
  -- the bids of its auction are the file's sealed bids of the pot
  pub bids_in_lem : (k : ℕ) → In k (pot_of R p).bids → mine R p k ≡ true
  unfolding pot_of assemble
  bids_in_lem k i = (sift_in k (mine R p) (below R.b) i).1

  pub in_bids : (k : ℕ) → mine R p k ≡ true → In k (pot_of R p).bids
  unfolding pot_of assemble
  in_bids k t = in_sift (mine R p) (in_below k R.b (mine_in R p k t).0) t

  -- and the applications of its first test are its own
  pub apps_in : (a : ℕ) → In a (pot_of R p).apps → app_mine R p a ≡ true
  unfolding pot_of assemble
  apps_in a i = (sift_in a (app_mine R p) (below R.n) i).1

  pub bids_once : NoneTwice (pot_of R p).bids
  unfolding pot_of assemble
  bids_once k = omega (arith, often_sift k (mine R p) (below R.b), often_below k R.b)

  pub penny_is : (pot_of R p).scale ≡ penny
  unfolding pot_of assemble
  penny_is = refl

  pub years_is : (pot_of R p).years ≡ R.y
  unfolding pot_of assemble
  years_is = refl

  pub budget_is : (y : ℕ) → y < R.y → (pot_of R p).budget y ≡ pence_per_pound * budget_at R.y R.c R.pots p y
  unfolding pot_of assemble
  budget_is y h = rw (lt-ltb y R.y h)

  pub cap_is : (pot_of R p).cap ≡ cap_of R p
  unfolding pot_of assemble
  cap_is = refl

  module _ (k : ℕ) (t : mine R p k ≡ true) where
    pub app_is : (pot_of R p).app k ≡ (bid_at R.bids k).app
    unfolding pot_of assemble row_for
    app_is = ap (λ (b : Bool). (pick b (row_for R (bid_at R.bids k)) blank).bid.app) t

    pub yr_is : (pot_of R p).yr k ≡ (bid_at R.bids k).year
    unfolding pot_of assemble row_for
    yr_is = ap (λ (b : Bool). (pick b (row_for R (bid_at R.bids k)) blank).bid.year) t

    pub price_is : (pot_of R p).price k ≡ (bid_at R.bids k).price
    unfolding pot_of assemble row_for
    price_is = ap (λ (b : Bool). (pick b (row_for R (bid_at R.bids k)) blank).bid.price) t

    pub draw_is : (pot_of R p).draw k ≡ (app_at R.apps (bid_at R.bids k).app).draw
    unfolding pot_of assemble row_for
    draw_is = ap (λ (b : Bool). (pick b (row_for R (bid_at R.bids k)) blank).draw) t

    pub admin_is : (pot_of R p).admin k ≡ (row_for R (bid_at R.bids k)).admin
    unfolding pot_of assemble
    admin_is = rw t

    pub capacity_is : (pot_of R p).capacity k ≡ (bid_at R.bids k).capacity
    unfolding pot_of assemble row_for
    capacity_is = ap (λ (b : Bool). (pick b (row_for R (bid_at R.bids k)) blank).bid.capacity) t

    pub cost_is : (q y : ℕ) → (pot_of R p).cost k q y ≡ cost_of R.years (row_for R (bid_at R.bids k)) q y
    unfolding pot_of assemble
    cost_is q y = rw t

  -- an application of the pot, at its administrative price
  module _ (a : ℕ) (t : app_mine R p a ≡ true) where
    pub admin_price_is : (pot_of R p).admin_price a ≡ (tech_of R (app_at R.apps a)).admin (app_at R.apps a).year
    unfolding pot_of assemble row_for at_admin_price
    admin_price_is = ap (λ (b : Bool). (pick b (row_for R (at_admin_price R a)) blank).admin) t

    pub app_capacity_is : (pot_of R p).app_capacity a ≡ (app_at R.apps a).capacity
    unfolding pot_of assemble row_for at_admin_price
    app_capacity_is = ap (λ (b : Bool). (pick b (row_for R (at_admin_price R a)) blank).bid.capacity) t

  -- "an application without a sealed bid": no bid of the file is its own
  pub silent_none : (a : ℕ) → ((k : ℕ) → k < R.b → (bid_at R.bids k).app ≡ a → ⊥) → silent (pot_of R p) a ≡ true
  unfolding silent
  silent_none a none =
      case (memb a (map (pot_of R p).app (pot_of R p).bids))
      (λ t.
      let z = map_in (pot_of R p).app (pot_of R p).bids (memb_in a _ t) in
      let m = bids_in_lem z.0 z.1 in
      absurd (none z.0 (mine_in R p z.0 m).0 (sym (app_is z.0 m) ∙ sym z.2)))
      (λ t. rw t)

  pub silent_some : (k : ℕ) → mine R p k ≡ true → silent (pot_of R p) (bid_at R.bids k).app ≡ false
  unfolding silent
  silent_some k t = rw (in_memb (rw (app_is k t) at (in_map (pot_of R p).app (in_bids k t))))

  module _ (S : Sound R) where
    -- two bids of one application differ in price
    pub differ : (c d : ℕ) → In c (pot_of R p).bids → In d (pot_of R p).bids → (pot_of R p).app c ≡ (pot_of R p).app d
        → (pot_of R p).price c ≡ (pot_of R p).price d → c ≡ d
    differ c d i j e q =
        case (ltb c d) (λ t. absurd (r.differ R S c d (ltb-true c d t) (mine_in R p d n).0 e' q'))
        (λ t. case (ltb d c) (λ u. absurd (r.differ R S d c (ltb-true d c u) (mine_in R p c m).0 (sym e') (sym q')))
        (λ u. omega (arith, ltb-false c d t, ltb-false d c u)))
      where
        m : mine R p c ≡ true
        m = bids_in_lem c i

        n : mine R p d ≡ true
        n = bids_in_lem d j

        e' : (bid_at R.bids c).app ≡ (bid_at R.bids d).app
        e' = sym (app_is c m) ∙ e ∙ app_is d n

        q' : (bid_at R.bids c).price ≡ (bid_at R.bids d).price
        q' = sym (price_is c m) ∙ q ∙ price_is d n

    -- and two at one price differ in draw
    drawn_apart : (c d : ℕ) → In c (pot_of R p).bids → In d (pot_of R p).bids → (pot_of R p).price c ≡ (pot_of R p).price d
        → (pot_of R p).draw c ≡ (pot_of R p).draw d → c ≡ d
    drawn_apart c d i j q w =
        let m = bids_in_lem c i in
        let n = bids_in_lem d j in
        let e = draw_one R S _ _ (mine_is R S p c m).app (mine_is R S p d n).app (sym (draw_is c m) ∙ w ∙ draw_is d n) in
        differ c d i j (app_is c m ∙ e ∙ sym (app_is d n)) q

    pub lawful : Lawful (pot_of R p)
    lawful = record { pos = rw penny_is (omega arith); apart = drawn_apart; mono = mono }
      where
        mono : (b p' q y : ℕ) → p' ≤ q → (pot_of R p).cost b p' y ≤ (pot_of R p).cost b q y
        mono b p' q y h = unfold pot_of assemble in cost_mono R.years _ p' q y h
