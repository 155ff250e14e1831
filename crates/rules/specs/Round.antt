-- The pots of a round file. Assumes nothing.
use Rattle.std.specs.Prelude.{ℕ, ◌*◌, min, Bool, ◌&&◌, List, eqb, ltb}
use Rattle.std.proofs.Math.Option.{Option, none, some}
use Rattle.rules.specs.Lists.{pick, sift, below}
use Rattle.rules.specs.Names.{pence_per_pound, no_cap, cap_width}
use Rattle.rules.specs.Value.{exact_parts, hours_of, penny}
use Rattle.rules.specs.File.{Round, Tech, App, Bid, year_at, budget_at, cap_at, drawn_at, tech_at, app_at, bid_at}
use Rattle.rules.specs.Pot.{Pot}

-- what the clearing reads of one bid, or of an application at its administrative price: its own fields, the draw of its application, and the figures of its
-- technology in the years of the file
pub record Row : Type 0 where
  pub bid : Bid
  pub draw : ℕ
  pub admin : ℕ
  pub rqm : ℕ
  pub reference : ℕ → ℕ
  pub load : ℕ → ℕ

-- another pot's row is blank: nothing of it can be read, so that pots are cleared apart by definition
abbrev pub blank : Row
blank = record { bid = record { app = 0; year = 0; days = 0; capacity = 0; price = 0 }; draw = 0; admin = 0; rqm = 0; reference = λ y. 0; load = λ y. 0 }

-- "hours × capacity" of a bid in year y, the years' records being these
unfoldable pub energy_of : (years : List ℕ) → Bid → (y : ℕ) → ℕ
energy_of years b y = hours_of y b.year b.days (year_at years y).days * b.capacity

-- "The price is the clearing price of d, capped at the technology's administrative price of d, and the same in every year": the exact cost in year y
unfoldable pub cost_of : (years : List ℕ) → Row → (price y : ℕ) → ℕ
cost_of years r price y = exact_parts (min price r.admin) (r.reference y) (r.load y) (energy_of years r.bid y) (year_at years y).tlm r.rqm

-- a pot of y years from the numbers of its bids and of its applications, their rows, its budgets in pence, its cap and its drawn number
unfoldable pub assemble : (years : List ℕ) (y : ℕ) (bids apps : List ℕ) → (row admin_row : ℕ → Row) → (budget : ℕ → ℕ) → (cap drawn : Option ℕ) → Pot
assemble years y bids apps row admin_row budget cap drawn = record {
  bids = bids;
  apps = apps;
  years = y;
  scale = penny;
  app = λ k. (row k).bid.app;
  yr = λ k. (row k).bid.year;
  price = λ k. (row k).bid.price;
  cost = λ k price y. cost_of years (row k) price y;
  budget = budget;
  draw = λ k. (row k).draw;
  admin = λ k. (row k).admin;
  capacity = λ k. (row k).bid.capacity;
  cap = cap;
  drawn = drawn;
  admin_price = λ a. (admin_row a).admin;
  admin_cost = λ a y. cost_of years (admin_row a) (admin_row a).admin y;
  app_capacity = λ a. (admin_row a).bid.capacity;
}

module _ (R : Round) where
  abbrev pub tech_of : App → Tech
  tech_of a = tech_at R.y R.techs a.tech

  -- what the first test needs of an application, in the fields of a bid: its own capacity, year and days, at its administrative price
  unfoldable pub at_admin_price : ℕ → Bid
  at_admin_price a =
      let x = app_at R.apps a in
      record { app = a; year = x.year; days = x.days; capacity = x.capacity; price = (tech_of x).admin x.year }

  -- does bid k stand in pot p? does application a?
  unfoldable pub mine : (p k : ℕ) → Bool
  mine p k = ltb k R.b && eqb (tech_of (app_at R.apps (bid_at R.bids k).app)).pot p

  unfoldable pub app_mine : (p a : ℕ) → Bool
  app_mine p a = ltb a R.n && eqb (tech_of (app_at R.apps a)).pot p

  -- the row of a bid. A year that the file does not have has no figures, so that a row says nothing of bytes outside its technology's record
  unfoldable pub row_for : Bid → Row
  row_for x =
      let a = app_at R.apps x.app in
      record {
        bid = x;
        draw = a.draw;
        admin = (tech_of a).admin x.year;
        rqm = (tech_of a).rqm;
        reference = λ y. pick (ltb y R.y) ((tech_of a).reference y) 0;
        load = λ y. pick (ltb y R.y) ((tech_of a).load y) 0;
      }

  -- "budgets in the file stay in pounds and are compared a hundredfold" (02, CR 11): pot p's in year y, in pence. A year that the file does not have has none
  abbrev pub budget_of : (p y : ℕ) → ℕ
  budget_of p y = pick (ltb y R.y) (pence_per_pound * budget_at R.y R.c R.pots p y) 0

  -- "up to 20,000,000, or 4,294,967,295 for none" (02, CR 5): pot p's cap. A file without caps has none
  unfoldable pub cap_of : (p : ℕ) → Option ℕ
  cap_of p =
      let n = cap_at R.y R.c R.pots p in
      pick (ltb 0 R.c) (pick (eqb n no_cap) none (some n)) none

  -- "The pot gains a 4-byte drawn number" (02, CR 6): pot p's. A file without drawn numbers has none
  unfoldable pub drawn_of : (p : ℕ) → Option ℕ
  drawn_of p = pick (ltb cap_width R.c) (some (drawn_at R.y R.c R.pots p)) none

  -- "Pots are cleared apart"; "an application without a sealed bid takes no part in the auction" (02, CR 8): the auction's bids are the file's
  unfoldable pub pot_of : ℕ → Pot
  pot_of p =
      assemble R.years R.y (sift (mine p) (below R.b)) (sift (app_mine p) (below R.n))
      (λ k. pick (mine p k) (row_for (bid_at R.bids k)) blank)
      (λ a. pick (app_mine p a) (row_for (at_admin_price a)) blank)
      (budget_of p) (cap_of p) (drawn_of p)
