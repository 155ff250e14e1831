-- The third demand, as a statement about the records of a result. Assumes nothing.
use Rattle.std.specs.Prelude.{ℕ, ◌+◌, ◌*◌, ◌≤◌, ◌<◌, ◌≡◌, ◌&&◌, ◌⊎◌, List, length, eqb}
use Rattle.std.proofs.Math.Option.{some}
use Rattle.rules.specs.Lists.{sift, below, sum}
use Rattle.rules.specs.Value.{penny, pound}
use Rattle.rules.specs.File.{Round, budget_at, bid_at}
use Rattle.rules.specs.Names.{because_won, pence_per_pound}
use Rattle.rules.specs.Pot.{downs, auction}
use Rattle.rules.specs.Round.{row_for, cost_of, cap_of, pot_of}
use Rattle.rules.specs.declared.Told.{Told}
use Rattle.laws_pot.specs.Lists.{In}
use Rattle.laws_round.specs.Bids.{app_pot}
use Rattle.laws_pot.specs.Once.{NoneTwice}
use Rattle.laws_pot.specs.Reasons.{TurnedDown, Unlooked, Fate}
use Rattle.laws_pot.specs.Demand.{Dear}

module _ (R : Round) (p : ℕ) (T : ℕ → Told) where
  -- the applications of pot p that are told as won, each once
  unfoldable pub won_apps : List ℕ
  won_apps = sift (λ a. eqb (app_pot R a) p && eqb (T a).won 1) (below R.n)

  -- the exact cost in parts, in year y, of an application told as won: of the bid told with it, at the price told as paid
  unfoldable pub cost_told : (y a : ℕ) → ℕ
  cost_told y a = cost_of R.years (row_for R (bid_at R.bids (T a).bid)) (T a).paid y

  -- its capacity: of the bid told with it
  unfoldable pub capacity_told : (a : ℕ) → ℕ
  capacity_told a = (bid_at R.bids (T a).bid).capacity

  -- and of all of them
  abbrev pub exact_told : (y : ℕ) → ℕ
  exact_told y = sum (cost_told y) won_apps

  abbrev pub summed_told : ℕ
  summed_told = sum capacity_told won_apps

-- Of pot p, which an auction cleared, where a result tells T of the applications, `total` of the years and `why` of the pot's bids. Costs are exact: parts,
-- `penny` to the penny. Totals are pence, budgets pounds
pub record Third (R : Round) (p : ℕ) (T : ℕ → Told) (total why : ℕ → ℕ) : Type 0 where
  -- the winners at the prices paid cost no more than the budget in any year
  pub affordable : (y : ℕ) → y < R.y → exact_told R p T y ≤ budget_at R.y R.c R.pots p y * pound
  -- the reported total is never below that cost
  pub not_below : (y : ℕ) → y < R.y → exact_told R p T y ≤ total y * penny
  -- and above it by at most one penny a winner
  pub not_above : (y : ℕ) → y < R.y → total y * penny ≤ exact_told R p T y + length (won_apps R p T) * penny
  -- the winners stay within the cap (02, CR 5)
  pub within_cap : (limit : ℕ) → cap_of R p ≡ some limit → summed_told R p T ≤ limit
  -- every bid looked at and turned down would, added at its own price to all that had won by the end of its step, revalued, have cost in some year more
  -- than the budget less one penny for each bid counted, or more capacity than the cap, exactly (02, CR 5)
  pub turned_down : (k : ℕ) → In k (pot_of R p).bids → TurnedDown (why k) → Dear (pot_of R p) k (auction (pot_of R p))
  -- where a penny is so many parts, the budgets of the pot are the file's, in pence, its cap is the file's, and a bid's capacity is its own
  pub in_parts : (pot_of R p).scale ≡ penny
  pub in_pence : (y : ℕ) → y < R.y → (pot_of R p).budget y ≡ pence_per_pound * budget_at R.y R.c R.pots p y
  pub of_file : (pot_of R p).cap ≡ cap_of R p
  pub of_bid : (k : ℕ) → In k (pot_of R p).bids → (pot_of R p).capacity k ≡ (bid_at R.bids k).capacity
  -- the step that turned a bid down is one
  pub one_step : NoneTwice (downs (auction (pot_of R p)))
  -- every bid never looked at belongs to an application that won, or to a delivery year in which a cheaper bid had been turned down
  pub unlooked : (k : ℕ) → In k (pot_of R p).bids → Unlooked (why k)
      → In (bid_at R.bids k).app (won_apps R p T)
      ⊎ ((c : ℕ) × In c (pot_of R p).bids × TurnedDown (why c)
      × ((bid_at R.bids c).year ≡ (bid_at R.bids k).year) × ((bid_at R.bids c).price < (bid_at R.bids k).price))
  -- every bid of the pot is told as one of the three: won, turned down, not looked at; no reason says two of them (`one_fate`)
  pub fate : (k : ℕ) → In k (pot_of R p).bids → Fate (why k)
  -- a bid told as won is the bid told with its application, which is told as won
  pub winner : (k : ℕ) → In k (pot_of R p).bids → why k ≡ because_won → In (bid_at R.bids k).app (won_apps R p T) × ((T (bid_at R.bids k).app).bid ≡ k)
  -- and the other way round
  pub won_by : (a : ℕ) → In a (won_apps R p T)
      → In (T a).bid (pot_of R p).bids × (why (T a).bid ≡ because_won) × ((bid_at R.bids (T a).bid).app ≡ a)
