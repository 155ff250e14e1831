-- What it is for tellings to be those of a round: every place of them is told. Assumes nothing.
use Rattle.std.specs.Prelude.{ℕ, ◌≤◌, ◌<◌, ◌&&◌, ◌≡◌, [], ltb, get_or}
use Rattle.rules.specs.Names.{most_years, most_deliveries, most_pots, most_apps, most_bids, no_reason}
use Rattle.rules.specs.Lists.{pick}
use Rattle.rules.specs.File.{Round}
use Rattle.rules.specs.Pot.{outcome, price_in, total_in, reason}
use Rattle.rules.specs.Round.{pot_of}
use Rattle.rules.specs.Result.{app_told, pot_at}
use Rattle.rules.specs.declared.Sections.{Sections}
use Rattle.rules.specs.declared.Told.{Told}
use Rattle.result.specs.declared.PotTold.{PotTold}
use Rattle.result.specs.declared.Tellings.{Tellings}

-- the counts of the sections are in their ranges
pub record InRange (sections : Sections) : Type 0 where
  pub years : sections.years ≤ most_years
  pub deliveries : sections.deliveries ≤ most_deliveries
  pub pots : sections.pots ≤ most_pots
  pub apps : sections.applications ≤ most_apps
  pub bids : sections.bids ≤ most_bids

-- they are those of a round
pub record Counted (R : Round) (sections : Sections) : Type 0 where
  pub years : sections.years ≡ R.y
  pub deliveries : sections.deliveries ≡ R.d
  pub pots : sections.pots ≡ R.p
  pub apps : sections.applications ≡ R.n
  pub bids : sections.bids ≡ R.b

-- what stands in a place of which nothing is told: of an application, of a pot
abbrev pub untold : Told
untold = record { won = 0; bid = 0; reason = 0; paid = 0 }

abbrev pub no_pot : PotTold
no_pot = record { outcome = 0; prices = []; totals = [] }

-- each number is the one that the definitions tell, and the places past the counts are empty
pub record Tells (R : Round) (t : Tellings) : Type 0 where
  pub outcome : (p : ℕ) → (get_or t.pots p no_pot).outcome ≡ pick (ltb p R.p) (outcome (pot_of R p)) 0
  pub price : (p d : ℕ) → d < most_deliveries → get_or (get_or t.pots p no_pot).prices d 0 ≡ pick (ltb p R.p) (price_in (pot_of R p) d) 0
  pub total : (p y : ℕ) → get_or (get_or t.pots p no_pot).totals y 0 ≡ pick (ltb p R.p && ltb y R.y) (total_in (pot_of R p) y) 0
  pub app : (a : ℕ) → get_or t.apps a untold ≡ pick (ltb a R.n) (app_told R a) untold
  pub reason : (k : ℕ) → get_or t.reasons k 0 ≡ pick (ltb k R.b) (reason (pot_at R k) k) no_reason
