-- What has been told of a round when some of its pots have been cleared, and what the clearing of the next adds. Assumes nothing.
use Rattle.std.specs.Prelude.{ℕ, zero, suc, ◌<◌, Bool, ◌&&◌, ◌≡◌, List, ltb, length, get_or, set}
use Rattle.rules.specs.Names.{most_deliveries, most_pots, most_apps, most_bids, no_reason}
use Rattle.rules.specs.Lists.{pick}
use Rattle.rules.specs.File.{Round}
use Rattle.rules.specs.Pot.{outcome, price_in, total_in, reason}
use Rattle.rules.specs.Round.{pot_of}
use Rattle.rules.specs.Result.{app_told, pot_at}
use Rattle.laws_round.specs.Bids.{app_pot, bid_pot}
use Rattle.sheet.specs.declared.Size.{Size}
use Rattle.sheet.specs.Sheet.{in_auction, in_test}
use Rattle.auction.specs.declared.Cleared.{Cleared}
use Rattle.result.specs.declared.Tellings.{Tellings}
use Rattle.auction.specs.Outcomes.{number_of}
use Rattle.result.specs.Tells.{untold, no_pot}

pub record Sizes (t : Tellings) : Type 0 where
  pub pots : length t.pots ≡ most_pots
  pub apps : length t.apps ≡ most_apps
  pub reasons : length t.reasons ≡ most_bids

-- the first p pots of a round are told, with their applications and bids, and nothing else is
pub record ToldTo (R : Round) (p : ℕ) (t : Tellings) : Type 0 where
  pub sizes : Sizes t
  pub outcome : (q : ℕ) → (get_or t.pots q no_pot).outcome ≡ pick (ltb q p) (outcome (pot_of R q)) 0
  pub price : (q d : ℕ) → d < most_deliveries → get_or (get_or t.pots q no_pot).prices d 0 ≡ pick (ltb q p) (price_in (pot_of R q) d) 0
  pub total : (q y : ℕ) → get_or (get_or t.pots q no_pot).totals y 0 ≡ pick (ltb q p) (pick (ltb y R.y) (total_in (pot_of R q) y) 0) 0
  pub app : (a : ℕ) → get_or t.apps a untold ≡ pick (ltb a R.n && ltb (app_pot R a) p) (app_told R a) untold
  pub reason : (k : ℕ) → get_or t.reasons k 0 ≡ pick (ltb k R.b && ltb (bid_pot R k) p) (reason (pot_at R k) k) no_reason

-- a list with the first n places of another, where they are its own
unfoldable pub merged : {A : Type 0} (own : ℕ → Bool) (mine old : List A) (d : A) (n : ℕ) → List A
merged own mine old d zero = old
merged own mine old d (suc a) = pick (own a) (set (merged own mine old d a) a (get_or mine a d)) (merged own mine old d a)

-- the clearing c of pot p added, whose sheet this is
unfoldable pub told_with : (sheet : List ℕ) (of : Size) (p : ℕ) → Cleared → Tellings → Tellings
told_with sheet of p c t = record {
  pots = set t.pots p (record { outcome = number_of c.outcome; prices = c.prices; totals = c.totals });
  apps = merged (in_test sheet) c.apps t.apps untold of.applications;
  reasons = merged (in_auction sheet) c.reasons t.reasons no_reason of.bids;
}
