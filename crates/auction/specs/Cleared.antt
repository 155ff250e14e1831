-- What it is for the numbers of a clearing to be those that the rules tell of a pot: every place of them is told. Assumes nothing.
use Rattle.std.specs.Prelude.{ℕ, ◌<◌, ◌≡◌, List, ltb, get_or}
use Rattle.rules.specs.Names.{most_deliveries, no_reason, because_administrative, because_too_wide, because_silent}
use Rattle.rules.specs.Lists.{pick, memb}
use Rattle.rules.specs.Pot.{Pot, by, outcome, price_in, total_in, reason, automatic_reason}
use Rattle.rules.specs.Result.{told_in}
use Rattle.auction.specs.Outcomes.{number_of}
use Rattle.result.specs.Tells.{untold}
use Rattle.laws_pot.specs.Lists.{In}
use Rattle.sheet.specs.declared.Size.{Size}
use Rattle.sheet.specs.Sheet.{pot_in}
use Rattle.auction.specs.declared.Cleared.{Cleared}
use Rattle.auction.specs.declared.End.{End}
use Rattle.auction.specs.declared.Winning.TheVariants.{Lost}
use Rattle.auction.specs.Numbers.{reason_at, AllKnown, told_by}

-- a pot of this size is told by c: the applications that the sheet numbers, and the bids of the pot
pub record ClearedAs (of : Size) (P : Pot) (c : Cleared) : Type 0 where
  pub outcome : number_of c.outcome ≡ outcome P
  pub price : (d : ℕ) → d < most_deliveries → get_or c.prices d 0 ≡ price_in P d
  pub total : (y : ℕ) → get_or c.totals y 0 ≡ pick (ltb y of.years) (total_in P y) 0
  pub app : (a : ℕ) → get_or c.apps a untold ≡ pick (ltb a of.applications) (told_in P a) untold
  pub reason : (k : ℕ) → get_or c.reasons k 0 ≡ pick (memb k P.bids) (reason P k) no_reason

-- the pot of a sheet ended as e: what is told from it is what the rules tell
pub record EndedAs (sheet : List ℕ) (of : Size) (e : End) : Type 0 where
  pub outcome : number_of e.outcome ≡ outcome (pot_in sheet of)
  pub price : (d : ℕ) → d < most_deliveries → get_or e.prices d 0 ≡ price_in (pot_in sheet of) d
  pub total : (y : ℕ) → y < of.years → get_or e.totals y 0 ≡ total_in (pot_in sheet of) y
  pub app : (a : ℕ) → a < of.applications
      → told_by sheet e.prices a (get_or e.winning a Lost) (automatic_reason (pot_in sheet of) a) ≡ told_in (pot_in sheet of) a
  pub known : AllKnown of e.winning
  pub automatic : e.automatic ≡ by (pot_in sheet of) because_administrative because_silent because_too_wide
  pub reason : (k : ℕ) → In k (pot_in sheet of).bids → reason_at sheet e.marks e.won k ≡ reason (pot_in sheet of) k
