-- What the checks of the bids' records answer. Assumes nothing.
use Rattle.std.specs.Prelude.{ℕ, ◌+◌, ◌*◌, ◌≤◌, ◌<◌, ◌≡◌, List, [], length, get_or}
use Rattle.std.proofs.Math.Decide.{dec_le, dec_lt, ℕ_discrete}
use Rattle.rules.specs.Names.{bid_broken, count_width, year_width, tech_width, app_width, bid_width, most_years}
use Rattle.rules.specs.Lists.{given, both, when}
use Rattle.rules.specs.File.{Round, App, Bid, year_at, tech_at, app_at, bid_at}
use Rattle.rules.specs.Refusals.{scan, record_fault, bid_fault, same_app?, eleven_of}
use Rattle.rules.specs.declared.Sections.{Sections}
use Rattle.rules.specs.Reading.{Reading, Accepted}
use Rattle.layout.specs.Layout.{years_in, technologies_in, applications_in}

-- ---- rule 7, where the numbers have been read

-- 7 of a bid beside its application, the days of its year and the administrative price
unfoldable pub judge_of : Bid → App → (most-days admin : ℕ) → ℕ
judge_of b a most-days admin =
    given
    (both (dec_lt 0 b.days)
    (both (dec_le b.days most-days)
    (both (dec_lt 0 b.capacity)
    (both (dec_le b.capacity a.capacity)
    (both (dec_le a.year b.year) (both (when (ℕ_discrete a.year b.year) (dec_le b.days a.days)) (dec_le b.price admin)))))))
    0
    bid_broken

-- 7 of a bid beside the sections of a file
unfoldable pub held_of : List ℕ → Sections → Bid → ℕ
held_of s g b =
    let a = app_at (applications_in s g) b.app in
    judge_of b a (year_at (years_in s g) b.year).days ((tech_at g.years (technologies_in s g) a.tech).admin b.year)

-- ---- the records

-- the tables that a bid is held to, of a file whose sections before the bids these are. No rule of a bid reads the pots' records
abbrev pub tables_of : (s recs : List ℕ) → Sections → Round
tables_of s recs g = record {
  years = years_in s g;
  pots = [];
  techs = technologies_in s g;
  apps = applications_in s g;
  bids = recs;
  y = g.years;
  d = g.deliveries;
  c = g.gained;
  p = g.pots;
  t = g.technologies;
  n = g.applications;
  b = g.bids;
}

-- what is to be known of the sections before the bids, so that a bid can be looked up in them
pub record TablesRight (s : List ℕ) (g : Sections) : Type 0 where
  pub years_start : count_width ≤ g.pots_at
  pub years_end : g.pots_at ≤ length s
  pub techs_start : g.technologies_at + count_width ≤ g.applications_at
  pub techs_end : g.applications_at ≤ length s
  pub apps_start : g.applications_at + count_width ≤ g.bids_at
  pub apps_end : g.bids_at ≤ length s
  pub few : g.deliveries ≤ g.years
  pub most : g.years ≤ most_years
  pub years_whole : g.years * year_width ≤ length (years_in s g)
  pub techs_whole : g.technologies * tech_width g.years ≤ length (technologies_in s g)
  pub apps_whole : g.applications * app_width ≤ length (applications_in s g)
  pub tech : (a : ℕ) → a < g.applications → (app_at (applications_in s g) a).tech < g.technologies

unfoldable pub bids_of : (s recs : List ℕ) → (base : ℕ) → Sections → Reading
bids_of s recs base g = scan (record_fault recs bid_width (bid_fault (tables_of s recs g))) bid_width base 0 g.bids (Accepted g)

-- a round of n bids alone, for the rules that read nothing else
abbrev pub alone : (recs : List ℕ) → (n : ℕ) → Round
alone recs n = record { years = []; pots = []; techs = []; apps = []; bids = recs; y = 0; d = 0; c = 0; p = 0; t = 0; n = 0; b = n }

-- are bids k and i of one application and at one price?
abbrev pub same_price? : (recs : List ℕ) → (k i : ℕ) → Dec (((bid_at recs k).app ≡ (bid_at recs i).app) × ((bid_at recs k).price ≡ (bid_at recs i).price))
same_price? recs k i = both (same_app? (alone recs i) k i) (ℕ_discrete (bid_at recs k).price (bid_at recs i).price)

unfoldable pub lowest_of : (recs : List ℕ) → (base : ℕ) → Sections → Reading
lowest_of recs base g = scan (eleven_of (alone recs g.bids)) bid_width base 0 g.bids (Accepted g)

-- ---- the earlier bids of an application, chained from the latest to the first

-- the bids from r to k are not of application a
pub record Free (recs : List ℕ) (a r k : ℕ) : Type 0 where
  pub within : r ≤ k
  pub none : (j : ℕ) → r ≤ j → j < k → (bid_at recs j).app ≡ a → ⊥

-- the link of each application leads to its latest bid before bid i
pub record Latest (recs latest : List ℕ) (i : ℕ) : Type 0 where
  pub each : (a : ℕ) → Free recs a (get_or latest a i) i

-- the link of each bid before bid i leads to the previous bid of its application
pub record Previous (recs previous : List ℕ) (i : ℕ) : Type 0 where
  pub each : (k : ℕ) → k < i → Free recs (bid_at recs k).app (get_or previous k k) k
