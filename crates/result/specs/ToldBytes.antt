-- The bytes of tellings, section by section: those of the result of the round that they tell. Assumes nothing.
use Rattle.std.specs.Prelude.{ℕ, ◌+◌, ◌*◌, List, ◌++◌, get_or}
use Rattle.rules.specs.Names.{count_width}
use Rattle.rules.specs.Bytes.{bytes, each}
use Rattle.rules.specs.Result.{app_bytes}
use Rattle.rules.specs.declared.Sections.{Sections}
use Rattle.store.specs.Filled.{numbers}
use Rattle.result.specs.declared.PotTold.{PotTold}
use Rattle.result.specs.declared.Tellings.{Tellings}
use Rattle.result.specs.Tells.{untold, no_pot}

-- ---- the sizes in bytes of the result's fields: of a pot, of an application, and the reason of a bid as of an application
abbrev pub outcome_size : ℕ
outcome_size = 2

abbrev pub price_size : ℕ
price_size = 4

abbrev pub total_size : ℕ
total_size = 8

abbrev pub won_size : ℕ
won_size = 2

abbrev pub bid_size : ℕ
bid_size = 2

abbrev pub reason_size : ℕ
reason_size = 2

abbrev pub paid_size : ℕ
paid_size = 4

-- of the record of an application, of a pot, and of the whole: "6 + P(2 + 4D + 8Y) + 10N + 2B bytes"
abbrev pub app_size : ℕ
app_size = won_size + bid_size + reason_size + paid_size

abbrev pub pot_size : Sections → ℕ
pot_size sections = outcome_size + price_size * sections.deliveries + total_size * sections.years

abbrev pub result_size : Sections → ℕ
result_size sections = 3 * count_width + sections.pots * pot_size sections + app_size * sections.applications + reason_size * sections.bids

-- the largest result: 4 pots of 82 bytes, 64 applications, 256 bids
abbrev pub largest_pots : ℕ
largest_pots = 328

abbrev pub largest_result : ℕ
largest_result = 1486

-- the record of a pot
unfoldable pub pot_bytes_told : Sections → PotTold → List ℕ
pot_bytes_told sections told =
    (bytes outcome_size told.outcome ++ numbers price_size told.prices 0 sections.deliveries) ++ numbers total_size told.totals 0 sections.years

-- ---- the sections, each after its count
module _ (t : Tellings) where
  -- the records of pot p and of application a
  abbrev pub pot_record : Sections → (p : ℕ) → List ℕ
  pot_record sections p = pot_bytes_told sections (get_or t.pots p no_pot)

  abbrev pub app_record : (a : ℕ) → List ℕ
  app_record a = app_bytes (get_or t.apps a untold)

  unfoldable pub pots_told : Sections → List ℕ
  pots_told sections = bytes count_width sections.pots ++ each (pot_record sections) sections.pots

  unfoldable pub apps_told : Sections → List ℕ
  apps_told sections = bytes count_width sections.applications ++ each app_record sections.applications

  unfoldable pub bids_told : Sections → List ℕ
  bids_told sections = bytes count_width sections.bids ++ numbers reason_size t.reasons 0 sections.bids

  unfoldable pub round_told : Sections → List ℕ
  round_told sections = (pots_told sections ++ apps_told sections) ++ bids_told sections
