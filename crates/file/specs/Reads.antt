-- The sections read so far, and the reading of the first sections of a file. Assumes nothing.
use Rattle.std.specs.Prelude.{ℕ, ◌+◌, ◌*◌, List, [], ◌∷◌}
use Rattle.std.proofs.Math.Decide.{dec_le}
use Rattle.rules.specs.Names.{count_outside, count_width, pot_width, tech_width, app_width}
use Rattle.rules.specs.Lists.{given, both}
use Rattle.rules.specs.File.{Round, round_of, sections_of}
use Rattle.rules.specs.declared.Sections.{Sections}
use Rattle.rules.specs.Reading.{Reading, Accepted}
use Rattle.laws_reading.specs.Fault.{Table, judges_all, years, pots, techs, apps, tables}
use Rattle.layout.specs.Layout.{laid_out}
use Rattle.records.specs.Records.{with_years}

-- 2: so many records are outside their range
unfoldable pub range_fault : (n low high : ℕ) → ℕ
range_fault n low high = given (both (dec_le low n) (dec_le n high)) 0 count_outside

-- ---- the sections so far: each brings its own count, the pots' also the bytes that each has gained, and, but for the last, the place of the next one's

abbrev pub with_pots : Sections → (c n next : ℕ) → Sections
with_pots g c n next =
    laid_out g.years g.deliveries c n g.technologies g.applications g.bids g.pots_at next g.applications_at g.bids_at

abbrev pub with_techs : Sections → (n next : ℕ) → Sections
with_techs g n next =
    laid_out g.years g.deliveries g.gained g.pots n g.applications g.bids g.pots_at g.technologies_at next g.bids_at

abbrev pub with_apps : Sections → (n next : ℕ) → Sections
with_apps g n next =
    laid_out g.years g.deliveries g.gained g.pots g.technologies n g.bids g.pots_at g.technologies_at
    g.applications_at next

abbrev pub with_bids : Sections → (n : ℕ) → Sections
with_bids g n =
    laid_out g.years g.deliveries g.gained g.pots g.technologies g.applications n g.pots_at g.technologies_at
    g.applications_at g.bids_at

-- where a section's n records of a width end, after its count at `at`
abbrev pub ends : (at n width : ℕ) → ℕ
ends at n width = at + count_width + n * width

-- ---- the reading of the first sections: the first fault in them, or the sections so far

-- the first section, the first two, three and four
module _ (R : Round) where
  abbrev pub to_years : List Table
  to_years = years R ∷ []

  abbrev pub to_pots : List Table
  to_pots = years R ∷ pots R ∷ []

  abbrev pub to_techs : List Table
  to_techs = years R ∷ pots R ∷ techs R ∷ []

  abbrev pub to_apps : List Table
  to_apps = years R ∷ pots R ∷ techs R ∷ apps R ∷ []

-- the sections so far after each of them, and the reading of each
module _ (s : List ℕ) where
  abbrev pub after_years : Sections
  after_years = with_years (round_of s).y (round_of s).d count_width

  abbrev pub after_pots : Sections
  after_pots =
      with_pots after_years (round_of s).c (round_of s).p (ends after_years.pots_at (round_of s).p (pot_width (round_of s).y (round_of s).c))

  abbrev pub after_techs : Sections
  after_techs = with_techs after_pots (round_of s).t (ends after_pots.technologies_at (round_of s).t (tech_width (round_of s).y))

  abbrev pub after_apps : Sections
  after_apps = with_apps after_techs (round_of s).n (ends after_techs.applications_at (round_of s).n app_width)

  unfoldable pub read_years : Reading
  read_years = judges_all s (to_years (round_of s)) (Accepted after_years)

  unfoldable pub read_pots : Reading
  read_pots = judges_all s (to_pots (round_of s)) (Accepted after_pots)

  unfoldable pub read_techs : Reading
  read_techs = judges_all s (to_techs (round_of s)) (Accepted after_techs)

  unfoldable pub read_apps : Reading
  read_apps = judges_all s (to_apps (round_of s)) (Accepted after_apps)

  unfoldable pub read_bids : Reading
  read_bids = judges_all s (tables (round_of s)) (Accepted (sections_of (round_of s)))
