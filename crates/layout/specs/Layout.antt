-- Where the sections of a file stand, and what a record that was read shows. Assumes nothing.
use Rattle.std.specs.Prelude.{ℕ, ◌+◌, ◌*◌, ◌≤◌, List, length}
use Rattle.rules.specs.Names.{count_width}
use Rattle.rules.specs.Bytes.{part}
use Rattle.rules.specs.File.{App, Bid}
use Rattle.rules.specs.declared.Sections.{Sections}
use Rattle.layout.specs.declared.application.Application as a
use Rattle.layout.specs.declared.bid.Bid as b

-- a place past every byte of every round file
abbrev pub beyond : ℕ
beyond = 7899

-- record i, of those of this width, stands whole in the part that they occupy
abbrev pub Room : (recs : List ℕ) (width i : ℕ) → Type 0
Room recs width i = i * width + width ≤ length recs

-- the application and the bid that were read
abbrev pub application_shown : a.Application → App
application_shown x = record { tech = x.technology; year = x.year; days = x.days; draw = x.draw; capacity = x.capacity }

abbrev pub bid_shown : b.Bid → Bid
bid_shown x = record { app = x.application; year = x.year; days = x.days; capacity = x.capacity; price = x.price }

-- the sections with these counts and places
abbrev pub laid_out : (years deliveries gained pots technologies applications bids pots_from technologies_from applications_from bids_from : ℕ) → Sections
laid_out years deliveries gained pots technologies applications bids pots_from technologies_from applications_from bids_from = record {
  years = years;
  deliveries = deliveries;
  gained = gained;
  pots = pots;
  technologies = technologies;
  applications = applications;
  bids = bids;
  pots_at = pots_from;
  technologies_at = technologies_from;
  applications_at = applications_from;
  bids_at = bids_from;
}

-- "Five sections stand in this order, each after its 2-byte count": the part of a file that each section's records occupy
module _ (s : List ℕ) (sections : Sections) where
  abbrev pub years_in : List ℕ
  years_in = part s count_width sections.pots_at

  abbrev pub pots_in : List ℕ
  pots_in = part s (sections.pots_at + count_width) sections.technologies_at

  abbrev pub technologies_in : List ℕ
  technologies_in = part s (sections.technologies_at + count_width) sections.applications_at

  abbrev pub applications_in : List ℕ
  applications_in = part s (sections.applications_at + count_width) sections.bids_at

  abbrev pub bids_in : List ℕ
  bids_in = part s (sections.bids_at + count_width) (length s)
