-- A section's refusal is the file's.
use mathlib.Core.Path.{ap, ◌∙◌}
use Rattle.rules.specs.Reading.{reading_in}
use Rattle.file.proofs.Laws.{years_stop, pots_stop, techs_stop, apps_stop, bids_stop}
use Rattle.file.proofs.read.Goals as goal

pub returns-in_default : goal.returns-in_default
returns-in_default c = ap reading_in c.in_default.is ∙ years_stop _ c.in_default.ensures

pub returns-in_default-pots : goal.returns-in_default-pots
returns-in_default-pots c = ap reading_in c.in_default-pots.is ∙ pots_stop _ c.in_default-pots.ensures

pub returns-in_default-technologies : goal.returns-in_default-technologies
returns-in_default-technologies c = ap reading_in c.in_default-technologies.is ∙ techs_stop _ c.in_default-technologies.ensures

pub returns-in_default-applications : goal.returns-in_default-applications
returns-in_default-applications c = ap reading_in c.in_default-applications.is ∙ apps_stop _ c.in_default-applications.ensures

pub returns-in_default-bids : goal.returns-in_default-bids
returns-in_default-bids c = ap reading_in c.in_default-bids.is ∙ bids_stop _ c.in_default-bids.ensures
