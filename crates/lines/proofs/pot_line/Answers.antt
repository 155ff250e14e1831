-- Its pieces follow each other.
use Rattle.rules.specs.Listing.{pot_line}
use Rattle.lines.proofs.Laws.{printed_then}
use Rattle.lines.proofs.pot_line.Goals as goal

pub returns : goal.returns
unfolding pot_line
returns c = printed_then (printed_then c.field-a.ensures c.outcome.ensures) c.word.ensures
