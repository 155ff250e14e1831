-- Its pieces follow each other.
use Rattle.rules.specs.Listing.{lost_line}
use Rattle.lines.proofs.Laws.{printed_then}
use Rattle.lines.proofs.lost_line.Goals as goal

pub returns : goal.returns
unfolding lost_line
returns c = printed_then c.field-e.ensures c.word.ensures
