-- Its pieces follow each other.
use Rattle.rules.specs.Listing.{bid_line}
use Rattle.lines.proofs.Laws.{printed_then}
use Rattle.lines.proofs.bid_line.Goals as goal

pub returns : goal.returns
unfolding bid_line
returns c = printed_then (printed_then c.field-a.ensures c.field.ensures) c.word.ensures
