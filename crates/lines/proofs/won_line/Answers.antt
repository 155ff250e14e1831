-- Its pieces follow each other.
use Rattle.rules.specs.Listing.{won_line}
use Rattle.lines.proofs.Laws.{printed_then}
use Rattle.lines.proofs.won_line.Goals as goal

pub returns : goal.returns
unfolding won_line
returns c = printed_then (printed_then (printed_then c.field-e.ensures c.field.ensures) c.bid.ensures) c.word.ensures
