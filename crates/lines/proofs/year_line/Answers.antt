-- Its pieces follow each other.
use Rattle.rules.specs.Listing.{year_line}
use Rattle.lines.proofs.Laws.{printed_then}
use Rattle.lines.proofs.year_line.Goals as goal

pub returns : goal.returns
unfolding year_line
returns c = printed_then (printed_then (printed_then c.field-a.ensures c.price.ensures) c.field.ensures) c.word.ensures
