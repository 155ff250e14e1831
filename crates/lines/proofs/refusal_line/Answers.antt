-- Its pieces follow each other.
use Rattle.rules.specs.Listing.{refusal_line}
use Rattle.lines.proofs.Laws.{printed_then}
use Rattle.lines.proofs.refusal_line.Goals as goal

pub returns : goal.returns
unfolding refusal_line
returns c = printed_then (printed_then c.field-a.ensures c.field.ensures) c.word.ensures
