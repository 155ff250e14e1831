-- A word, and after it a number.
use Rattle.lines.proofs.Laws.{printed_then}
use Rattle.lines.proofs.field.Goals as goal

pub returns : goal.returns
returns c = printed_then c.word-at.ensures c.number.ensures
