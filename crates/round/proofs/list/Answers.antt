-- `round::list` meets its contract: the text is too short, or the file is listed, or its refusal is.
use mathlib.Core.Path.{sym}
use Rattle.round.proofs.Laws.{text_short, refusal_listed}
use Rattle.round.proofs.list.Goals as goal

pub returns-then-text-lt-LONGEST : goal.returns-then-text-lt-LONGEST
returns-then-text-lt-LONGEST c = text_short _ _ c.if-text-lt-LONGEST.true

pub returns-in-Err : goal.returns-in-Err
returns-in-Err c =
    refusal_listed _ _ (sym c.in-Err.ensures) c.if-text-lt-LONGEST.false
    (rw c.number.ensures at c.refused.ensures)
