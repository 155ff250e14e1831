-- `combinations::tables::own_at` meets its contract.
use Rattle.combinations.proofs.Laws.{own_in, own_out}
use Rattle.combinations.proofs.tables.own_at.Goals as goal

pub returns-then-c-sheet : goal.returns-then-c-sheet
returns-then-c-sheet c = own_in _ _ _ _ _ c.if-c-sheet.true c.worth.ensures.value

pub returns : goal.returns
returns c = own_out _ _ _ _ _ c.if-c-sheet.false
