-- `fill::fill_rows` meets its contract. After k turns the first k rows are right.
use mathlib.Core.Path.{◌≡◌}
use lib.ListN.{length}
use Rattle.sheet.specs.Sheet.{rows_at, sheet_length}
use Rattle.rows.specs.Rows.{round_in}
use Rattle.fill.specs.Fill.{RowsRight, Kept}
use Rattle.fill.proofs.fill_rows.Given as goal

abbrev pub invariant-loop-k : goal.invariant-loop-k
invariant-loop-k l = (length l.cells ≡ sheet_length) × RowsRight (round_in l.round.file.now l.round.sections) l.p l.k l.cells × Kept rows_at l.initial.cells l.cells
