-- `fill::fill_rows` meets its contract. After k turns the first k rows are right.
use native.Mathlib.Omega.{arith}
use mathlib.Core.Path.{◌∙◌}
use Rattle.sheet.specs.Sheet.{row_place}
use Rattle.fill.proofs.Laid.{laid}
use Rattle.fill.proofs.Laws.{rows_more}
use Rattle.fill.proofs.fill_rows.Goals as goal

pub loop-k-preserved : goal.loop-k-preserved
loop-k-preserved c =
    let inv = c.loop-k.invariant in
    let put = laid c.row-v.result (row_place c.loop-k.k) c.loop-k.cells (omega (arith, inv.0)) c.lay.ensures in
    (put.same ∙ inv.0, rows_more _ _ _ inv.1 c.row-v.ensures put, λ j h. put.kept j (omega arith) ∙ inv.2 j h)
