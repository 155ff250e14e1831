-- `fill::fill_figures` meets its contract. After k turns the figures of the first k bids are right, and those after them are blank yet.
use mathlib.Core.Path.{◌≡◌}
use lib.ListN.{length}
use Rattle.sheet.specs.Sheet.{sheet_length}
use Rattle.rows.specs.Rows.{round_in}
use Rattle.fill.proofs.Laws.{Done}
use Rattle.fill.proofs.fill_figures.Given as goal

abbrev pub invariant-loop-k : goal.invariant-loop-k
invariant-loop-k l = (length l.cells ≡ sheet_length) × Done (round_in l.round.file.now l.round.sections) l.p l.k l.initial.cells l.cells
