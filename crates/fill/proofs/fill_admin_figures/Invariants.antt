-- `fill::fill_admin_figures` meets its contract. After a turns the figures of the bids and of the first a applications are right, and those after them are blank yet.
use Prim.Native.Nat.{◌+◌}
use mathlib.Core.Path.{◌≡◌}
use lib.ListN.{length}
use Rattle.rules.specs.Names.{most_bids}
use Rattle.sheet.specs.Sheet.{sheet_length}
use Rattle.rows.specs.Rows.{round_in}
use Rattle.fill.proofs.Laws.{Done}
use Rattle.fill.proofs.fill_admin_figures.Given as goal

abbrev pub invariant-loop-a : goal.invariant-loop-a
invariant-loop-a l = (length l.cells ≡ sheet_length) × Done (round_in l.round.file.now l.round.sections) l.p (most_bids + l.a) l.initial.cells l.cells
