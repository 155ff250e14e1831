-- `fill::fill_years` meets its contract. After y turns the capacity and the figures of the first y years stand, and all before and after them is as it was.
use mathlib.Core.Path.{◌≡◌}
use lib.ListN.{length, get_or}
use Rattle.layout.specs.Layout.{bid_shown}
use Rattle.sheet.specs.Sheet.{figure_place, figures_place, sheet_length}
use Rattle.rows.specs.Rows.{round_in}
use Rattle.fill.specs.Fill.{tech_of, Figured, Kept, Rest}
use Rattle.fill.proofs.fill_years.Given as goal

abbrev pub invariant-loop-y : goal.invariant-loop-y
invariant-loop-y l =
    (length l.cells ≡ sheet_length) × (get_or l.cells (figures_place l.k) 0 ≡ l.bid.capacity) × Figured (round_in l.round.file.now l.round.sections) (tech_of (round_in l.round.file.now l.round.sections) (bid_shown l.bid)) (bid_shown l.bid) l.k l.y l.cells
    × Kept (figures_place l.k) l.initial.cells l.cells × Rest (figure_place l.k l.y) l.initial.cells l.cells
