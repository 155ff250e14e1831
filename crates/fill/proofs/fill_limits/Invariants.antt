-- `fill::fill_limits` meets its contract. After y turns the first y limits are the pot's budgets, in pence.
use mathlib.Core.Path.{◌≡◌}
use lib.ListN.{length}
use Rattle.sheet.specs.Sheet.{sheet_length, entrants_at}
use Rattle.fill.specs.Fill.{LimitsRight, Rest}
use Rattle.fill.proofs.fill_limits.Given as goal

abbrev pub invariant-loop-y : goal.invariant-loop-y
invariant-loop-y l = (length l.cells ≡ sheet_length) × LimitsRight l.pots.years l.pots.gained l.pots.recs.now l.p l.y l.cells × Rest entrants_at l.initial.cells l.cells
