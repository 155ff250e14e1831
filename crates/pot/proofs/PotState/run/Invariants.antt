-- The invariant: the state stands for a trace from which the auction runs on, no tie was too wide and its sums are right.
use mathlib.Core.Bool.{false}
use mathlib.Core.Path.{◌≡◌}
use Rattle.sheet.specs.Sheet.{pot_in}
use Rattle.pot.specs.Marks.{Summed}
use Rattle.pot.proofs.Runs.{Going, unlooked}
use Rattle.pot.proofs.PotState.run.Given as goal

abbrev pub invariant-loop-seen : goal.invariant-loop-seen
invariant-loop-seen l = Going (pot_in l.sheet.cells.now l.sheet.size) l.s × (l.s.wide ≡ false) × Summed l.sheet.cells.now l.sheet.size l.s

abbrev pub decreases-loop-seen : goal.decreases-loop-seen
decreases-loop-seen l = unlooked l.sheet.cells.now l.sheet.size l.s
