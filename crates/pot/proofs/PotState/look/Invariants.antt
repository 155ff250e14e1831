-- The invariant: `l` has seen the live bids passed.
use mathlib.Core.Path.{◌≡◌}
use Rattle.rules.specs.Lists.{sift}
use Rattle.sheet.specs.Sheet.{entrants}
use Rattle.pot.specs.Marks.{live_of, look_of}
use Rattle.pot.proofs.PotState.look.Given as goal

abbrev pub invariant-loop-j : goal.invariant-loop-j
invariant-loop-j l = l.seen ≡ look_of l.sheet.cells.now (sift (live_of l.sheet.cells.now l.self) (entrants l.sheet.cells.now l.j))
