-- The invariant: the years passed are renewed.
use mathlib.Core.Path.{◌≡◌}
use Rattle.pot.specs.Marks.{renewed_to}
use Rattle.pot.proofs.PotState.all_renewed.Given as goal

abbrev pub invariant-loop-d : goal.invariant-loop-d
invariant-loop-d l = l.t ≡ renewed_to l.sheet.cells.now l.sheet.size l.initial.t l.d
