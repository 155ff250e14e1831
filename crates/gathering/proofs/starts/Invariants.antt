-- The invariant: each place passed holds its year.
use mathlib.Core.Path.{◌≡◌}
use Rattle.arrays.specs.Sets.{fill}
use Rattle.combinations.specs.Combinations.{no_list, start_of}
use Rattle.gathering.proofs.starts.Given as goal

abbrev pub invariant-loop-j : goal.invariant-loop-j
invariant-loop-j l = l.out ≡ fill no_list (start_of l.sheet.cells.now l.list) l.j
