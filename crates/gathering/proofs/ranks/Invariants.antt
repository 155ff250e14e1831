-- The invariant: each place passed holds its number.
use mathlib.Core.Path.{◌≡◌}
use lib.ListN.{length}
use Rattle.arrays.specs.Sets.{fill}
use Rattle.combinations.specs.Combinations.{no_list, rank_of}
use Rattle.gathering.proofs.ranks.Given as goal

abbrev pub invariant-loop-j : goal.invariant-loop-j
invariant-loop-j l = l.out ≡ fill no_list (rank_of l.sheet.cells.now l.list (length l.list)) l.j
