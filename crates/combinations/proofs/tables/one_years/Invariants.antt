-- The invariant: each place passed holds its years.
use mathlib.Core.Path.{◌≡◌}
use Rattle.arrays.specs.Sets.{fill}
use Rattle.combinations.specs.Combinations.{no_list, one_year_at}
use Rattle.combinations.proofs.tables.one_years.Given as goal

abbrev pub invariant-loop-i : goal.invariant-loop-i
invariant-loop-i l = l.out ≡ fill no_list (one_year_at l.tied.ranks l.tied.starts l.tied.count) l.i
