-- `branches::passed` meets its contract.
use native.Mathlib.Omega.{arith}
use mathlib.Core.Path.{sym, ◌∙◌}
use Rattle.branches.proofs.Branch.{starts_at}
use Rattle.branches.proofs.Over.{passed_open}
use Rattle.branches.proofs.passed.Goals as goal

pub returns-then-fitting : goal.returns-then-fitting
returns-then-fitting c = passed_open (starts_at c.requires.left_bound.1 c.if-from-size-gt0.false (omega (arith, c.if-size-from.false, c.requires.left_bound.0))) c.if-size-from.false c.requires.searching.1 (sym c.fitting.ensures ∙ c.if-fitting.true)
