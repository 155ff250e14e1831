-- After i turns the first i texts stand at the start, up to `at`.
use Rattle.std.proofs.Common.{ℕ, ◌*◌, ◌≤◌, List}
use Rattle.rules.specs.Bytes.{each}
use Rattle.lines.specs.Printed.{Printed}
use Rattle.listing.specs.InTurn.{Prints}
use Rattle.listing.proofs.in_turn.Given as goal

abbrev pub invariant-loop-i : goal.invariant-loop-i
invariant-loop-i g l =
    (l.at ≤ l.longest * l.i) × ((f : ℕ → List ℕ) → Prints g.F.Fn l.line l.longest l.n f → Printed (each f l.i) (l.longest * l.i) l.fn.s l.s l.at)
