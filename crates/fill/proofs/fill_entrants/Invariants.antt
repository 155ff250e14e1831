-- `fill::fill_entrants` meets its contract. After k turns the first k bids have been looked at.
use Prim.Native.Nat.{◌≤◌}
use Rattle.fill.proofs.Laws.{Entering}
use Rattle.fill.proofs.fill_entrants.Given as goal

abbrev pub invariant-loop-k : goal.invariant-loop-k
invariant-loop-k l = (l.n ≤ l.k) × Entering l.initial.cells l.k l.n l.cells
