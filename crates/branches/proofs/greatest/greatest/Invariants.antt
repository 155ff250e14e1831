-- The invariant: the best of those from `left` on is found.
use Prim.Native.Nat.{◌^◌, ◌≤◌}
use mathlib.Core.Path.{◌≡◌}
use Rattle.ties.specs.Ties.{ok_by, last_by}
use Rattle.branches.specs.Branches.{goal_of}
use Rattle.branches.proofs.Best.{Sought}
use Rattle.branches.proofs.greatest.greatest.Given as goal

abbrev pub invariant-loop-left : goal.invariant-loop-left
invariant-loop-left l = (l.left ≤ l.initial.left) × Sought (ok_by l.sheet.cells.now l.sheet.size l.table) (last_by l.sheet.size l.table) l.left (2 ^ l.count) l.found × (l.goal ≡ goal_of l.found)

abbrev pub decreases-loop-left : goal.decreases-loop-left
decreases-loop-left l = l.left
