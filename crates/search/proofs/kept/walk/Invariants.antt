-- The invariant: those kept of the combinations passed are counted.
use Prim.Native.Nat.{◌-◌, ◌≤◌}
use mathlib.Core.Path.{◌≡◌}
use Rattle.ties.specs.Ties.{kept_by, listed_of}
use Rattle.search.proofs.kept.walk.Given as goal

abbrev pub invariant-loop-mask : goal.invariant-loop-mask
invariant-loop-mask l = (l.mask ≤ l.end) × (l.list ≡ listed_of (kept_by l.sheet.cells.now l.sheet.size l.table l.tied l.aim.most) l.aim.place l.mask)

abbrev pub decreases-loop-mask : goal.decreases-loop-mask
decreases-loop-mask l = l.end - l.mask
