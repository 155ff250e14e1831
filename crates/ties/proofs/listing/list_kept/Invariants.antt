-- The invariant: `list` has counted those kept of the combinations passed.
use mathlib.Core.Path.{◌≡◌}
use Rattle.ties.specs.Ties.{kept_by, listed_of}
use Rattle.ties.proofs.listing.list_kept.Given as goal

abbrev pub invariant-loop-mask : goal.invariant-loop-mask
invariant-loop-mask l = l.list ≡ listed_of (kept_by l.sheet.cells.now l.sheet.size l.table l.tied l.most) l.place l.mask
