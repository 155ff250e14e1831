-- The invariant: `b` is the best of the combinations passed.
use mathlib.Core.Path.{◌≡◌}
use Rattle.ties.specs.Ties.{ok_by, last_by, best_of}
use Rattle.ties.proofs.best.top.Given as goal

abbrev pub invariant-loop-mask : goal.invariant-loop-mask
invariant-loop-mask l = l.b ≡ best_of (ok_by l.sheet.cells.now l.sheet.size l.table) (last_by l.sheet.size l.table) l.mask
