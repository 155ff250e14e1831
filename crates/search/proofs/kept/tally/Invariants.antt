-- The invariant: of the stretches passed those kept are counted.
use Prim.Native.Nat.{◌^◌}
use mathlib.Core.Path.{◌≡◌}
use Rattle.ties.specs.Ties.{kept_by, listed_of}
use Rattle.search.specs.Search.{stretch_end, Tallied}
use Rattle.search.proofs.kept.tally.Given as goal

abbrev pub invariant-loop-k : goal.invariant-loop-k
invariant-loop-k l = (l.list ≡ listed_of (kept_by l.sheet.cells.now l.sheet.size l.table l.tied l.aim.most) l.aim.place (stretch_end (2 ^ l.tied.count) l.k)) × Tallied (kept_by l.sheet.cells.now l.sheet.size l.table l.tied l.aim.most) (2 ^ l.tied.count) l.k l.out
