-- The invariant: none of the bids passed can be added.
use Prim.Native.Nat.{ℕ, ◌<◌}
use mathlib.Core.Bool.{false}
use mathlib.Core.Path.{◌≡◌}
use Rattle.ties.specs.Ties.{ok_by, addable_of}
use Rattle.added.specs.Added.{Roomed}
use Rattle.added.proofs.whole.whole.Given as goal

abbrev pub invariant-loop-place : goal.invariant-loop-place
invariant-loop-place l = Roomed l.sheet.cells.now l.sheet.size l.table l.at.mask l.at.years l.room × ((p : ℕ) → p < l.place → addable_of (ok_by l.sheet.cells.now l.sheet.size l.table) l.mask p ≡ false)
