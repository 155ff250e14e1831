-- `records::applications::draw_fault` meets its contract: none of the earlier applications passed has the draw.
use mathlib.Core.Path.{◌≡◌}
use Prim.Native.Nat.{ℕ, ◌<◌}
use Rattle.rules.specs.File.{app_at}
use Rattle.records.proofs.applications.draw_fault.Given as goal

abbrev pub invariant-loop-earlier : goal.invariant-loop-earlier
invariant-loop-earlier l = (j : ℕ) → j < l.earlier → (app_at l.recs j).draw ≡ (app_at l.recs l.a).draw → ⊥
