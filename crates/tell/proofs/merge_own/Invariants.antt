-- `tell::merge_own` meets its contract: the places passed are merged.
use Prim.Native.Nat.{ℕ, ◌<◌}
use mathlib.Core.Bool.{Bool}
use mathlib.Core.Path.{◌≡◌}
use Rattle.tell.specs.ToldTo.{merged}
use Rattle.tell.proofs.merge_own.Given as goal

abbrev pub invariant-loop-a : goal.invariant-loop-a
invariant-loop-a g l = (own : ℕ → Bool) (d : _) → ((a : ℕ) (b : Bool) → a < l.n → goal.F-post g l.is_own a b → b ≡ own a) → l.told ≡ merged own l.mine l.initial.told d l.a
