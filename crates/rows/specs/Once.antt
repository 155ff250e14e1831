-- What is known of an accepted file's sections is known in one way, so that a value may carry it.
use Rattle.std.specs.Prelude.{ℕ, ◌+◌, ◌≡◌}
use Rattle.std.proofs.Common.{ap, inl, inr}
use native.Mathlib.Omega.{arith}
use native.Mathlib.Nat.{ℕ_set}
use Rattle.laws_reading.specs.Reading.{GainedTold}

pub gained_once : (c : ℕ) → IsProp (GainedTold c)
gained_once c (inl a) (inl b) = ap inl (ℕ_set _ _ a b)
gained_once c (inl a) (inr (inl b)) = absurd (omega (arith, a, b))
gained_once c (inl a) (inr (inr b)) = absurd (omega (arith, a, b))
gained_once c (inr (inl a)) (inl b) = absurd (omega (arith, a, b))
gained_once c (inr (inl a)) (inr (inl b)) = ap (λ x. inr (inl x)) (ℕ_set _ _ a b)
gained_once c (inr (inl a)) (inr (inr b)) = absurd (omega (arith, a, b))
gained_once c (inr (inr a)) (inl b) = absurd (omega (arith, a, b))
gained_once c (inr (inr a)) (inr (inl b)) = absurd (omega (arith, a, b))
gained_once c (inr (inr a)) (inr (inr b)) = ap (λ x. inr (inr x)) (ℕ_set _ _ a b)
