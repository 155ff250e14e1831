-- What the code's answers say of a fault. Assumes nothing.
use Rattle.std.specs.Prelude.{◌≡◌, Result, Ok, Err, IsErrAnd}
use Rattle.std.proofs.Common.{ap}
use native.Mathlib.Omega.{arith}
use Rattle.rules.specs.Reading.{number_of}
use Rattle.rules.specs.declared.Rule.{Rule}
use Rattle.rules.specs.declared.Rule.TheVariants.{EndsEarly, CountOutside, YearBroken, PotBroken, TechBroken, AppBroken, BidBroken, PriceTwice}
use Rattle.rules.specs.declared.Rule.TheVariants.{BidsTooMany, BytesAfter, LowestUneven, ResultShort}

-- a rule's number is not that of no fault
pub numbered : (r : Rule) → number_of r ≡ 0 → ⊥
numbered EndsEarly e = omega arith
numbered CountOutside e = omega arith
numbered YearBroken e = omega arith
numbered PotBroken e = omega arith
numbered TechBroken e = omega arith
numbered AppBroken e = omega arith
numbered BidBroken e = omega arith
numbered PriceTwice e = omega arith
numbered BidsTooMany e = omega arith
numbered BytesAfter e = omega arith
numbered LowestUneven e = omega arith
numbered ResultShort e = omega arith

-- what `?` passes on is the error that it was given
pub passed_on : {T E : Type 0} (r : Result T E) {x : E} → IsErrAnd r (λ y. y ≡ x) → r ≡ Err x
passed_on (Ok t) e = absurd e
passed_on (Err y) e = ap Err e
