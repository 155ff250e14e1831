-- An answer as one number. Assumes nothing.
use Prim.Native.Nat.{ℕ, ◌+◌, ◌*◌, ◌≤◌}
use mathlib.Core.Path.{◌≡◌, ap}
use native.Mathlib.Omega.{arith}
use Rattle.rules.specs.Names.{result_short}
use Rattle.rules.specs.Result.{refused_as, refused_at, code_of}
use Rattle.rules.specs.Answer.{Answer, Cleared, Refused}
use Rattle.laws_reading.specs.Small.{largest}
use Rattle.round.specs.Round.{SmallAnswer}

pub number_small : (r : Answer) {m at : ℕ} → SmallAnswer r → r ≡ Refused m at → (m ≤ result_short) × (at ≤ largest)
unfolding refused_as refused_at
number_small r S e = (omega (arith, S.number, ap refused_as e), omega (arith, S.at, ap refused_at e))

pub code_cleared : {r : Answer} {n : ℕ} → r ≡ Cleared n → 0 ≡ code_of r
unfolding code_of
code_cleared e = rw e

pub code_refused : {r : Answer} {m at : ℕ} → r ≡ Refused m at → m * 4294967296 + at ≡ code_of r
unfolding code_of
code_refused e = rw e
