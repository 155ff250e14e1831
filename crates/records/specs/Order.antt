-- Records judged in file order, by what the judge of each may answer. Assumes nothing.
use Rattle.std.specs.Prelude.{ℕ, ◌≡◌, ◌+◌, ◌*◌, ◌<◌, Result, Ok, Err, ⊤}
use Rattle.rules.specs.declared.Rule.{Rule}
use Rattle.rules.specs.declared.Refusal.{Refusal}

-- no record before record n is at fault
pub record NoneBefore (post : ℕ → Result ⊤ Rule → Type 0) (n : ℕ) : Type 0 where
  pub none : (j : ℕ) → j < n → post j (Ok tt)

-- none of n is at fault, or record i is the first
pub data InOrder (post : ℕ → Result ⊤ Rule → Type 0) (n base width : ℕ) : Result ⊤ Refusal → Type 0 where
  right : NoneBefore post n → InOrder post n base width (Ok tt)
  wrong : (i : ℕ) → i < n → (r : Rule) → post i (Err r) → NoneBefore post i → (at : ℕ) → at ≡ base + i * width → InOrder post n base width (Err (record { rule = r; at = at }))
