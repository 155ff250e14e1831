-- "two answers allowed by it are proved equal", for the functions that other programs link. Assumes nothing.
use Rattle.std.specs.Prelude.{ℕ, ◌≡◌, List}
use Rattle.std.proofs.Common.{sym, ◌∙◌}
use Rattle.rules.specs.Result.{code_of, length_of, clear_of}

-- what the contract of `gustmirror_clear` allows
pub record Codes (file lent : List ℕ) (r : ℕ) (exit : List ℕ) : Type 0 where
  pub code : r ≡ code_of (clear_of file lent).answer
  pub bytes : exit ≡ (clear_of file lent).exit

pub one_code : (file lent : List ℕ) {r q : ℕ} {s t : List ℕ} → Codes file lent r s → Codes file lent q t → (r ≡ q) × (s ≡ t)
one_code file lent C D = (C.code ∙ sym D.code, C.bytes ∙ sym D.bytes)

-- and that of `gustmirror_result_len`
pub one_length : (file : List ℕ) {m n : ℕ} → m ≡ length_of file → n ≡ length_of file → m ≡ n
one_length file p q = p ∙ sym q
