-- What clearing a round answers; and how the code's answer says it. Assumes nothing.
use Rattle.std.specs.Prelude.{ℕ, Result, Ok, Err}
use Rattle.rules.specs.Reading.{number_of}
use Rattle.rules.specs.declared.Refusal.{Refusal}

-- how many bytes the result has, or a refusal's number and offset
pub data Answer : Type 0 where
  Cleared : (length : ℕ) → Answer
  Refused : (number at : ℕ) → Answer

abbrev pub answer_in : Result ℕ Refusal → Answer
answer_in (Ok length) = Cleared length
answer_in (Err refusal) = Refused (number_of refusal.rule) refusal.at
