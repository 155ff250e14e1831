-- "The result and its listing": the result's records and bytes, and clearing as a function of a file and the lent bytes. Assumes nothing.
use Rattle.std.specs.Prelude.{ℕ, ◌+◌, ◌*◌, List, [], ◌∷◌, ◌++◌, length, ltb}
use Rattle.rules.specs.Names.{result_short, count_width, no_bid}
use Rattle.rules.specs.Lists.{pick}
use Rattle.rules.specs.Bytes.{bytes, each, onto}
use Rattle.rules.specs.File.{Round, round_of, app_at, bid_at}
use Rattle.rules.specs.Refusals.{reading}
use Rattle.rules.specs.Pot.{Pot, by, outcome, price_in, total_in, paid, reason, automatic_reason, winners_of}
use Rattle.rules.specs.Round.{tech_of, pot_of}
use Rattle.rules.specs.declared.Told.{Told}
use Rattle.rules.specs.Reading.{Reading}
use Rattle.rules.specs.Reading as r
use Rattle.rules.specs.Answer.{Answer, Cleared, Refused}

-- ---- the records

-- "Applications: won 2 (1 or 0), bid 2 (.. 65,535 none), automatic bid's reason 2 (0 where it had sealed bids), price paid 4 (0 if lost)": `Told`; "65,534 and
-- `auto` are no longer written" (02, CR 8). What is told of an application whose winners in outcome 1 are these, and whose automatic reason is `why`
unfoldable pub told : Pot → (why : ℕ) → List ℕ → Told
told P why [] = record { won = 0; bid = no_bid; reason = why; paid = 0 }
told P why (w ∷ ws) = record { won = 1; bid = w; reason = why; paid = paid P w }

-- "each application has won with bid 65,535 and its administrative price" in outcome 0; "no winner in this pot" in outcome 2
unfoldable pub told_in : Pot → (a : ℕ) → Told
told_in P a =
    let why = automatic_reason P a in
    by P
    (record { won = 1; bid = no_bid; reason = why; paid = P.admin_price a })
    (told P why (winners_of P a))
    (record { won = 0; bid = no_bid; reason = why; paid = 0 })

unfoldable pub app_bytes : Told → List ℕ
app_bytes a = ((bytes 2 a.won ++ bytes 2 a.bid) ++ bytes 2 a.reason) ++ bytes 4 a.paid

-- "Pots: outcome 2, clearing price 4 for each delivery year, total 8 for each year", of d delivery years and y years
unfoldable pub pot_bytes : (d y : ℕ) → Pot → List ℕ
pot_bytes d y P = (bytes 2 (outcome P) ++ each (λ k. bytes 4 (price_in P k)) d) ++ each (λ k. bytes 8 (total_in P k)) y

module _ (R : Round) where
  -- the pot of application a, and of bid k
  abbrev pub pot_for : ℕ → Pot
  pot_for a = pot_of R (tech_of R (app_at R.apps a)).pot

  abbrev pub pot_at : ℕ → Pot
  pot_at k = pot_for (bid_at R.bids k).app

  unfoldable pub app_told : ℕ → Told
  app_told a = told_in (pot_for a) a

  -- "Bids: reason 2"
  unfoldable pub bid_bytes : ℕ → List ℕ
  bid_bytes k = bytes 2 (reason (pot_at k) k)

  -- "Each section of the result is filled .. after its count"
  unfoldable pub pots_part : List ℕ
  pots_part = bytes count_width R.p ++ each (λ p. pot_bytes R.d R.y (pot_of R p)) R.p

  unfoldable pub apps_part : List ℕ
  apps_part = bytes count_width R.n ++ each (λ a. app_bytes (app_told a)) R.n

  unfoldable pub bids_part : List ℕ
  bids_part = bytes count_width R.b ++ each bid_bytes R.b

  unfoldable pub result_bytes : List ℕ
  result_bytes = (pots_part ++ apps_part) ++ bids_part

  -- "The result needs 6 + P(2 + 4D + 8Y) + 10N + 2B bytes"
  unfoldable pub needed : ℕ
  needed = 6 + R.p * (2 + 4 * R.d + 8 * R.y) + 10 * R.n + 2 * R.b

-- ---- clearing

-- the paper's number of an answer, 0 where it is no refusal, and its offset
unfoldable pub refused_as : Answer → ℕ
refused_as (Cleared length) = 0
refused_as (Refused number at) = number

unfoldable pub refused_at : Answer → ℕ
refused_at (Cleared length) = 0
refused_at (Refused number at) = at

-- "Then 10, 11, 12"; 12: "the lent result is too short", at 0
unfoldable pub answer_to : Reading → (need lent : ℕ) → Answer
answer_to (r.Accepted sections) need lent = pick (ltb lent need) (Refused result_short 0) (Cleared need)
answer_to (r.Refused number at) need lent = Refused number at

unfoldable pub answer_of : List ℕ → (lent : ℕ) → Answer
answer_of s lent = answer_to (reading s) (needed (round_of s)) lent

-- "bytes after it stay. A refusal writes nothing"
unfoldable pub after : Answer → Round → List ℕ → List ℕ
after (Cleared n) R lent = onto (result_bytes R) lent
after (Refused m at) R lent = lent

-- the answer to a file, and what then stands in the lent bytes
pub record Outcome : Type 0 where
  pub answer : Answer
  pub exit : List ℕ

unfoldable pub clear_of : (file lent : List ℕ) → Outcome
clear_of file lent = let r = answer_of file (length lent) in record { answer = r; exit = after r (round_of file) lent }

-- ---- for other programs: an answer as one number, and how long a result a file needs

-- 0 when cleared, otherwise the refusal's number × 2^32 + its offset
unfoldable pub code_of : Answer → ℕ
code_of (Cleared length) = 0
code_of (Refused number at) = number * 4294967296 + at

-- the length needed, or 0 for a refused file
unfoldable pub length_to : Reading → (need : ℕ) → ℕ
length_to (r.Accepted sections) need = need
length_to (r.Refused number at) need = 0

unfoldable pub length_of : List ℕ → ℕ
length_of s = length_to (reading s) (needed (round_of s))
