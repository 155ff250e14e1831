-- What the reading of an accepted file says to those who clear it, and one law for each return. Assumes nothing.
use Prim.Native.Nat.{ℕ, ◌≤◌, ◌<◌}
use mathlib.Core.Path.{◌≡◌, refl, sym, ap, ◌∙◌}
use Rattle.std.specs.Prelude.{Result, Ok, Err, MatchResult}
use Rattle.rules.specs.Reading.{reading_in}
use Rattle.rules.specs.declared.Refusal.{Refusal}
use mathlib.Core.List.{List}
use native.Mathlib.Omega.{arith}
use lib.ListN.{length}
use borrow.Author.Tests.{lt-ltb, le-ltb}
use Rattle.rules.specs.Names.{result_short}
use Rattle.rules.specs.Bytes.{onto}
use Rattle.rules.specs.File.{Round, round_of, sections_of}
use Rattle.rules.specs.Refusals.{refusal, place, reading}
use Rattle.rules.specs.Result.{needed, result_bytes, refused_as, refused_at, answer_to, answer_of, after, clear_of, length_to, length_of}
use Rattle.rules.specs.declared.Sections.{Sections}
use Rattle.rules.specs.Reading as r
use Rattle.rules.specs.Answer.{Cleared, Refused}
use Rattle.laws_reading.specs.Reading.{Sound}
use Rattle.laws_reading.specs.Fault.{handed_on}
use Rattle.laws_reading.specs.Small.{largest, reading_small}
use Rattle.rows.specs.Rows.{round_in, Held}
use Rattle.rows.proofs.Accepted.{accepted}
use Rattle.result.specs.declared.Tellings.{Tellings}
use Rattle.result.specs.Tells.{InRange, Counted, Tells}
use Rattle.rules.specs.Listing.{refusal_line, round_lines, listing_for, listing_of}
use Rattle.lines.specs.Printed.{Printed}
use Rattle.listing.specs.ToldLines.{longest, longest_refusal}
use Rattle.round.specs.Round.{Clears, SmallAnswer, listed, Lists}

-- what is known of an accepted file and its sections
pub record Handed (s : List ℕ) (z : Sections) : Type 0 where
  pub round : round_in s z ≡ round_of s
  pub held : Held s z
  pub ranges : InRange z
  pub counted : Counted (round_of s) z

counts_of : (R : Round) → Sound R → InRange (sections_of R) × Counted R (sections_of R)
unfolding sections_of
counts_of R S = (
  record { years = S.years_most; deliveries = S.deliveries_few; pots = S.pots_few; apps = S.apps_few; bids = S.bids_few },
  record { years = refl; deliveries = refl; pots = refl; apps = refl; bids = refl },
)

pub handed : (s : List ℕ) {z : Sections} → reading s ≡ r.Accepted z → Handed s z
handed s e =
    let h = handed_on s e in
    let a = accepted s e in
    let c = counts_of (round_of s) h.1 in
    record { round = a.0; held = a.1; ranges = rw h.0 c.0; counted = rw h.0 c.1 }

-- ---- one law for each return

pub parts_told : (s : List ℕ) {z : Sections} {t : Tellings} → Handed s z → Tells (round_in s z) t → Tells (round_of s) t
parts_told s h t = rw h.round at t

-- the lent result is too short
pub short : (s lent : List ℕ) {z : Sections} {need : ℕ} → reading s ≡ r.Accepted z → need ≡ needed (round_of s) → length lent < need
    → Clears s lent (Refused result_short 0) lent × SmallAnswer (Refused result_short 0)
unfolding clear_of answer_of answer_to after refused_as refused_at
short s lent e q h = (
  record {
    answer = rw (e, lt-ltb (length lent) (needed (round_of s)) (omega arith));
    bytes = rw (e, lt-ltb (length lent) (needed (round_of s)) (omega arith));
  },
  record { number = omega arith; at = omega arith },
)

-- the result is written
pub written : (s lent : List ℕ) {z : Sections} {need : ℕ} {exit : List ℕ} → reading s ≡ r.Accepted z → need ≡ needed (round_of s) → need ≤ length lent
    → exit ≡ onto (result_bytes (round_of s)) lent → Clears s lent (Cleared need) exit × SmallAnswer (Cleared need)
unfolding clear_of answer_of answer_to after refused_as refused_at
written s lent e q h b = (
  record {
    answer = rw (e, q, le-ltb (length lent) (needed (round_of s)) (omega arith));
    bytes = b
        ∙ rw (e, le-ltb (length lent) (needed (round_of s)) (omega arith));
  },
  record { number = omega arith; at = omega arith },
)

-- the file is refused
pub turned_away : (s lent : List ℕ) {m at : ℕ} → reading s ≡ r.Refused m at → Clears s lent (Refused m at) lent × SmallAnswer (Refused m at)
unfolding clear_of answer_of answer_to after refused_as refused_at refusal place
turned_away s lent {m} {at} e =
    let z = reading_small s in
    let n : m ≤ 11 = omega (arith, z.number, ap refusal e) in
    let p : at ≤ largest = omega (arith, z.at, ap place e) in
    (record { answer = rw e; bytes = rw e }, record { number = omega arith; at = p })

pub length_needed : (s : List ℕ) {z : Sections} {n : ℕ} → reading s ≡ r.Accepted z → n ≡ needed (round_of s) → n ≡ length_of s
unfolding length_of length_to
length_needed s e q = rw e q

pub length_none : (s : List ℕ) {m at : ℕ} → reading s ≡ r.Refused m at → 0 ≡ length_of s
unfolding length_of length_to
length_none s e = rw e

-- how long a result is needed, whatever the reading answers
pub length_read : (s : List ℕ) (q : Result Sections Refusal) {n : ℕ} (P : Sections → Type 0) → reading_in q ≡ reading s → MatchResult q P (λ _. n ≡ 0)
    → ((z : Sections) → P z → (R : Round) → Counted R z → n ≡ needed R) → n ≡ length_of s
length_read s (Ok z) P p m k = length_needed s (sym p) (k z m _ (handed s (sym p)).counted)
length_read s (Err e) P p m k = m ∙ length_none s (sym p)

-- ---- the listing

pub text_short : (s lent : List ℕ) → length lent < longest → Lists s lent 0 lent
unfolding listed
text_short s lent h = record { length = rw (lt-ltb (length lent) longest h); bytes = rw (lt-ltb (length lent) longest h) }

pub lines_listed : (s lent : List ℕ) {z : Sections} {n : ℕ} {exit : List ℕ} → reading s ≡ r.Accepted z → longest ≤ length lent
    → (n ≡ length (round_lines (round_of s))) × (exit ≡ onto (round_lines (round_of s)) lent) → Lists s lent n exit
unfolding listed listing_of listing_for
lines_listed s lent e h p = record { length = rw (le-ltb (length lent) longest h, e) p.0; bytes = rw (le-ltb (length lent) longest h, e) p.1 }

pub refusal_listed : (s lent : List ℕ) {m at n : ℕ} {exit : List ℕ} → reading s ≡ r.Refused m at → longest ≤ length lent
    → Printed (refusal_line m at) longest_refusal lent exit n → Lists s lent n exit
unfolding listed listing_of listing_for
refusal_listed s lent e h p =
    record { length = rw (le-ltb (length lent) longest h, e) p.long; bytes = rw (le-ltb (length lent) longest h, e) p.filled.bytes }
