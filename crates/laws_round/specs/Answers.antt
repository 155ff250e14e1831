-- What is known where a round is answered with a result, and where it is refused. Assumes nothing.
use Rattle.std.specs.Prelude.{ℕ, ◌+◌, ◌≤◌, ◌<◌, ◌≡◌, refl, List, [], ◌∷◌, ◌++◌, length, take, drop, ltb}
use Rattle.std.proofs.Common.{sym, ap, ◌∙◌, arith, ltb-false}
use Rattle.rules.specs.Bytes.{onto}
use Rattle.rules.specs.File.{Round, round_of, sections_of}
use Rattle.rules.specs.Refusals.{refusal, judged, reading, IsAccepted}
use Rattle.rules.specs.Result.{result_bytes, needed, refused_as, answer_to, answer_of, after, clear_of}
use Rattle.rules.specs.declared.Sections.{Sections}
use Rattle.rules.specs.Reading.{Reading}
use Rattle.rules.specs.Reading as r
use Rattle.rules.specs.Answer.{Answer, Cleared, Refused}
use Rattle.laws_pot.specs.Lists.{case}
use Rattle.laws_reading.specs.Walk.{or_then, or_passed, section_then, scan_then}
use Rattle.laws_reading.specs.Reading.{Sound, section_right, accepted}
use Rattle.laws_reading.specs.Small.{largest}
use Rattle.laws_reading.specs.Longer.{first_bytes, never_accepted}
use Rattle.laws_round.specs.Places.{At, at_start}
use Rattle.laws_round.specs.Read.{needed_is}

-- ---- a reading without a refusal is the sections

judged_through : (R : Round) (s : List ℕ) (q : Reading) → refusal (judged R s q) ≡ 0 → judged R s q ≡ q
unfolding judged
judged_through R s q e =
    let Y = (section_right _ _ _ _ _ _ _ _ _ e).rest in
    let P = (section_right _ _ _ _ _ _ _ _ _ Y).rest in
    let T = (section_right _ _ _ _ _ _ _ _ _ P).rest in
    let N = (section_right _ _ _ _ _ _ _ _ _ T).rest in
    let B = (section_right _ _ _ _ _ _ _ _ _ N).rest in
    section_then _ _ _ _ _ _ _ _ _ _ e
    ∙ section_then _ _ _ _ _ _ _ _ _ _ Y
    ∙ section_then _ _ _ _ _ _ _ _ _ _ P
    ∙ section_then _ _ _ _ _ _ _ _ _ _ T
    ∙ section_then _ _ _ _ _ _ _ _ _ _ N
    ∙ or_then _ _ _ _ B
    ∙ scan_then _ _ _ _ _ q q (or_passed _ _ _ B).1

pub accepted_is : (s : List ℕ) → IsAccepted s → reading s ≡ r.Accepted (sections_of (round_of s))
unfolding reading
accepted_is s e = judged_through (round_of s) s _ e

-- ---- an answer without a refusal

not_refused : (q : Reading) (need lent : ℕ) → refused_as (answer_to q need lent) ≡ 0 → refusal q ≡ 0
unfolding answer_to refused_as refusal
not_refused (r.Accepted g) need lent e = refl
not_refused (r.Refused m at) need lent e = e

has_room : (g : Sections) (need lent : ℕ) → refused_as (answer_to (r.Accepted g) need lent) ≡ 0
    → (need ≤ lent) × (answer_to (r.Accepted g) need lent ≡ Cleared need)
unfolding answer_to refused_as
has_room g need lent =
    case (ltb lent need) (λ t. rw t (λ e. absurd (omega arith))) (λ t. rw t (λ e. (ltb-false lent need t, refl)))

-- a round that is answered with a result: its file is accepted, and the result stands at the start of the lent bytes
pub record Filled (file lent : List ℕ) : Type 0 where
  pub accepts : IsAccepted file
  pub sound : Sound (round_of file)
  pub room : needed (round_of file) ≤ length lent
  pub answer : (clear_of file lent).answer ≡ Cleared (needed (round_of file))
  pub bytes : (clear_of file lent).exit ≡ onto (result_bytes (round_of file)) lent
  pub result : At (clear_of file lent).exit 0 (result_bytes (round_of file))

pub filled : (file lent : List ℕ) → refused_as (clear_of file lent).answer ≡ 0 → Filled file lent
unfolding clear_of answer_of after onto
filled file lent e =
    let R = round_of file in
    let ok : IsAccepted file = not_refused (reading file) (needed R) (length lent) e in
    let is = accepted_is file ok in
    let room = has_room (sections_of R) (needed R) (length lent) (ap (λ (q : Reading). refused_as (answer_to q (needed R) (length lent))) (sym is) ∙ e) in
    let answer = ap (λ (q : Reading). answer_to q (needed R) (length lent)) is ∙ room.1 in
    let bytes = ap (λ (a : Answer). after a R lent) answer in
    record {
      accepts = ok;
      sound = accepted file ok;
      room = room.0;
      answer = answer;
      bytes = bytes;
      result = rw bytes (at_start (result_bytes R) (drop (length (result_bytes R)) lent));
    }

-- ---- the lent bytes

drop_join : (a b : List ℕ) → drop (length a) (a ++ b) ≡ b
drop_join [] b = refl
drop_join (x ∷ a) b = drop_join a b

-- "bytes after it stay"
pub rest_stays : (file lent : List ℕ) → refused_as (clear_of file lent).answer ≡ 0
    → drop (needed (round_of file)) (clear_of file lent).exit ≡ drop (needed (round_of file)) lent
unfolding onto
rest_stays file lent e =
    let R = round_of file in
    ap (λ (n : ℕ). drop n (clear_of file lent).exit) (sym (needed_is R))
    ∙ ap (drop (length (result_bytes R))) (filled file lent e).bytes
    ∙ drop_join (result_bytes R) (drop (length (result_bytes R)) lent)
    ∙ ap (λ (n : ℕ). drop n lent) (needed_is R)

kept : (a : Answer) (R : Round) (lent : List ℕ) → (refused_as a ≡ 0 → ⊥) → after a R lent ≡ lent
unfolding after refused_as
kept (Cleared n) R lent h = absurd (h refl)
kept (Refused m at) R lent h = refl

-- "A refusal writes nothing"
pub refusal_keeps : (file lent : List ℕ) → (refused_as (clear_of file lent).answer ≡ 0 → ⊥) → (clear_of file lent).exit ≡ lent
unfolding clear_of
refusal_keeps file lent h = kept (answer_of file (length lent)) (round_of file) lent h

-- a refused file's answer, whatever its round
refused_so : (file lent : List ℕ) {m x : ℕ} → reading file ≡ r.Refused m x → clear_of file lent ≡ record { answer = Refused m x; exit = lent }
unfolding clear_of answer_of answer_to after
refused_so file lent e = rw e

-- of a file longer than the largest round only the first bytes matter
pub longer : (file lent : List ℕ) → largest < length file → clear_of file lent ≡ clear_of (take (largest + 1) file) lent
longer file lent h = go (reading file) refl
  where
    go : (q : Reading) → reading file ≡ q → clear_of file lent ≡ clear_of (take (largest + 1) file) lent
    go (r.Accepted g) e = absurd (never_accepted file h e)
    go (r.Refused m x) e = refused_so file lent e ∙ sym (refused_so (take (largest + 1) file) lent (sym (first_bytes file h) ∙ e))
