-- The promises, as theorems about what the public functions write: `Clears file lent r exit` is the contract of `round::clear`, which answered r and left
-- `exit` in the lent result. Assumes nothing.
use Rattle.std.specs.Prelude.{ℕ, ◌+◌, ◌<◌, ◌≡◌, ◌↔◌, List, length, take, drop}
use Rattle.std.proofs.Common.{sym, ap, ◌∙◌}
use Rattle.rules.specs.Names.{administrative, auctioned, no_reason}
use Rattle.rules.specs.File.{round_of, bid_at}
use Rattle.rules.specs.Refusals.{reading}
use Rattle.rules.specs.Result.{needed, refused_as, length_of, Outcome}
use Rattle.rules.specs.Reading.{Reading}
use Rattle.rules.specs.Answer.{Answer}
use Rattle.laws_reading.specs.Small.{largest}
use Rattle.laws_round.specs.Apart.{DifferElsewhere}
use Rattle.laws_round.specs.Undeclared.{SaveCosts}
use Rattle.laws_round.specs.Third.{Third}
use Rattle.laws_round.specs.First.{FitsFirst}
use Rattle.laws_round.specs.Read.{outcome_at, total_at, told_at, reason_at}
use Rattle.laws_round.specs.Demanded.{SameRecords}
use Rattle.laws_round.specs.Silent.{Unheard, SilentTold}
use Rattle.laws_round.specs.Theorems as laws
use Rattle.round.specs.Round.{Clears, Lists}

-- Demand 3, of each pot that an auction cleared, as the bytes that were written tell it: its sentences are the fields of `Third`
pub third_demand : (file lent : List ℕ) {r : Answer} {exit : List ℕ} → Clears file lent r exit → refused_as r ≡ 0
    → let R = round_of file in
    (p : ℕ) → p < R.p → outcome_at R exit p ≡ auctioned → Third R p (told_at R exit) (total_at R exit p) (reason_at R exit)
third_demand file lent C e = rw C.bytes (laws.third_demand file lent (rw C.answer at e))

-- "If all a pot's applications, at their administrative prices, fit its budget in every year, all win at those prices (outcome 0)", and only then; "The first
-- test counts it as before" (02, CR 8): an application without a sealed bid is one of them; it "also check[s] the cap" (02, CR 5)
pub first_test : (file lent : List ℕ) {r : Answer} {exit : List ℕ} → Clears file lent r exit → refused_as r ≡ 0
    → let R = round_of file in
    (p : ℕ) → p < R.p → (outcome_at R exit p ≡ administrative) ↔ FitsFirst R p
first_test file lent C e = rw C.bytes (laws.first_test file lent (rw C.answer at e))

-- "it is lost with automatic reason 8 in outcome 1, and keeps 7 in outcome 2 .. and in outcome 0 it wins" (02, CR 8): an application without a sealed bid, as
-- the bytes that were written tell it
pub silent_told : (file lent : List ℕ) {r : Answer} {exit : List ℕ} → Clears file lent r exit → refused_as r ≡ 0
    → let R = round_of file in
    (a : ℕ) → a < R.n → Unheard R a → SilentTold R exit a
silent_told file lent C e = rw C.bytes (laws.silent_told file lent (rw C.answer at e))

-- "0 where it had sealed bids"
pub heard_told : (file lent : List ℕ) {r : Answer} {exit : List ℕ} → Clears file lent r exit → refused_as r ≡ 0
    → let R = round_of file in
    (k : ℕ) → k < R.b → (told_at R exit (bid_at R.bids k).app).reason ≡ no_reason
heard_told file lent C e = rw C.bytes (laws.heard_told file lent (rw C.answer at e))

-- "Two accepted files with equal counts that differ only in declared costs, and in budgets, technologies, applications and bids of other pots, each pot's
-- records at the same places, give one pot the same outcome, prices, totals and reasons"; and so where they differ in other pots' caps (02, CR 5)
pub pots_apart : (file other lent lent' : List ℕ) {r q : Answer} {exit exit' : List ℕ} → Clears file lent r exit → Clears other lent' q exit'
    → refused_as r ≡ 0 → refused_as q ≡ 0 → (p : ℕ) → p < (round_of file).p → DifferElsewhere p (round_of file) (round_of other)
    → SameRecords p (round_of file) (round_of other) exit exit'
pots_apart file other lent lent' C D e f p h d =
    rw (C.bytes, D.bytes) (laws.pots_apart file other lent lent' (rw C.answer at e) (rw D.answer at f) p h d)

-- "No declared cost enters any of them": two files of the same bytes but for declared costs get the same answer and the same bytes, refused or cleared
pub no_declared_cost : (file other lent : List ℕ) {r q : Answer} {exit exit' : List ℕ} → Clears file lent r exit → Clears other lent q exit'
    → SaveCosts file other → (r ≡ q) × (exit ≡ exit')
no_declared_cost file other lent C D S =
    let e = laws.no_declared_cost file other lent S in
    (C.answer ∙ ap (λ (x : Outcome). x.answer) e ∙ sym D.answer, C.bytes ∙ ap (λ (x : Outcome). x.exit) e ∙ sym D.bytes)

-- of a file longer than the longest round only its first bytes matter, up to one after where that round ends
pub longer_file : (file lent : List ℕ) {r q : Answer} {exit exit' : List ℕ} → largest < length file → Clears file lent r exit
    → Clears (take (largest + 1) file) lent q exit' → (r ≡ q) × (exit ≡ exit')
longer_file file lent h C D =
    let e = laws.longer_file file lent h in
    (C.answer ∙ ap (λ (x : Outcome). x.answer) e ∙ sym D.answer, C.bytes ∙ ap (λ (x : Outcome). x.exit) e ∙ sym D.bytes)

-- "a refusal leaves the lent result as it was"
pub refusal_writes_nothing : (file lent : List ℕ) {r : Answer} {exit : List ℕ} → Clears file lent r exit → (refused_as r ≡ 0 → ⊥) → exit ≡ lent
refusal_writes_nothing file lent C n = C.bytes ∙ laws.refusal_writes_nothing file lent (λ e. n (ap refused_as C.answer ∙ e))

-- "bytes after it stay"
pub bytes_after_stay : (file lent : List ℕ) {r : Answer} {exit : List ℕ} → Clears file lent r exit → refused_as r ≡ 0
    → drop (needed (round_of file)) exit ≡ drop (needed (round_of file)) lent
bytes_after_stay file lent C e = rw C.bytes (laws.bytes_after_stay file lent (rw C.answer at e))

-- ---- "two answers allowed by it are proved equal", for each public function

pub one_clearing : (file lent : List ℕ) {r q : Answer} {s t : List ℕ} → Clears file lent r s → Clears file lent q t → (r ≡ q) × (s ≡ t)
one_clearing file lent C D = (C.answer ∙ sym D.answer, C.bytes ∙ sym D.bytes)

pub one_listing : (file lent : List ℕ) {m n : ℕ} {s t : List ℕ} → Lists file lent m s → Lists file lent n t → (m ≡ n) × (s ≡ t)
one_listing file lent C D = (C.length ∙ sym D.length, C.bytes ∙ sym D.bytes)

pub one_length : (file : List ℕ) {m n : ℕ} → m ≡ length_of file → n ≡ length_of file → m ≡ n
one_length file p q = p ∙ sym q

-- of `file::read`
pub one_reading : (file : List ℕ) {r q : Reading} → r ≡ reading file → q ≡ reading file → r ≡ q
one_reading file p q = p ∙ sym q
