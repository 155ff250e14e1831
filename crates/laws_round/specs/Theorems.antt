-- The theorems, each under the sentence of the papers that it answers. `clear_of file lent` is the answer to a file, and what then stands in the lent
-- bytes; a file is cleared where that answer is no refusal. Assumes nothing.
use Rattle.std.specs.Prelude.{ℕ, ◌+◌, ◌/◌, ◌≤◌, ◌<◌, ◌≡◌, false, ◌↔◌, List, map, length, take, drop}
use Rattle.std.proofs.Common.{ap, ◌∙◌, eq-eqb, le-ltb}
use Rattle.std.proofs.Math.Option.{Option, none, some}
use Rattle.rules.specs.Names.{administrative, auctioned, no_reason, cap_width}
use Rattle.rules.specs.File.{Round, round_of, bid_at}
use Rattle.rules.specs.Pot.{Pot, winners, goes_on, live, drawn_after, auction, wide_end}
use Rattle.rules.specs.Round.{assemble, drawn_of, pot_of}
use Rattle.rules.specs.Result.{needed, refused_as, clear_of}
use Rattle.laws_pot.specs.Lists.{In}
use Rattle.laws_reading.specs.Reading.{Sound}
use Rattle.laws_reading.specs.Small.{largest}
use Rattle.laws_round.specs.Undeclared.{SaveCosts, same_clearing}
use Rattle.laws_pot.specs.Mono.{Lawful}
use Rattle.laws_pot.specs.Runs as runs
use Rattle.laws_pot.specs.Once as once
use Rattle.laws_pot.specs.Drawn as drawn
use Rattle.laws_round.specs.Bids.{bid_pot, mine_own, mine_in, bids_in_lem, in_bids, bids_once, differ, lawful}
use Rattle.laws_round.specs.Apart.{DifferElsewhere}
use Rattle.laws_round.specs.Third.{Third}
use Rattle.laws_round.specs.Read.{outcome_at, total_at, told_at, reason_at}
use Rattle.laws_pot.specs.Lowered.{priced, Lowered}
use Rattle.laws_pot.specs.Lower.{still_wins}
use Rattle.laws_round.specs.Answers as answers
use Rattle.laws_round.specs.Demanded as demanded
use Rattle.laws_round.specs.Demanded.{SameRecords}
use Rattle.laws_round.specs.First as first
use Rattle.laws_round.specs.First.{FitsFirst}
use Rattle.laws_round.specs.Silent as silent
use Rattle.laws_round.specs.Silent.{Unheard, SilentTold}

abbrev pub IsCleared : (file lent : List ℕ) → Type 0
IsCleared file lent = refused_as (clear_of file lent).answer ≡ 0

-- Demand 3, of each pot that an auction cleared (outcome 1), as the result's own bytes tell it: its sentences are the fields of `Third`
pub third_demand : (file lent : List ℕ) → IsCleared file lent
    → let R = round_of file in
    let s = (clear_of file lent).exit in
    (p : ℕ) → p < R.p → outcome_at R s p ≡ auctioned → Third R p (told_at R s) (total_at R s p) (reason_at R s)
third_demand = demanded.demand_3

-- "an application without a sealed bid takes no part in the auction" (02, CR 8): the auction's bids are the file's sealed bids of the pot
pub auction_bids : (R : Round) (p k : ℕ) → In k (pot_of R p).bids ↔ ((k < R.b) × (bid_pot R k ≡ p))
auction_bids R p k = (λ i. mine_in R p k (bids_in_lem R p k i), λ z. in_bids R p k (mine_own R p k z.0 ∙ eq-eqb _ p z.1))

-- "If all a pot's applications, at their administrative prices, fit its budget in every year, all win at those prices (outcome 0)", and only then; "The first
-- test counts it as before" (02, CR 8): an application without a sealed bid is one of them; it "also check[s] the cap" (02, CR 5)
pub first_test : (file lent : List ℕ) → IsCleared file lent
    → let R = round_of file in
    let s = (clear_of file lent).exit in
    (p : ℕ) → p < R.p → (outcome_at R s p ≡ administrative) ↔ FitsFirst R p
first_test = first.first_test

-- "it is lost with automatic reason 8 in outcome 1, and keeps 7 in outcome 2 .. and in outcome 0 it wins" (02, CR 8), as the result's own bytes tell it
pub silent_told : (file lent : List ℕ) → IsCleared file lent
    → let R = round_of file in
    let s = (clear_of file lent).exit in
    (a : ℕ) → a < R.n → Unheard R a → SilentTold R s a
silent_told = silent.silent_told

-- "0 where it had sealed bids", whatever the outcome
pub heard_told : (file lent : List ℕ) → IsCleared file lent
    → let R = round_of file in
    let s = (clear_of file lent).exit in
    (k : ℕ) → k < R.b → (told_at R s (bid_at R.bids k).app).reason ≡ no_reason
heard_told = silent.heard_told

-- "Two accepted files with equal counts that differ only in declared costs, and in budgets, technologies, applications and bids of other pots, each pot's
-- records at the same places, give one pot the same outcome, prices, totals and reasons"; and so where they differ in other pots' caps (02, CR 5)
pub pots_apart : (file other lent lent' : List ℕ) → IsCleared file lent → IsCleared other lent' → (p : ℕ) → p < (round_of file).p
    → DifferElsewhere p (round_of file) (round_of other) → SameRecords p (round_of file) (round_of other) (clear_of file lent).exit (clear_of other lent').exit
pots_apart = demanded.cleared_apart

-- "No declared cost enters any of them": two files of the same bytes but for declared costs get the same answer and the same bytes, refused or cleared
pub no_declared_cost : (file other lent : List ℕ) → SaveCosts file other → clear_of file lent ≡ clear_of other lent
no_declared_cost file other lent D = same_clearing file other D lent

-- of a file longer than the longest round only its first bytes matter, up to one after where that round ends
pub longer_file : (file lent : List ℕ) → largest < length file → clear_of file lent ≡ clear_of (take (largest + 1) file) lent
longer_file = answers.longer

-- "A refusal writes nothing."
pub refusal_writes_nothing : (file lent : List ℕ) → (IsCleared file lent → ⊥) → (clear_of file lent).exit ≡ lent
refusal_writes_nothing = answers.refusal_keeps

-- "bytes after it stay"
pub bytes_after_stay : (file lent : List ℕ) → IsCleared file lent → drop (needed (round_of file)) (clear_of file lent).exit ≡ drop (needed (round_of file)) lent
bytes_after_stay = answers.rest_stays

-- "The pot ends when no bid is live": of each pot of an accepted file that no tie too wide ended
pub pot_ends : (R : Round) → Sound R → (p : ℕ) → wide_end (auction (pot_of R p)) ≡ false → (c : ℕ)
    → In c (pot_of R p).bids → live (pot_of R p) (auction (pot_of R p)) c ≡ false
pot_ends R S p = runs.none_live (pot_of R p) (lawful R p S)

-- "after no more steps than it has bids"
pub few_steps : (P : Pot) → length (auction P) ≤ length P.bids
few_steps = runs.steps_most

-- no bid wins twice, and no application
pub wins_once : (R : Round) → Sound R → (p : ℕ) → once.NoneTwice (winners (auction (pot_of R p)))
    × once.NoneTwice (map (pot_of R p).app (winners (auction (pot_of R p))))
wins_once R S p = (once.winners_once (pot_of R p) (bids_once R p), once.apps_once (pot_of R p) (lawful R p S) (differ R p S) (bids_once R p))

-- "If there are m .." (02, CR 6): at every step of an auction there is one, so that no drawn number is divided by 0; and after its steps the number has been
-- divided by the ways of all of them
pub always_a_way : (R : Round) → Sound R → (p : ℕ) → 0 < drawn.all_ways (auction (pot_of R p))
always_a_way R S p = drawn.auction_ways (pot_of R p) (lawful R p S)

pub number_left : (R : Round) (p d : ℕ) → (pot_of R p).drawn ≡ some d
    → drawn_after (pot_of R p) (auction (pot_of R p)) ≡ some (d / drawn.all_ways (auction (pot_of R p)))
number_left R p d e = ap (λ (n : Option ℕ). goes_on n (auction (pot_of R p))) e ∙ drawn.goes_on_is d (auction (pot_of R p))

-- "Without drawn numbers the rule of 01 stands" (02, CR 6): the pots of a file without them have none, and keep none
pub no_number : (R : Round) (p : ℕ) → R.c ≤ cap_width → (pot_of R p).drawn ≡ none
unfolding pot_of assemble drawn_of
no_number R p h = rw (le-ltb cap_width R.c h)

-- Change request 3, of a pot: an application's single bid that won still wins where its price alone is lowered, to one that no other bid of the pot carries
pub lower_still_wins : (P : Pot) (b : ℕ) (price : ℕ → ℕ) → Lawful P → Lowered P b price → In b (winners (auction P)) → In b (winners (auction (priced P price)))
lower_still_wins P b price L W = still_wins P b price W L
