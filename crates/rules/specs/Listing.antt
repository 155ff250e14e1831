-- "The result and its listing": what the printing program prints of a round file, as bytes. Assumes nothing.
use Rattle.std.specs.Prelude.{ℕ, zero, suc, ◌+◌, ◌/◌, ◌%◌, ◌≡◌, refl, List, [], ◌∷◌, ◌++◌, eqb, ltb}
use Prim.Native.Char.{code}
use Prim.Native.String.{String, [] as ended, ◌∷◌ as ◌then◌}
use Rattle.std.proofs.Math.Decide.{dec_le, dec_lt, ℕ_discrete}
use Rattle.rules.specs.Names.{administrative, auctioned, no_price, no_bid}
use Rattle.rules.specs.Lists.{pick, given, both, when, never, one_more, every, how_many, sum}
use Rattle.rules.specs.Bytes.{le, bytes, each}
use Rattle.rules.specs.Value.{exact_parts, hours_of}
use Rattle.rules.specs.File.{Round, deliveries, pots_told, gained_told, sections, round_of, sections_of}
use Rattle.rules.specs.Refusals.{or_else, or_fault, scan, count_fault, record_fault, section, year_fault, pot_fault, tech_fault, app_fault, seven_of, eight_of}
use Rattle.rules.specs.Refusals.{nine_of, bid_fault, eleven_of, judged, reading}
use Rattle.rules.specs.Pot.{Pot, winners, downs, seen, closed, hanging, wide_end, mark, divided, goes_on, at_most, best, all, at_place, value, price_from}
use Rattle.rules.specs.Pot.{tally, within, live, least, lowest, taken, follows, remaining, rank, combination, top_number, full, keeps, kept, number}
use Rattle.rules.specs.Pot.{chosen, choose, ways_of, tied, alone, lost, look, run, auction, admin_total, admin_capacity, admin_fits}
use Rattle.rules.specs.Pot.{outcome, price_in, total_in, paid, unlooked_reason, auction_reason, reason, silent, automatic_reason, winners_of}
use Rattle.rules.specs.Round.{energy_of, cost_of, assemble, at_admin_price, mine, app_mine, row_for, cap_of, drawn_of, pot_of}
use Rattle.rules.specs.Result.{told, told_in, app_told, pot_at}
use Rattle.rules.specs.Written.{nums, joined, counted}
use Rattle.rules.specs.Worked.{round_a, silence}
use Rattle.rules.specs.Reading.{Reading, Accepted, Refused}

-- ---- words and numbers

-- the bytes of a text
abbrev pub ascii : String → List ℕ
ascii ended = []
ascii (c then t) = code c ∷ ascii t

-- a number in decimal, of k digits at the most: what stands before its last digit, and nothing if it is below 10; then its last digit
unfoldable pub decimal_in : (k n : ℕ) → List ℕ
decimal_in zero n = []
decimal_in (suc k) n = pick (ltb n 10) [] (decimal_in k (n / 10)) ++ ((48 + n % 10) ∷ [])

-- the numbers of a listing are below 2^64, which has 20 digits
unfoldable pub decimal : ℕ → List ℕ
decimal n = decimal_in 20 n

-- "Outcomes print as administrative, auction, tie"
unfoldable pub outcome_word : ℕ → List ℕ
outcome_word o = pick (eqb o administrative) (ascii "administrative") (pick (eqb o auctioned) (ascii "auction") (ascii "tie"))

-- "no price or bid as `-`"
unfoldable pub price_word : ℕ → List ℕ
price_word p = pick (eqb p no_price) (ascii "-") (decimal p)

unfoldable pub bid_word : ℕ → List ℕ
bid_word b = pick (eqb b no_bid) (ascii "-") (decimal b)

-- ---- the lines

-- `pot 0 auction`
unfoldable pub pot_line : (p outcome : ℕ) → List ℕ
pot_line p o = ((ascii "pot " ++ decimal p) ++ (ascii " " ++ outcome_word o)) ++ ascii "\n"

-- `year 0 price 4000 total 35040`: "the year's number, clearing price and total"
unfoldable pub year_line : (year price total : ℕ) → List ℕ
year_line y p t = (((ascii "year " ++ decimal y) ++ (ascii " price " ++ price_word p)) ++ (ascii " total " ++ decimal t)) ++ ascii "\n"

-- `application 0 won 4000 bid 0`, `application 1 lost`: "An application line has its number and, if it won, the price paid and the bid"
unfoldable pub won_line : (a paid bid : ℕ) → List ℕ
won_line a p b = (((ascii "application " ++ decimal a) ++ (ascii " won " ++ decimal p)) ++ (ascii " bid " ++ bid_word b)) ++ ascii "\n"

unfoldable pub lost_line : (a : ℕ) → List ℕ
lost_line a = (ascii "application " ++ decimal a) ++ ascii " lost\n"

unfoldable pub app_line : (a won paid bid : ℕ) → List ℕ
app_line a w p b = pick (eqb w 0) (lost_line a) (won_line a p b)

-- `bid 0 reason 1`
unfoldable pub bid_line : (k reason : ℕ) → List ℕ
bid_line k r = ((ascii "bid " ++ decimal k) ++ (ascii " reason " ++ decimal r)) ++ ascii "\n"

-- "A refusal prints only `refused 7 at 120`, its number and offset"
unfoldable pub refusal_line : (number at : ℕ) → List ℕ
refusal_line n at = ((ascii "refused " ++ decimal n) ++ (ascii " at " ++ decimal at)) ++ ascii "\n"

-- ---- the listing

-- "a valuation-only year has no price": the price of year k in a pot of d delivery years
unfoldable pub price_listed : (d : ℕ) → Pot → (k : ℕ) → ℕ
price_listed d P k = pick (ltb k d) (price_in P k) no_price

-- "Year lines follow their pot line, one for each year of the file": pot p, of d delivery years and y years
unfoldable pub pot_lines : (d y p : ℕ) → Pot → List ℕ
pot_lines d y p P = pot_line p (outcome P) ++ each (λ k. year_line k (price_listed d P k) (total_in P k)) y

module _ (R : Round) where
  unfoldable pub app_line_of : ℕ → List ℕ
  app_line_of a = app_line a (app_told R a).won (app_told R a).paid (app_told R a).bid

  -- pots, then applications, then bids
  unfoldable pub round_lines : List ℕ
  round_lines = (each (λ p. pot_lines R.d R.y p (pot_of R p)) R.p ++ each app_line_of R.n) ++ each (λ k. bid_line k (reason (pot_at R k) k)) R.b

unfoldable pub listing_for : Reading → Round → List ℕ
listing_for (Accepted sections) R = round_lines R
listing_for (Refused number at) R = refusal_line number at

-- "The printing program reads a round file on standard input"
unfoldable pub listing_of : (file : List ℕ) → List ℕ
listing_of s = listing_for (reading s) (round_of s)

-- ---- "Round A .. It prints:", with totals in pence (02, CR 11)

abbrev printed : List ℕ
printed =
    ascii "pot 0 auction\n"
    ++ (ascii "year 0 price 4000 total 3504000\n"
    ++ (ascii "year 1 price 5000 total 7884000\n"
    ++ (ascii "application 0 won 4000 bid 0\n"
    ++ (ascii "application 1 lost\n"
    ++ (ascii "application 2 won 5000 bid 2\n"
    ++ (ascii "bid 0 reason 1\n"
    ++ (ascii "bid 1 reason 2\n"
    ++ ascii "bid 2 reason 1\n")))))))

pub listed :
    (listing_of (round_a 100000 100000) ≡ printed)
    -- in outcome 0; of two applications without a bid; of a file that ends within its first count
    × (listing_of (round_a 350400 525600) ≡
    ascii "pot 0 administrative\n"
    ++ (ascii "year 0 price - total 35040000\n"
    ++ (ascii "year 1 price - total 52560000\n"
    ++ (ascii "application 0 won 20000 bid -\n"
    ++ (ascii "application 1 won 20000 bid -\n"
    ++ (ascii "application 2 won 20000 bid -\n"
    ++ (ascii "bid 0 reason 6\n"
    ++ (ascii "bid 1 reason 6\n"
    ++ ascii "bid 2 reason 6\n"))))))))
    × (listing_of silence ≡
    ascii "pot 0 auction\n"
    ++ (ascii "year 0 price - total 0\n"
    ++ (ascii "application 0 lost\n"
    ++ ascii "application 1 lost\n")))
    × (listing_of (2 ∷ []) ≡ ascii "refused 1 at 0\n")
    -- numbers of every digit, and the least of two digits
    × (decimal 9876543210 ≡ ascii "9876543210")
    × (decimal 10 ≡ ascii "10")
unfolding decimal_in decimal outcome_word price_word bid_word pot_line year_line won_line lost_line app_line bid_line refusal_line price_listed pot_lines app_line_of
    round_lines listing_for listing_of nums joined counted given both when never one_more every how_many sum le bytes each exact_parts hours_of deliveries pots_told
    gained_told sections round_of sections_of or_else or_fault scan count_fault record_fault section year_fault pot_fault tech_fault app_fault seven_of eight_of nine_of
    bid_fault eleven_of judged reading winners downs seen closed hanging wide_end mark divided goes_on at_most best all at_place value price_from tally within live
    least lowest taken follows remaining rank combination top_number full keeps kept number chosen choose ways_of tied alone lost look run auction admin_total
    admin_capacity admin_fits outcome price_in total_in paid unlooked_reason auction_reason reason silent automatic_reason winners_of energy_of cost_of assemble
    at_admin_price mine app_mine row_for cap_of drawn_of pot_of told told_in app_told dec_le dec_lt ℕ_discrete
listed = (refl, refl, refl, refl, refl, refl)
