-- The worked cases of document 01, restated in pence (02, CR 11), from the file's bytes to the result's, as rows under a single theorem; and rows of our own
-- for what they leave open. Assumes nothing.
use Rattle.std.specs.Prelude.{ℕ, ◌+◌, ◌*◌, ◌/◌, ◌^◌, ◌≡◌, refl, Bool, true, false, List, [], ◌∷◌, ◌++◌, ltb, length, replicate}
use Rattle.std.proofs.Math.Option.{none}
use Rattle.std.proofs.Math.Decide.{dec_le, dec_lt, ℕ_discrete}
use Rattle.rules.specs.Names.{no_cap, no_price}
use Rattle.rules.specs.Lists.{pick, below, given, both, when, never, one_more, every, how_many, sum}
use Rattle.rules.specs.Bytes.{le, bytes, each, onto}
use Rattle.rules.specs.Value.{exact_parts, hours_of}
use Rattle.rules.specs.File.{deliveries, pots_told, gained_told, sections, round_of, sections_of}
use Rattle.rules.specs.Refusals.{or_else, or_fault, scan, count_fault, record_fault, section, year_fault, pot_fault, tech_fault, app_fault, seven_of, eight_of}
use Rattle.rules.specs.Refusals.{nine_of, bid_fault, eleven_of, judged, reading, refusal, place}
use Rattle.rules.specs.Pot.{Pot, winners, downs, seen, closed, hanging, wide_end, mark, divided, goes_on, at_most, best, all, at_place, value, price_from, tally}
use Rattle.rules.specs.Pot.{within, live, least, lowest, taken, follows, remaining, rank, combination, top_number, full, keeps, kept, number, chosen}
use Rattle.rules.specs.Pot.{choose, ways_of, tied, alone, lost, look, run, auction, admin_total, admin_capacity, admin_fits, outcome}
use Rattle.rules.specs.Pot.{price_in, total_in, paid, unlooked_reason, auction_reason, reason, silent, automatic_reason, winners_of}
use Rattle.rules.specs.Round.{energy_of, cost_of, assemble, at_admin_price, mine, app_mine, row_for, cap_of, drawn_of, pot_of}
use Rattle.rules.specs.Result.{told, told_in, app_told, app_bytes, pot_bytes, bid_bytes, pots_part, apps_part, bids_part, result_bytes, needed, answer_to, answer_of}
use Rattle.rules.specs.Result.{after, clear_of, refused_as, refused_at, code_of, length_to, length_of}
use Rattle.rules.specs.Written.{nums, joined, counted, times, year_with, year, budgets, figures_with, figures, tech, app_with, bid_with, app, bid, file}
use Rattle.rules.specs.Written.{single, pot_under, pots_under, single_under, pot_drawn, pots_drawn, single_drawn, pot_told, line_with, line, result}
use Rattle.rules.specs.Answer.{Cleared, Refused}

-- the result of a file is r, and the three bytes lent beyond it stay
abbrev Gives : (file r : List ℕ) → Type 0
Gives file r = clear_of file (replicate (3 + length r) 9) ≡ record { answer = Cleared (length r); exit = r ++ (9 ∷ 9 ∷ 9 ∷ []) }

-- ---- the marked cases

-- "Round A", with its budgets
abbrev pub round_a : (first second : ℕ) → List ℕ
round_a b0 b1 =
    file (year ∷ year ∷ []) (budgets (b0 ∷ b1 ∷ []) ∷ []) (tech 0 10000 (figures ∷ figures ∷ []) ∷ []) (app 0 0 100 ∷ app 0 1 100 ∷ app 1 2 100 ∷ [])
    (bid 0 0 100 4000 ∷ bid 1 0 100 6000 ∷ bid 2 1 100 5000 ∷ [])

-- the result that the listing prints
abbrev listed : List ℕ
listed = result (pot_told 1 (4000 ∷ 5000 ∷ []) (3504000 ∷ 7884000 ∷ []) ∷ []) (line 1 0 4000 ∷ line 0 65535 0 ∷ line 1 2 5000 ∷ []) (1 ∷ 2 ∷ 1 ∷ [])

-- all three win
abbrev all_win : List ℕ
all_win = result (pot_told 1 (6000 ∷ 5000 ∷ []) (10512000 ∷ 14892000 ∷ []) ∷ []) (line 1 0 6000 ∷ line 1 1 6000 ∷ line 1 2 5000 ∷ []) (1 ∷ 1 ∷ 1 ∷ [])

-- "T1, T2 and F1 have year 0 alone"
abbrev tied_apps : List (List ℕ)
tied_apps = app 0 5 200 ∷ app 0 3 100 ∷ app 0 4 100 ∷ []

abbrev tied_bids : List (List ℕ)
tied_bids = bid 0 0 200 4000 ∷ bid 1 0 100 4000 ∷ bid 2 0 100 4000 ∷ []

abbrev tied_at : (budget : ℕ) → List ℕ
tied_at b = single b tied_apps tied_bids

-- their results: the first two win; the last two
abbrev first_two : List ℕ
first_two = result (pot_told 1 (4000 ∷ []) (10512000 ∷ []) ∷ []) (line 1 0 4000 ∷ line 1 1 4000 ∷ line 0 65535 0 ∷ []) (1 ∷ 1 ∷ 3 ∷ [])

abbrev last_two : List ℕ
last_two = result (pot_told 1 (4000 ∷ []) (7008000 ∷ []) ∷ []) (line 0 65535 0 ∷ line 1 1 4000 ∷ line 1 2 4000 ∷ []) (3 ∷ 1 ∷ 1 ∷ [])

-- one application, whose value in year 0 is the total of the first test
abbrev valued : (capacity price reference load tlm rqm days : ℕ) → List ℕ
valued capacity price reference load tlm rqm days =
    file (year_with days 1 tlm ∷ []) (budgets (1000000000000 ∷ []) ∷ []) (tech 0 rqm (figures_with price reference load ∷ []) ∷ [])
    (app_with 0 0 days 0 capacity 0 ∷ []) []

-- it wins at its administrative price
abbrev worth : (price value : ℕ) → List ℕ
worth price v = result (pot_told 0 (no_price ∷ []) (v ∷ []) ∷ []) (line_with 1 65535 6 price ∷ []) []

-- V1 to V5, A1 to A4, T1, T2, F1
abbrev Marked : Type 0
Marked =
    -- Round A as listed
    Gives (round_a 100000 100000) listed
    -- A1, A2
    × Gives (round_a 105120 148920) all_win
    × Gives (round_a 105120 148919) listed
    -- A3, A4
    × Gives (round_a 350400 525600)
    (result (pot_told 0 (no_price ∷ no_price ∷ []) (35040000 ∷ 52560000 ∷ []) ∷ [])
    (line 1 65535 20000 ∷ line 1 65535 20000 ∷ line 1 65535 20000 ∷ []) (6 ∷ 6 ∷ 6 ∷ []))
    × Gives (round_a 350400 525599) all_win
    -- T1, T2
    × Gives (tied_at 105120) first_two
    × Gives (tied_at 105119) last_two
    -- F1
    × Gives (single 60000 (app 0 0 200 ∷ []) (bid 0 0 200 6000 ∷ bid 0 0 100 6001 ∷ []))
    (result (pot_told 1 (6001 ∷ []) (5256876 ∷ []) ∷ []) (line 1 1 6001 ∷ []) (2 ∷ 1 ∷ []))
    -- V1 to V5; V2's exact cost, 130,347,617.4 pence
    × Gives (valued 1000 100000 50000 3000 90 10000 365) (worth 100000 130217400)
    × Gives (valued 1001 100000 50000 3000 90 10000 365) (worth 100000 130347618)
    × ((pot_of (round_of (valued 1001 100000 50000 3000 90 10000 365)) 0).admin_cost 0 0 ≡ 1303476174 * 10 ^ 14)
    × Gives (valued 1000 40000 50000 3000 90 10000 365) (worth 40000 0)
    × Gives (valued 1000 50000 50000 3000 90 10000 365) (worth 50000 0)
    × Gives (valued 300000 500000 0 10000 0 10000 366) (worth 500000 1317600000000)

-- ---- rows of our own, for what the marked ones leave open

-- two applications without a sealed bid, which the first test counts
abbrev pub silence : List ℕ
silence = single 200000 (app 0 1 100 ∷ app 0 0 100 ∷ []) []

abbrev Own : Type 0
Own =
    -- a dearer bid that would fit, after its year has closed: it is not looked at
    Gives (single 60000 (app 0 0 200 ∷ app 0 1 100 ∷ []) (bid 0 0 200 6000 ∷ bid 1 0 100 6100 ∷ []))
    (result (pot_told 1 (no_price ∷ []) (0 ∷ []) ∷ []) (line 0 65535 0 ∷ line 0 65535 0 ∷ []) (2 ∷ 5 ∷ []))
    -- a flexible bid of the same year, behind another application's cheaper bid
    × Gives (single 60000 (app 0 0 200 ∷ app 0 1 200 ∷ []) (bid 0 0 200 6000 ∷ bid 0 0 100 6200 ∷ bid 1 0 200 6100 ∷ []))
    (result (pot_told 1 (no_price ∷ []) (0 ∷ []) ∷ []) (line 0 65535 0 ∷ line 0 65535 0 ∷ []) (2 ∷ 5 ∷ 5 ∷ []))
    -- an administrative price that is lower in the later year: pay is capped by that of the start year
    × Gives (file (year ∷ year ∷ []) (budgets (100000 ∷ 100000 ∷ []) ∷ []) (tech 0 10000 (figures ∷ figures_with 5000 0 10000 ∷ []) ∷ []) (app 0 0 100 ∷ [])
    (bid 0 0 100 6000 ∷ []))
    (result (pot_told 1 (6000 ∷ no_price ∷ []) (5256000 ∷ 5256000 ∷ []) ∷ []) (line 1 0 6000 ∷ []) (1 ∷ []))
    -- no sealed bid at all (02, CR 8): both are lost with automatic reason 8, and no price is set; and one bid, which wins: the other application has 8
    × Gives silence (result (pot_told 1 (no_price ∷ []) (0 ∷ []) ∷ []) (line_with 0 65535 8 0 ∷ line_with 0 65535 8 0 ∷ []) [])
    × Gives (single 200000 (app 0 1 100 ∷ app 0 0 100 ∷ []) (bid 0 0 100 20000 ∷ []))
    (result (pot_told 1 (20000 ∷ []) (17520000 ∷ []) ∷ []) (line 1 0 20000 ∷ line_with 0 65535 8 0 ∷ []) (1 ∷ []))
    -- and within the budget, where the application without a bid wins too
    × Gives (single 350400 (app 0 1 100 ∷ app 0 0 100 ∷ []) (bid 0 0 100 20000 ∷ []))
    (result (pot_told 0 (no_price ∷ []) (35040000 ∷ []) ∷ []) (line 1 65535 20000 ∷ line_with 1 65535 6 20000 ∷ []) (6 ∷ []))
    -- two winners whose values are no whole pence: each is rounded up, not their sum
    × Gives (file (year_with 365 1 90 ∷ []) (budgets (2606954 ∷ []) ∷ []) (tech 0 10000 (figures_with 500000 50000 3000 ∷ []) ∷ []) (app 0 0 1001 ∷
    app 0 1 1001 ∷ []) (bid 0 0 1001 100000 ∷ bid 1 0 1001 100000 ∷ []))
    (result (pot_told 1 (100000 ∷ []) (260695236 ∷ []) ∷ []) (line 1 0 100000 ∷ line 1 1 100000 ∷ []) (1 ∷ 1 ∷ []))
    -- a clearing price above a winner's administrative price: it is valued and paid at the latter
    × Gives (file (year ∷ []) (budgets (230000 ∷ []) ∷ []) (tech 0 10000 (figures_with 10000 0 10000 ∷ []) ∷ tech 0 10000 (figures ∷ []) ∷ [])
    (app 0 0 100 ∷ app_with 1 0 365 1 100 0 ∷ []) (bid 0 0 100 9000 ∷ bid 1 0 100 15000 ∷ []))
    (result (pot_told 1 (15000 ∷ []) (21900000 ∷ []) ∷ []) (line 1 0 10000 ∷ line 1 1 15000 ∷ []) (1 ∷ 1 ∷ []))
    -- two pots, a leap year and a valuation-only one; days, TLM, RQM, reference, load factor and capacity all matter
    × Gives (file (year_with 365 1 100 ∷ year_with 366 1 200 ∷ year_with 365 0 300 ∷ []) (budgets (100000 ∷ 100000 ∷ 100000 ∷ []) ∷ budgets (800000 ∷
    2200000 ∷ 2000000 ∷ []) ∷ []) (tech 1 9000 (figures_with 60000 10000 3000 ∷ figures_with 50000 20000 4000 ∷ figures_with 0 30000 5000 ∷ []) ∷
    tech 0 10000 (figures ∷ figures ∷ figures_with 0 0 10000 ∷ []) ∷ []) (app_with 0 0 200 7 1234 999 ∷ app_with 0 1 366 1 777 0 ∷ app_with 1 0 365 2 100 5 ∷
    []) (bid_with 0 0 200 1234 45000 ∷ bid_with 1 1 300 700 40000 ∷ bid 2 0 100 4000 ∷ []))
    (result (pot_told 1 (4000 ∷ no_price ∷ []) (3468960 ∷ 3443328 ∷ 3398880 ∷ []) ∷ pot_told 1 (45000 ∷ 40000 ∷ []) (55414498 ∷ 131166242 ∷ 97543608 ∷ []) ∷ [])
    (line 1 0 45000 ∷ line 1 1 40000 ∷ line 1 2 4000 ∷ []) (1 ∷ 1 ∷ 1 ∷ []))
    -- a bid not looked at, whose application has won
    × Gives (single 150000 (app 0 0 200 ∷ app 0 1 300 ∷ []) (bid 0 0 100 4000 ∷ bid 0 0 200 5000 ∷ bid 1 0 300 5000 ∷ bid 1 0 200 6000 ∷ []))
    (result (pot_told 1 (4000 ∷ []) (3504000 ∷ []) ∷ []) (line 1 0 4000 ∷ line 0 65535 0 ∷ []) (1 ∷ 4 ∷ 2 ∷ 2 ∷ []))
    -- an application's own dearer bid is looked at next where no other bid is lower: it wins and the year closes
    × Gives (single 110000 (app 0 0 300 ∷ app 0 1 100 ∷ []) (bid 0 0 300 6000 ∷ bid 0 0 200 6001 ∷ bid 1 0 100 6100 ∷ []))
    (result (pot_told 1 (6001 ∷ []) (10513752 ∷ []) ∷ []) (line 1 1 6001 ∷ line 0 65535 0 ∷ []) (2 ∷ 1 ∷ 5 ∷ []))
    -- pence left over make room for the third bid: in whole pounds it would be turned down
    × Gives (single 157943 (app 0 0 100 ∷ app 0 1 100 ∷ app 0 2 100 ∷ []) (bid 0 0 100 5990 ∷ bid 1 0 100 6000 ∷ bid 2 0 100 6010 ∷ []))
    (result (pot_told 1 (6010 ∷ []) (15794280 ∷ []) ∷ []) (line 1 0 6010 ∷ line 1 1 6010 ∷ line 1 2 6010 ∷ []) (1 ∷ 1 ∷ 1 ∷ []))
    -- two bids whose exact costs are together the budget, and whose values are a penny more: they do not both win
    × Gives (single 175638 (app 0 0 201 ∷ app 0 1 299 ∷ []) (bid 0 0 201 4010 ∷ bid 1 0 299 4010 ∷ []))
    (result (pot_told 1 (4010 ∷ []) (10503153 ∷ []) ∷ []) (line 0 65535 0 ∷ line 1 1 4010 ∷ []) (3 ∷ 1 ∷ []))
    -- two tied bids that come as close to the budget as each other in pounds, and not in pence: the closer wins, though its draw is the higher
    × Gives (single 10 (app 0 0 8 ∷ app 0 1 9 ∷ []) (bid 0 0 8 10 ∷ bid 1 0 9 10 ∷ []))
    (result (pot_told 1 (10 ∷ []) (789 ∷ []) ∷ []) (line 0 65535 0 ∷ line 1 1 10 ∷ []) (3 ∷ 1 ∷ []))

-- ---- caps (02, CR 5)

-- round A's technology in year 0
abbrev tech_a : List (List ℕ)
tech_a = tech 0 10000 (figures ∷ []) ∷ []

-- two of 1.00 MW, bids at 4,000 and 5,000, money for both at any price
abbrev two_under : (cap : ℕ) → List ℕ
two_under cap = single_under 1000000 cap tech_a (app 0 0 100 ∷ app 0 1 100 ∷ []) (bid 0 0 100 4000 ∷ bid 1 0 100 5000 ∷ [])

abbrev both_at_admin : List ℕ
both_at_admin = result (pot_told 0 (no_price ∷ []) (35040000 ∷ []) ∷ []) (line 1 65535 20000 ∷ line 1 65535 20000 ∷ []) (6 ∷ 6 ∷ [])

abbrev first_alone : List ℕ
first_alone = result (pot_told 1 (4000 ∷ []) (3504000 ∷ []) ∷ []) (line 1 0 4000 ∷ line 0 65535 0 ∷ []) (1 ∷ 2 ∷ [])

-- who wins in the first pot of a file, the last first: of the rows that differ in nothing else, since every edit of a definition computes all rows
abbrev Wins : (file who : List ℕ) → Type 0
Wins file who = winners (auction (pot_of (round_of file) 0)) ≡ who

abbrev Caps : Type 0
Caps =
    -- their capacity is the cap, or no cap at all: the first test passes
    Gives (two_under 200) both_at_admin
    × (outcome (pot_of (round_of (two_under no_cap)) 0) ≡ 0)
    × (outcome (pot_of (round_of (two_under 20000000)) 0) ≡ 0)
    -- one hundredth of a MW too much: the first test fails, and the second bid is turned down beside the first; equal fits
    × Gives (two_under 199) first_alone
    × Wins (two_under 100) (0 ∷ [])
    × Gives (two_under 0) (result (pot_told 1 (no_price ∷ []) (0 ∷ []) ∷ []) (line 0 65535 0 ∷ line 0 65535 0 ∷ []) (2 ∷ 5 ∷ []))
    -- T1 with cap 250: the last two win; with 300 it is T1; with 199 and money for all the tie's first bid does not fit alone
    × Gives (single_under 105120 250 tech_a tied_apps tied_bids) last_two
    × Wins (single_under 105120 300 tech_a tied_apps tied_bids) (1 ∷ 0 ∷ [])
    × Wins (single_under 1000000 199 tech_a (app 0 3 100 ∷ app 0 5 200 ∷ []) (bid 0 0 100 4000 ∷ bid 1 0 200 4000 ∷ [])) (0 ∷ [])
    -- "Closest to the budget still means money": of two tied bids, of which one fits beside neither, the dearer wins, not the larger or the lower draw
    × Wins (single_under 1000000 250 (tech 0 10000 (figures ∷ []) ∷ tech 0 2500 (figures ∷ []) ∷ []) (app 0 1 100 ∷ app_with 1 0 365 0 200 0 ∷ [])
    (bid 0 0 100 4000 ∷ bid 1 0 200 4000 ∷ [])) (0 ∷ [])
    -- the capacity of the bid is summed, not its application's: two of 2.00 MW that bid for 1.00 MW
    × Gives (single_under 1000000 200 tech_a (app 0 0 200 ∷ app 0 1 200 ∷ []) (bid 0 0 100 4000 ∷ bid 1 0 100 5000 ∷ []))
    (result (pot_told 1 (5000 ∷ []) (8760000 ∷ []) ∷ []) (line 1 0 5000 ∷ line 1 1 5000 ∷ []) (1 ∷ 1 ∷ []))
    -- a cap that is reached closes nothing: in the year that is open a further bid is looked at, and turned down; then the application's own smaller bid
    × Gives (single_under 1000000 100 tech_a (app 0 0 100 ∷ app 0 1 100 ∷ []) (bid 0 0 60 4000 ∷ bid 1 0 100 5000 ∷ bid 1 0 40 5001 ∷ []))
    (result (pot_told 1 (5001 ∷ []) (4380877 ∷ []) ∷ []) (line 1 0 5001 ∷ line 1 2 5001 ∷ []) (1 ∷ 2 ∷ 1 ∷ []))
    -- money and cap: there is room for the capacity of the second bid, not for its cost
    × Wins (single_under 60000 200 tech_a (app 0 0 100 ∷ app 0 1 100 ∷ []) (bid 0 0 100 4000 ∷ bid 1 0 100 5000 ∷ [])) (0 ∷ [])
    -- two pots, of which the second alone has a cap
    × Gives (counted (year ∷ []) ++ (pots_under (pot_under (1000000 ∷ []) no_cap ∷ pot_under (1000000 ∷ []) 99 ∷ []) ++ (counted (tech 0 10000 (figures ∷ []) ∷
    tech 1 10000 (figures ∷ []) ∷ []) ++ (counted (app 0 0 100 ∷ app_with 1 0 365 1 100 0 ∷ []) ++ counted (bid 0 0 100 4000 ∷ bid 1 0 100 5000 ∷ [])))))
    (result (pot_told 0 (no_price ∷ []) (17520000 ∷ []) ∷ pot_told 1 (no_price ∷ []) (0 ∷ []) ∷ []) (line 1 65535 20000 ∷ line 0 65535 0 ∷ []) (6 ∷ 2 ∷ []))

-- ---- drawn numbers (02, CR 6)

-- T1 and T2 with a cap and a drawn number; beside their results of 01, the first and the last win
abbrev tie_drawn : (budget cap drawn : ℕ) → List ℕ
tie_drawn b cap drawn = single_drawn b cap drawn tech_a tied_apps tied_bids

abbrev first_and_last : List ℕ
first_and_last = result (pot_told 1 (4000 ∷ []) (10512000 ∷ []) ∷ []) (line 1 0 4000 ∷ line 0 65535 0 ∷ line 1 2 4000 ∷ []) (1 ∷ 3 ∷ 1 ∷ [])

-- two years, round A's technology in both, one pot
abbrev two_years : (b0 b1 drawn : ℕ) → (apps bids : List (List ℕ)) → List ℕ
two_years b0 b1 drawn apps bids =
    counted (year ∷ year ∷ []) ++ (pots_drawn (pot_drawn (b0 ∷ b1 ∷ []) no_cap drawn ∷ [])
    ++ (counted (tech 0 10000 (figures ∷ figures ∷ []) ∷ []) ++ (counted apps ++ counted bids)))

-- so many of 1.00 MW tie in year 0, and two in year 1
abbrev two_ties : (n b0 b1 drawn : ℕ) → List ℕ
two_ties n b0 b1 drawn =
    two_years b0 b1 drawn (times n (λ i. app 0 i 100) ++ times 2 (λ i. app 1 (n + i) 100))
    (times n (λ i. bid i 0 100 1000) ++ times 2 (λ i. bid (n + i) 1 100 1100))

-- three alike, which cost nothing in the last year, where the reference price is above theirs; two fit
abbrev worthless : (drawn : ℕ) → List ℕ
worthless drawn =
    counted (year ∷ year_with 365 0 0 ∷ []) ++ (pots_drawn (pot_drawn (70080 ∷ 0 ∷ []) no_cap drawn ∷ [])
    ++ (counted (tech 0 10000 (figures ∷ figures_with 0 4001 10000 ∷ []) ∷ [])
    ++ (counted (times 3 (λ i. app 0 i 100)) ++ counted (times 3 (λ i. bid i 0 100 4000)))))

abbrev Drawn : Type 0
Drawn =
    -- T1: 0 takes the first and the last, 1 what 01 takes
    Gives (tie_drawn 105120 no_cap 0) first_and_last
    × Wins (tie_drawn 105120 no_cap 1) (1 ∷ 0 ∷ [])
    -- T2: even, the first alone; odd, the last two; the greatest number is one like any other
    × Wins (tie_drawn 105119 no_cap 0) (0 ∷ [])
    × Gives (tie_drawn 105119 no_cap 4294967295) last_two
    -- no other bid can be added for the cap alone: T1 with money for all
    × Wins (tie_drawn 1000000 300 0) (2 ∷ 0 ∷ [])
    -- two ties: of three the one at place 1 wins, and the second tie goes on with a third of the number
    × Wins (two_ties 3 8760 18396 1) (4 ∷ 1 ∷ [])
    -- the first tie fits together, or none of it remains, or a bid was turned down alone: the second is drawn by the number itself
    × Wins (two_ties 2 17520 27156 1) (2 ∷ 1 ∷ 0 ∷ [])
    × Wins (two_ties 2 8759 9636 1) (2 ∷ [])
    × Wins (two_ties 1 8759 9636 1) (1 ∷ [])
    -- all combinations are best where the last year costs nothing: those to which none can be added are three
    × Wins (worthless 0) (2 ∷ 1 ∷ [])
    × Wins (worthless 1) (2 ∷ 0 ∷ [])
    -- two pots, each with its own number: of each two bids tie and one fits
    × Gives (counted (year ∷ []) ++ (pots_drawn (pot_drawn (40000 ∷ []) no_cap 0 ∷ pot_drawn (40000 ∷ []) no_cap 1 ∷ []) ++ (counted (tech 0 10000 (figures ∷ []) ∷
    tech 1 10000 (figures ∷ []) ∷ []) ++ (counted (app 0 0 100 ∷ app 0 1 100 ∷ app_with 1 0 365 2 100 0 ∷ app_with 1 0 365 3 100 0 ∷ [])
    ++ counted (times 4 (λ i. bid i 0 100 4000))))))
    (result (pot_told 1 (4000 ∷ []) (3504000 ∷ []) ∷ pot_told 1 (4000 ∷ []) (3504000 ∷ []) ∷ [])
    (line 0 65535 0 ∷ line 1 1 4000 ∷ line 1 2 4000 ∷ line 0 65535 0 ∷ []) (3 ∷ 1 ∷ 1 ∷ 3 ∷ []))

-- ---- wide ties (02, CR 7)

-- so many bids tie at a price of 1 in one year, bid k of application k, and one more application has no bid. The bids numbered below `alone` cost a penny
-- each, and five of them fit; no other fits even alone
abbrev tied_pot : (bids alone : ℕ) → Pot
tied_pot bids alone = record {
  bids = below bids;
  apps = below (1 + bids);
  years = 1;
  scale = 1;
  app = λ k. k;
  yr = λ k. 0;
  price = λ k. 1;
  cost = λ k p y. pick (ltb k alone) 1 6 * p;
  budget = λ y. 5;
  draw = λ k. k;
  admin = λ k. 2;
  capacity = λ k. 0;
  cap = none;
  drawn = none;
  admin_price = λ a. 2;
  admin_cost = λ a y. 2;
  app_capacity = λ a. 0;
}

-- is the first look, at all the bids, the end of the pot?
abbrev ends_wide : Pot → Bool
ends_wide P = (look P [] (taken P [])).wide

-- rows of pots, and of parts of what is told of them: a file with 21 bids would take the checker half a second
abbrev Wide : Type 0
Wide =
    -- 21 remain: outcome 2. 20 do not end the pot; no more is computed of them here, for they have a million combinations
    (ends_wide (tied_pot 21 21) ≡ true)
    × (ends_wide (tied_pot 20 20) ≡ false)
    -- 21 are taken, of which one does not fit alone and is dropped: 20 remain
    × (ends_wide (tied_pot 21 20) ≡ false)
    -- 19 are dropped: the two that remain win, and the others are turned down in the tie
    × (winners (auction (tied_pot 21 2)) ≡ 1 ∷ 0 ∷ [])
    × (reason (tied_pot 21 2) 20 ≡ 3)
    -- outcome 2: what is told of the pot; lost, with and without a bid; and the reason of a bid
    × (pot_bytes 1 1 (tied_pot 21 21) ≡ pot_told 2 (no_price ∷ []) (0 ∷ []))
    × (app_bytes (told_in (tied_pot 21 21) 0) ≡ line 0 65535 0)
    × (app_bytes (told_in (tied_pot 21 21) 21) ≡ line_with 0 65535 7 0)
    × (reason (tied_pot 21 21) 20 ≡ 7)

-- ---- files that are turned away

-- the file is refused so, and the three bytes lent stay
abbrev Refuses : (file : List ℕ) → (number at : ℕ) → Type 0
Refuses file number at = clear_of file (9 ∷ 9 ∷ 9 ∷ []) ≡ record { answer = Refused number at; exit = 9 ∷ 9 ∷ 9 ∷ [] }

-- years and pots, as round A has them, and counts after them
abbrev up_to : (counts : List ℕ) → (techs : List (List ℕ)) → List ℕ
up_to counts [] = counted (year ∷ []) ++ (counted (budgets (100000 ∷ []) ∷ []) ++ nums 2 counts)
up_to counts (t ∷ l) = counted (year ∷ []) ++ (counted (budgets (100000 ∷ []) ∷ []) ++ (counted (t ∷ l) ++ nums 2 counts))

-- files with nothing after the section at fault
abbrev of_years : List (List ℕ) → List ℕ
of_years years = file years [] [] [] []

abbrev of_pots : (count : ℕ) → List ℕ → List ℕ
of_pots n pots = counted (year ∷ []) ++ (bytes 2 n ++ pots)

abbrev of_tech : List ℕ → List ℕ
of_tech t = file (year ∷ []) (budgets (100000 ∷ []) ∷ []) (t ∷ []) [] []

-- one file for each number, and for each limit of a field one that goes beyond it by one
abbrev Refusals : Type 0
Refusals =
    -- 1
    (Refuses (2 ∷ []) 1 0
    × Refuses (nums 2 (1 ∷ 365 ∷ 1 ∷ [])) 1 2
    × Refuses (counted (year ∷ [])) 1 8)
    -- 2: years, pots, technologies, applications, bids
    × (Refuses (bytes 2 0) 2 0
    × Refuses (bytes 2 9) 2 0
    × Refuses (counted (year ∷ []) ++ bytes 2 0) 2 8
    × Refuses (counted (year ∷ []) ++ bytes 2 5) 2 8
    × Refuses (up_to (0 ∷ []) []) 2 18
    × Refuses (up_to (33 ∷ []) []) 2 18
    × Refuses (up_to (65 ∷ []) (tech 0 10000 (figures ∷ []) ∷ [])) 2 34
    × Refuses (up_to (0 ∷ 257 ∷ []) (tech 0 10000 (figures ∷ []) ∷ [])) 2 36)
    -- 3: days, kind, TLM, the kinds' order, a fifth delivery year
    × (Refuses (of_years (year_with 364 1 0 ∷ [])) 3 2
    × Refuses (of_years (year_with 367 1 0 ∷ [])) 3 2
    × Refuses (of_years (year_with 365 2 0 ∷ [])) 3 2
    × Refuses (of_years (year_with 365 1 10001 ∷ [])) 3 2
    × Refuses (of_years (year_with 365 0 0 ∷ [])) 3 2
    × Refuses (of_years (year ∷ year_with 365 0 0 ∷ year ∷ [])) 3 14
    × Refuses (of_years (year ∷ year ∷ year ∷ year ∷ year ∷ [])) 3 26)
    -- 2 of the pots with caps: none, a fifth; and 1 within a cap
    × (Refuses (of_pots 32768 []) 2 8
    × Refuses (of_pots 32773 []) 2 8
    × Refuses (of_pots 32769 (budgets (1 ∷ []) ++ nums 1 (0 ∷ 0 ∷ 0 ∷ []))) 1 10)
    -- and with drawn numbers: none, a fifth, the highest count of all, and 16,384 added without 32,768; and 1 within a drawn number
    × (Refuses (of_pots 49152 []) 2 8
    × Refuses (of_pots 49157 []) 2 8
    × Refuses (of_pots 65535 []) 2 8
    × Refuses (of_pots 16385 (pot_drawn (1 ∷ []) 1 1)) 2 8
    × Refuses (of_pots 49153 (pot_under (1 ∷ []) 1 ++ nums 1 (0 ∷ 0 ∷ 0 ∷ []))) 1 10)
    -- 4: a budget, without caps and with them; a cap above the highest, and one that is just not none
    × (Refuses (file (year ∷ []) (budgets (100000 ∷ []) ∷ budgets (1000000000001 ∷ []) ∷ []) [] [] []) 4 18
    × Refuses (of_pots 32770 (pot_under (1 ∷ []) 1 ++ pot_under (1000000000001 ∷ []) 1)) 4 22
    × Refuses (of_pots 32769 (pot_under (1 ∷ []) 20000001)) 4 10
    × Refuses (of_pots 32770 (pot_under (1 ∷ []) no_cap ++ pot_under (1 ∷ []) 4294967294)) 4 22
    × Refuses (of_pots 49154 (pot_drawn (1 ∷ []) no_cap no_cap ++ pot_drawn (1 ∷ []) 20000001 0)) 4 26)
    -- 5: pot, RQM, load factor, reference, administrative price
    × (Refuses (of_tech (tech 1 10000 (figures ∷ []))) 5 20
    × Refuses (of_tech (tech 0 10001 (figures ∷ []))) 5 20
    × Refuses (of_tech (tech 0 10000 (figures_with 20000 0 10001 ∷ []))) 5 20
    × Refuses (of_tech (tech 0 10000 (figures_with 20000 500001 10000 ∷ []))) 5 20
    × Refuses (of_tech (tech 0 10000 (figures_with 0 0 10000 ∷ []))) 5 20
    × Refuses (of_tech (tech 0 10000 (figures_with 500010 0 10000 ∷ []))) 5 20
    × Refuses (of_tech (tech 0 10000 (figures_with 15 0 10000 ∷ []))) 5 20
    × Refuses (file (year ∷ year_with 365 0 0 ∷ []) (budgets (1 ∷ 1 ∷ []) ∷ []) (tech 0 10000 (figures ∷ figures ∷ []) ∷ []) [] []) 5 34)
    -- 6: technology, year, days, capacity, draw
    × (Refuses (single 100000 (app_with 1 0 365 0 100 0 ∷ []) []) 6 36
    × Refuses (single 100000 (app 1 0 100 ∷ []) []) 6 36
    × Refuses (single 100000 (app_with 0 0 0 0 100 0 ∷ []) []) 6 36
    × Refuses (single 100000 (app_with 0 0 366 0 100 0 ∷ []) []) 6 36
    × Refuses (single 100000 (app 0 0 0 ∷ []) []) 6 36
    × Refuses (single 100000 (app 0 0 300001 ∷ []) []) 6 36
    × Refuses (single 100000 (app 0 7 100 ∷ app 0 7 100 ∷ []) []) 6 56)
    -- 7: application, year, days, capacity, price, start, price of its own year
    × (Refuses (single 100000 (app 0 0 100 ∷ []) (bid 1 0 100 4000 ∷ [])) 7 58
    × Refuses (single 100000 (app 0 0 100 ∷ []) (bid 0 1 100 4000 ∷ [])) 7 58
    × Refuses (single 100000 (app 0 0 100 ∷ []) (bid_with 0 0 0 100 4000 ∷ [])) 7 58
    × Refuses (single 100000 (app 0 0 100 ∷ []) (bid_with 0 0 366 100 4000 ∷ [])) 7 58
    × Refuses (single 100000 (app 0 0 100 ∷ []) (bid 0 0 0 4000 ∷ [])) 7 58
    × Refuses (single 100000 (app 0 0 100 ∷ []) (bid 0 0 101 4000 ∷ [])) 7 58
    × Refuses (single 100000 (app 0 0 100 ∷ []) (bid 0 0 100 20001 ∷ [])) 7 58
    × Refuses (single 100000 (app_with 0 0 100 0 100 0 ∷ []) (bid_with 0 0 101 100 4000 ∷ [])) 7 58
    × Refuses (file (year ∷ year ∷ []) (budgets (100000 ∷ 100000 ∷ []) ∷ []) (tech 0 10000 (figures ∷ figures_with 10000 0 10000 ∷ []) ∷ []) (app 1 0 100 ∷
    []) (bid 0 0 100 4000 ∷ [])) 7 82
    × Refuses (file (year ∷ year ∷ []) (budgets (100000 ∷ 100000 ∷ []) ∷ []) (tech 0 10000 (figures ∷ figures_with 10000 0 10000 ∷ []) ∷ []) (app 0 0 100 ∷
    []) (bid 0 1 100 10001 ∷ [])) 7 82)
    -- 8
    × Refuses (single 100000 (app 0 0 100 ∷ []) (bid 0 0 100 4000 ∷ bid 0 0 50 4000 ∷ [])) 8 72
    -- 9: fourth in one year, eleventh
    × (Refuses (single 100000 (app 0 0 100 ∷ []) (times 4 (λ i. bid 0 0 100 (4000 + 10 * i)))) 9 100
    × Refuses (file (times 4 (λ i. year)) (budgets (1 ∷ 1 ∷ 1 ∷ 1 ∷ []) ∷ []) (tech 0 10000 (times 4 (λ i. figures)) ∷ []) (app 0 0 100 ∷ [])
    (times 11 (λ i. bid 0 (i / 3) 100 (4000 + 10 * i)))) 9 270)
    -- 10
    × Refuses (single 100000 [] [] ++ (0 ∷ [])) 10 38
    -- 11: at the lowest bid
    × Refuses (single 100000 (app 0 0 100 ∷ []) (bid 0 0 100 4010 ∷ bid 0 0 100 4005 ∷ [])) 11 72
    -- 12, at 0
    × Refuses (single 100000 (app 0 0 100 ∷ []) (bid 0 0 100 4000 ∷ [])) 12 0

-- ---- answers as numbers

abbrev Answers : Type 0
Answers =
    ((refused_as (Cleared 68) ≡ 0) × (refused_at (Cleared 68) ≡ 0) × (refused_as (Refused 7 120) ≡ 7) × (refused_at (Refused 7 120) ≡ 120))
    × ((code_of (Cleared 68) ≡ 0) × (code_of (Refused 7 120) ≡ 30064771192))
    × ((refusal (reading (round_a 100000 100000)) ≡ 0) × (place (reading (round_a 100000 100000)) ≡ 0))
    × ((refusal (reading (2 ∷ [])) ≡ 1) × (place (reading (counted (year ∷ []))) ≡ 8))
    × ((length_of (round_a 100000 100000) ≡ 68) × (length_of (2 ∷ []) ≡ 0))

pub worked : Marked × (Own × (Caps × (Drawn × (Wide × (Refusals × Answers)))))
unfolding times counted joined nums given both when never one_more every how_many sum le bytes each onto exact_parts hours_of deliveries pots_told gained_told
    sections round_of sections_of or_else or_fault scan count_fault record_fault section year_fault pot_fault tech_fault app_fault seven_of eight_of nine_of bid_fault
    eleven_of judged reading winners downs seen closed hanging wide_end mark divided goes_on at_most best all at_place value price_from tally within live least
    lowest taken follows remaining rank combination top_number full keeps kept number chosen choose ways_of tied alone lost look run auction admin_total
    admin_capacity admin_fits outcome price_in total_in paid unlooked_reason auction_reason reason silent automatic_reason winners_of energy_of cost_of assemble
    at_admin_price mine app_mine row_for cap_of drawn_of pot_of told told_in app_told app_bytes pot_bytes bid_bytes pots_part apps_part bids_part result_bytes needed answer_to
    answer_of after clear_of refusal place refused_as refused_at code_of length_to length_of dec_le dec_lt ℕ_discrete
worked = (
  (refl, refl, refl, refl, refl, refl, refl, refl, refl, refl, refl, refl, refl, refl),
  (
    (refl, refl, refl, refl, refl, refl, refl, refl, refl, refl, refl, refl, refl, refl),
    (
      (refl, refl, refl, refl, refl, refl, refl, refl, refl, refl, refl, refl, refl, refl),
      (
        (refl, refl, refl, refl, refl, refl, refl, refl, refl, refl, refl, refl),
        (
          (refl, refl, refl, refl, refl, refl, refl, refl, refl),
          (
            (
              (refl, refl, refl),
              (refl, refl, refl, refl, refl, refl, refl, refl),
              (refl, refl, refl, refl, refl, refl, refl),
              (refl, refl, refl),
              (refl, refl, refl, refl, refl),
              (refl, refl, refl, refl, refl),
              (refl, refl, refl, refl, refl, refl, refl, refl),
              (refl, refl, refl, refl, refl, refl, refl),
              (refl, refl, refl, refl, refl, refl, refl, refl, refl, refl),
              refl,
              (refl, refl),
              refl,
              refl,
              refl,
            ),
            ((refl, refl, refl, refl), (refl, refl), (refl, refl), (refl, refl), (refl, refl)),
          ),
        ),
      ),
    ),
  ),
)
