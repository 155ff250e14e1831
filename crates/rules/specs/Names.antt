-- Every number that documents 01 and 02 give a meaning, named once. Assumes nothing.
use Rattle.std.specs.Prelude.{ℕ, ◌+◌, ◌*◌}

-- ---- "When the file is turned away": the refusals

-- "the file ends before the end of this count or record"
abbrev pub ends_early : ℕ
ends_early = 1

-- "count outside its range"
abbrev pub count_outside : ℕ
count_outside = 2

-- a year, a pot, a technology, an application, a bid that breaks its rule
abbrev pub year_broken : ℕ
year_broken = 3

abbrev pub pot_broken : ℕ
pot_broken = 4

abbrev pub tech_broken : ℕ
tech_broken = 5

abbrev pub app_broken : ℕ
app_broken = 6

abbrev pub bid_broken : ℕ
bid_broken = 7

-- "price of an earlier bid of the same application"
abbrev pub price_twice : ℕ
price_twice = 8

-- "eleventh bid of an application, or its fourth in one year"
abbrev pub bids_too_many : ℕ
bids_too_many = 9

-- "bytes after the last record"
abbrev pub bytes_after : ℕ
bytes_after = 10

-- "the lowest bid of an application in a year is not a multiple of 10"
abbrev pub lowest_uneven : ℕ
lowest_uneven = 11

-- "the lent result is too short"
abbrev pub result_short : ℕ
result_short = 12

-- ---- "Units and the round file": counts, and the widths in bytes of a count and of the records

abbrev pub most_years : ℕ
most_years = 8

abbrev pub most_pots : ℕ
most_pots = 4

abbrev pub most_techs : ℕ
most_techs = 32

abbrev pub most_apps : ℕ
most_apps = 64

abbrev pub most_bids : ℕ
most_bids = 256

-- "each after its 2-byte count"
abbrev pub count_width : ℕ
count_width = 2

abbrev pub year_width : ℕ
year_width = 6

-- "The pot record gains a 4-byte cap after its budgets .. the pots count of such a file has 32,768 added" (02, CR 5)
abbrev pub cap_width : ℕ
cap_width = 4

abbrev pub caps_added : ℕ
caps_added = 32768

-- "The pot gains a 4-byte drawn number after the cap (the pots count has 16,384 added as well)" (02, CR 6)
abbrev pub drawn_width : ℕ
drawn_width = 4

abbrev pub drawn_added : ℕ
drawn_added = 16384

-- of so many years, and with so many bytes gained: those of a cap, of a cap and a drawn number, or none
abbrev pub pot_width : (years gained : ℕ) → ℕ
pot_width y c = 8 * y + c

abbrev pub tech_width : (years : ℕ) → ℕ
tech_width y = 4 + 10 * y

abbrev pub app_width : ℕ
app_width = 20

abbrev pub bid_width : ℕ
bid_width = 14

-- ---- the units

-- "budgets in the file stay in pounds and are compared a hundredfold" (02, CR 11): so many pence make a pound
abbrev pub pence_per_pound : ℕ
pence_per_pound = 100

-- ---- the ranges of the fields

-- "kind 2 (1 delivery, 0 valuation only)"
abbrev pub valuation_only : ℕ
valuation_only = 0

abbrev pub delivery : ℕ
delivery = 1

-- "a fifth delivery year"
abbrev pub most_deliveries : ℕ
most_deliveries = 4

-- "days not 365 or 366"
abbrev pub short_year : ℕ
short_year = 365

abbrev pub long_year : ℕ
long_year = 366

-- "24 × first-year days"
abbrev pub day_hours : ℕ
day_hours = 24

-- "factors ten-thousandths": a factor of one
abbrev pub whole : ℕ
whole = 10000

-- in pounds, as it stands in the file
abbrev pub highest_budget : ℕ
highest_budget = 1000000000000

-- "up to 20,000,000, or 4,294,967,295 for none" (02, CR 5): a cap, in hundredths of a MW as capacities are
abbrev pub highest_cap : ℕ
highest_cap = 20000000

abbrev pub no_cap : ℕ
no_cap = 4294967295

-- of an administrative and of a reference price
abbrev pub highest_price : ℕ
highest_price = 500000

-- "a multiple of 10", "from 10"
abbrev pub price_step : ℕ
price_step = 10

abbrev pub largest_capacity : ℕ
largest_capacity = 300000

-- the most bids of an application, and in one year
abbrev pub bids_each : ℕ
bids_each = 10

abbrev pub bids_a_year : ℕ
bids_a_year = 3

-- ---- "First test, then the auction"

-- the outcomes: "all win at those prices (outcome 0)", "Otherwise outcome 1", "outcome 2 (H)"
abbrev pub administrative : ℕ
administrative = 0

abbrev pub auctioned : ℕ
auctioned = 1

abbrev pub too_wide : ℕ
too_wide = 2

-- "a search .. for up to 20 remaining bids"; "Outcome 2 is from then on given for 21 or more" (02, CR 7)
abbrev pub widest_tie : ℕ
widest_tie = 20

-- ---- "The result and its listing"

-- "4,294,967,295 for none", "65,535 none"
abbrev pub no_price : ℕ
no_price = 4294967295

abbrev pub no_bid : ℕ
no_bid = 65535

-- "Reasons: 1 won; 2 turned down alone; 3 turned down in a tie; 4 not looked at, its application won; 5 not looked at, otherwise; 6 outcome 0; 7 outcome 2";
-- "0 where it had sealed bids"
abbrev pub no_reason : ℕ
no_reason = 0

abbrev pub because_won : ℕ
because_won = 1

abbrev pub down_alone : ℕ
down_alone = 2

abbrev pub down_tied : ℕ
down_tied = 3

abbrev pub unlooked_won : ℕ
unlooked_won = 4

abbrev pub unlooked_else : ℕ
unlooked_else = 5

abbrev pub because_administrative : ℕ
because_administrative = 6

abbrev pub because_too_wide : ℕ
because_too_wide = 7

-- "it is lost with automatic reason 8 in outcome 1" (02, CR 8)
abbrev pub because_silent : ℕ
because_silent = 8
