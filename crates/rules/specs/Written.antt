-- Round files and results, written from their numbers, for the worked cases. Assumes nothing.
use Rattle.std.specs.Prelude.{ℕ, zero, suc, ◌+◌, List, [], ◌∷◌, ◌++◌, length}
use Rattle.rules.specs.Names.{caps_added, drawn_added}
use Rattle.rules.specs.Bytes.{bytes}

-- numbers of w bytes each
unfoldable pub nums : ℕ → List ℕ → List ℕ
nums w [] = []
nums w (x ∷ l) = bytes w x ++ nums w l

-- records one after the other; and after their count
unfoldable pub joined : List (List ℕ) → List ℕ
joined [] = []
joined (x ∷ l) = x ++ joined l

unfoldable pub counted : List (List ℕ) → List ℕ
counted l = bytes 2 (length l) ++ joined l

-- n records alike but for their number
unfoldable pub times : ℕ → (ℕ → List ℕ) → List (List ℕ)
times zero f = []
times (suc n) f = times n f ++ (f n ∷ [])

abbrev pub year_with : (days kind tlm : ℕ) → List ℕ
year_with days kind tlm = nums 2 (days ∷ kind ∷ tlm ∷ [])

-- "years 0 and 1, both delivery, 365 days, TLM 0"
abbrev pub year : List ℕ
year = year_with 365 1 0

abbrev pub budgets : List ℕ → List ℕ
budgets l = nums 8 l

abbrev pub figures_with : (admin reference load : ℕ) → List ℕ
figures_with admin reference load = nums 4 (admin ∷ reference ∷ []) ++ bytes 2 load

-- "administrative 20,000, reference 0, load and RQM 10,000"
abbrev pub figures : List ℕ
figures = figures_with 20000 0 10000

abbrev pub tech : (pot rqm : ℕ) → List (List ℕ) → List ℕ
tech pot rqm years = nums 2 (pot ∷ rqm ∷ []) ++ joined years

abbrev pub app_with : (tech year days draw capacity cost : ℕ) → List ℕ
app_with t y days draw capacity cost = (nums 2 (t ∷ y ∷ days ∷ draw ∷ []) ++ nums 4 (capacity ∷ [])) ++ nums 8 (cost ∷ [])

abbrev pub bid_with : (a year days capacity price : ℕ) → List ℕ
bid_with a y days capacity price = nums 2 (a ∷ y ∷ days ∷ []) ++ nums 4 (capacity ∷ price ∷ [])

-- of technology 0, for 365 days
abbrev pub app : (year draw capacity : ℕ) → List ℕ
app y draw capacity = app_with 0 y 365 draw capacity 0

abbrev pub bid : (a year capacity price : ℕ) → List ℕ
bid a y capacity price = bid_with a y 365 capacity price

abbrev pub file : (years pots techs apps bids : List (List ℕ)) → List ℕ
file years pots techs apps bids = counted years ++ (counted pots ++ (counted techs ++ (counted apps ++ counted bids)))

-- "year 0 alone, with round A's technology", and a budget
abbrev pub single : (budget : ℕ) → (apps bids : List (List ℕ)) → List ℕ
single b apps bids = file (year ∷ []) (budgets (b ∷ []) ∷ []) (tech 0 10000 (figures ∷ []) ∷ []) apps bids

-- the same with a cap: "the pots count of such a file has 32,768 added" (02, CR 5)
abbrev pub pot_under : (budgets : List ℕ) → (cap : ℕ) → List ℕ
pot_under l cap = budgets l ++ bytes 4 cap

abbrev pub pots_under : List (List ℕ) → List ℕ
pots_under pots = bytes 2 (caps_added + length pots) ++ joined pots

abbrev pub single_under : (budget cap : ℕ) → (techs apps bids : List (List ℕ)) → List ℕ
single_under b cap techs apps bids = counted (year ∷ []) ++ (pots_under (pot_under (b ∷ []) cap ∷ []) ++ (counted techs ++ (counted apps ++ counted bids)))

-- and with a drawn number: "the pots count has 16,384 added as well" (02, CR 6)
abbrev pub pot_drawn : (budgets : List ℕ) → (cap drawn : ℕ) → List ℕ
pot_drawn l cap drawn = pot_under l cap ++ bytes 4 drawn

abbrev pub pots_drawn : List (List ℕ) → List ℕ
pots_drawn pots = bytes 2 (caps_added + drawn_added + length pots) ++ joined pots

abbrev pub single_drawn : (budget cap drawn : ℕ) → (techs apps bids : List (List ℕ)) → List ℕ
single_drawn b cap drawn techs apps bids =
    counted (year ∷ []) ++ (pots_drawn (pot_drawn (b ∷ []) cap drawn ∷ []) ++ (counted techs ++ (counted apps ++ counted bids)))

-- what is told of a pot; of an application; and the result
abbrev pub pot_told : (outcome : ℕ) → (prices totals : List ℕ) → List ℕ
pot_told outcome prices totals = bytes 2 outcome ++ (nums 4 prices ++ nums 8 totals)

abbrev pub line_with : (won bid reason paid : ℕ) → List ℕ
line_with won bid reason paid = nums 2 (won ∷ bid ∷ reason ∷ []) ++ bytes 4 paid

abbrev pub line : (won bid paid : ℕ) → List ℕ
line won bid paid = line_with won bid 0 paid

abbrev pub result : (pots apps : List (List ℕ)) (reasons : List ℕ) → List ℕ
result pots apps reasons = counted pots ++ (counted apps ++ (bytes 2 (length reasons) ++ nums 2 reasons))
