-- "First test, then the auction", of one pot. Assumes nothing.
-- The state of an auction is its trace: what each step did, the newest first. All else is read off the trace, so that
-- what had won "by the end of the step that turned it down" is `winners` of the trace from that step on.
use Rattle.std.specs.Prelude.{ℕ, zero, suc, ◌+◌, ◌-◌, ◌/◌, ◌%◌, ◌^◌, min, Bool, true, false, not, ◌&&◌, ◌||◌, List, [], ◌∷◌, ◌++◌, map, eqb, leb, ltb, length}
use Rattle.std.proofs.Math.Option.{Option, none, some}
use Rattle.rules.specs.Names.{administrative, auctioned, too_wide, widest_tie, no_price, no_reason, because_won, down_alone, down_tied, unlooked_won}
use Rattle.rules.specs.Names.{unlooked_else, because_administrative, because_too_wide, because_silent}
use Rattle.rules.specs.Value.{ceil_div}
use Rattle.rules.specs.Lists.{pick, memb, sift, below, sum}

-- "Pots are cleared apart": what the clearing of one pot reads. `bids` are the numbers of its sealed bids, `apps` those of its applications; years are numbered
-- below `years`; `cost b p y` is the exact cost in parts of bid b in year y where the clearing price of its start year is p, with `scale` parts to the penny;
-- `budget y` is in pence; `admin` is the administrative price of a bid's technology in its start year, and `capacity` the bid's capacity; `cap` is the most
-- capacity of all winners, where there is a cap, and `drawn` the number drawn for its ties, where there is one. Of application a `admin_price` is its
-- administrative price, `admin_cost a y` the exact cost in parts of its own capacity, year and days at that price, and `app_capacity` its own capacity.
pub record Pot : Type 0 where
  pub bids : List ℕ
  pub apps : List ℕ
  pub years : ℕ
  pub scale : ℕ
  pub app : ℕ → ℕ
  pub yr : ℕ → ℕ
  pub price : ℕ → ℕ
  pub cost : ℕ → ℕ → ℕ → ℕ
  pub budget : ℕ → ℕ
  pub draw : ℕ → ℕ
  pub admin : ℕ → ℕ
  pub capacity : ℕ → ℕ
  pub cap : Option ℕ
  pub drawn : Option ℕ
  pub admin_price : ℕ → ℕ
  pub admin_cost : ℕ → ℕ → ℕ
  pub app_capacity : ℕ → ℕ

-- What a step did: the bids that it let win, those that it turned down and the reason that they are given, the years that it closed, and the year that it
-- left open though it turned a bid down there, since the next look is at the same application's next bid (2); whether more bids remained than are searched (3);
-- among how many combinations it chose, 1 where there was nothing to choose
pub record Event : Type 0 where
  pub wins : List ℕ
  pub downs : List ℕ
  pub why : ℕ
  pub closes : List ℕ
  pub hangs : List ℕ
  pub wide : Bool
  pub ways : ℕ

abbrev pub Trace : Type 0
Trace = List Event

unfoldable pub winners : Trace → List ℕ
winners [] = []
winners (e ∷ s) = e.wins ++ winners s

-- the bids turned down
unfoldable pub downs : Trace → List ℕ
downs [] = []
downs (e ∷ s) = e.downs ++ downs s

-- the bids looked at
unfoldable pub seen : Trace → List ℕ
seen [] = []
seen (e ∷ s) = (e.wins ++ e.downs) ++ seen s

-- the years that have closed
unfoldable pub closed : Trace → List ℕ
closed [] = []
closed (e ∷ s) = e.closes ++ closed s

-- the year that the last step left open for a further look
unfoldable pub hanging : Trace → List ℕ
hanging [] = []
hanging (e ∷ s) = e.hangs

-- did the last step meet a tie too wide?
unfoldable pub wide_end : Trace → Bool
wide_end [] = false
wide_end (e ∷ s) = e.wide

-- "The state of a pot holds the marks of every bid": a bid's reason, 0 where it has not been looked at
unfoldable pub mark : Trace → ℕ → ℕ
mark [] b = no_reason
mark (e ∷ s) b = pick (memb b e.wins) because_won (pick (memb b e.downs) e.why (mark s b))

-- "go on with the drawn number divided by m, the rest dropped" (02, CR 6); and after all the steps of a trace
unfoldable pub divided : Option ℕ → (m : ℕ) → Option ℕ
divided none m = none
divided (some d) m = some (d / m)

unfoldable pub goes_on : Option ℕ → Trace → Option ℕ
goes_on d [] = d
goes_on d (e ∷ s) = divided (goes_on d s) e.ways

-- "equal fits": a number is not above a limit, where there is one
unfoldable pub at_most : Option ℕ → ℕ → Bool
at_most none n = true
at_most (some limit) n = leb n limit

-- "one binary place for each remaining bid": is place i in the combination number m?
abbrev pub has : ℕ → ℕ → Bool
has m i = eqb (m / 2 ^ i % 2) 1

-- of the numbers below n that pass a test, those with the greatest figure, and of these the largest. 0, the empty combination, is where it starts, untested:
-- it passes, since the winners without any of the tied bids fit
unfoldable pub best : (ℕ → Bool) → (ℕ → ℕ) → ℕ → ℕ
best ok figure zero = 0
best ok figure (suc n) = let r = best ok figure n in pick (ok n && leb (figure r) (figure n)) n r

-- does every one of a list pass a test?
unfoldable pub all : (ℕ → Bool) → List ℕ → Bool
all ok [] = true
all ok (x ∷ l) = ok x && all ok l

-- "in order of combination number from the smallest .. counting from 0" (02, CR 6): of numbers listed the largest first, the one at place k, with k behind it
unfoldable pub at_place : (k : ℕ) → List ℕ → ℕ
at_place k [] = 0
at_place k (x ∷ l) = pick (eqb (length l) k) x (at_place k l)

module _ (P : Pot) where
  -- "Round each value up to a penny" (02, CR 11): "the exact cost rounded up once", to whole pence
  unfoldable pub value : ℕ → ℕ → ℕ → ℕ
  value b p y = ceil_div (P.cost b p y) P.scale

  -- "sets the clearing price of their years to their price": the clearing price of year d is the price of its newest winner, where winners are listed the
  -- newest first; z where it has none: 0 in a trial, which then asks no price of that year, and `no_price` in the result
  unfoldable pub price_from : (z : ℕ) → List ℕ → ℕ → ℕ
  price_from z [] d = z
  price_from z (w ∷ ws) d = pick (eqb (P.yr w) d) (P.price w) (price_from z ws d)

  abbrev pub clearing : List ℕ → ℕ → ℕ
  clearing ws d = price_from 0 ws d

  -- "revalues every winner": the sum over those of some bids that pass a test of what f gives in year y, each at the price of its start year
  unfoldable pub tally : (ℕ → ℕ → ℕ → ℕ) → (ℕ → Bool) → (ℕ → ℕ) → ℕ → List ℕ → ℕ
  tally f on at y [] = 0
  tally f on at y (b ∷ bs) = tally f on at y bs + pick (on b) (f b (at (P.yr b)) y) 0

  -- over the pot's bids that are among ws, at the clearing prices of ws
  abbrev pub summed : (ℕ → ℕ → ℕ → ℕ) → List ℕ → ℕ → ℕ
  summed f ws y = tally f (λ b. memb b ws) (clearing ws) y P.bids

  -- a year's total, the exact cost of the same winners, and their number
  abbrev pub total : List ℕ → ℕ → ℕ
  total ws y = summed value ws y

  abbrev pub exact : List ℕ → ℕ → ℕ
  exact ws y = summed P.cost ws y

  abbrev pub counted : List ℕ → ℕ
  counted ws = length (sift (λ b. memb b ws) P.bids)

  -- "the summed capacity of its winners" (02, CR 5): that of the bids, in every year the same
  abbrev pub summed_capacity : List ℕ → ℕ
  summed_capacity ws = summed (λ b p y. P.capacity b) ws 0

  -- "fits if no year's total exceeds its budget; equal fits": of the first n years
  unfoldable pub within : (ℕ → ℕ) → ℕ → Bool
  within tot zero = true
  within tot (suc n) = leb (tot n) (P.budget n) && within tot n

  -- "The first test and every trial also check the cap" (02, CR 5): year totals and a summed capacity that fit
  abbrev pub fitting : (tot : ℕ → ℕ) → (capacity : ℕ) → Bool
  fitting tot capacity = within tot P.years && at_most P.cap capacity

  abbrev pub fits : List ℕ → Bool
  fits ws = fitting (total ws) (summed_capacity ws)

  -- "Live bids are those not yet looked at, of an application that has not won, in an open year"
  unfoldable pub live : Trace → ℕ → Bool
  live s b =
      not (memb b (seen s))
      && (not (memb (P.app b) (map P.app (winners s))) && not (memb (P.yr b) (closed s)))

  -- the lowest price of a list of bids, of which x is the first
  unfoldable pub least : ℕ → List ℕ → ℕ
  least x [] = P.price x
  least x (y ∷ l) = min (P.price x) (least y l)

  -- those of a list that carry its lowest price
  unfoldable pub lowest : List ℕ → List ℕ
  lowest [] = []
  lowest (x ∷ l) = sift (λ b. eqb (P.price b) (least x l)) (x ∷ l)

  -- "Take all live bids at the lowest live price"
  unfoldable pub taken : Trace → List ℕ
  taken s = lowest (sift (live s) P.bids)

  -- "all win"; and where the look was a further one of 2, "it wins and the year closes"
  abbrev pub won : Trace → List ℕ → Event
  won s l = record { wins = l; downs = []; why = down_alone; closes = hanging s; hangs = []; wide = false; ways = 1 }

  -- b is turned down alone
  abbrev pub down : ℕ → List ℕ → List ℕ → Event
  down b close hang = record { wins = []; downs = b ∷ []; why = down_alone; closes = close; hangs = hang; wide = false; ways = 1 }

  -- "the sole next lowest live bid of the whole pot is of the same application and year"
  unfoldable pub follows : ℕ → List ℕ → Bool
  follows b [] = false
  follows b (c ∷ []) = eqb (P.app c) (P.app b) && eqb (P.yr c) (P.yr b)
  follows b (c ∷ d ∷ l) = false

  -- "drop those that do not fit alone"
  unfoldable pub remaining : List ℕ → List ℕ → List ℕ
  remaining ws l = sift (λ c. fits (c ∷ ws)) l

  -- "the lowest draw highest": the binary place of a remaining bid is how many of them have a higher draw
  unfoldable pub rank : List ℕ → ℕ → ℕ
  rank r b = length (sift (λ c. ltb (P.draw b) (P.draw c)) r)

  -- "Each combination has a number": the bids of combination m
  unfoldable pub combination : List ℕ → ℕ → List ℕ
  combination r m = sift (λ b. has m (rank r b)) r

  -- of the bids r that remain beside the winners ws: does combination m fit, and what is its "total in the last year of the file"? "Closest to the budget still
  -- means money" (02, CR 5): the total, not the capacity
  abbrev pub fits_at : (ws r : List ℕ) → (m : ℕ) → Bool
  fits_at ws r m = fits (combination r m ++ ws)

  abbrev pub last_at : (ws r : List ℕ) → (m : ℕ) → ℕ
  last_at ws r m = total (combination r m ++ ws) (P.years - 1)

  -- "choose the fitting combination whose total in the last year of the file is greatest; if none remain, none is chosen. Among equals, the one holding the
  -- lowest-draw bid on which they differ": the one with the largest number
  unfoldable pub top_number : (ws r : List ℕ) → ℕ
  top_number ws r = best (fits_at ws r) (last_at ws r) (2 ^ length r)

  -- "no other tied bid can be added and still fit" (02, CR 6), to combination m: of those that remain, for one that does not fit alone can never be added
  unfoldable pub full : (ws r : List ℕ) → (m : ℕ) → Bool
  full ws r m = all (λ c. memb c (combination r m) || not (fits (c ∷ (combination r m ++ ws)))) r

  -- "Among the best combinations keep those to which no other tied bid can be added and still fit" (02, CR 6): combination m, `most` being the greatest total
  unfoldable pub keeps : (ws r : List ℕ) → (most m : ℕ) → Bool
  keeps ws r most m = fits_at ws r m && (eqb (last_at ws r m) most && full ws r m)

  unfoldable pub kept : (ws r : List ℕ) → List ℕ
  kept ws r = sift (keeps ws r (last_at ws r (top_number ws r))) (below (2 ^ length r))

  -- "If there are m, .. take the one at place (drawn number mod m)"; "Without drawn numbers the rule of 01 stands" (02, CR 6)
  unfoldable pub number : Option ℕ → (ws r : List ℕ) → ℕ
  number none ws r = top_number ws r
  number (some d) ws r = let l = kept ws r in at_place (d % length l) l

  unfoldable pub chosen : Option ℕ → (ws r : List ℕ) → List ℕ
  chosen d ws r = combination r (number d ws r)

  unfoldable pub choose : Option ℕ → (ws l : List ℕ) → List ℕ
  choose d ws l = chosen d ws (remaining ws l)

  -- "If there are m": among how many a tie is drawn
  unfoldable pub ways_of : (ws l : List ℕ) → ℕ
  ways_of ws l = length (kept ws (remaining ws l))

  -- the number that the pot's next tie is drawn by
  abbrev pub drawn_after : Trace → Option ℕ
  drawn_after s = goes_on P.drawn s

  abbrev pub others : List ℕ → List ℕ → List ℕ
  others l ch = sift (λ b. not (memb b ch)) l

  -- "All others taken are turned down and their years close"
  abbrev pub shared : Trace → List ℕ → Event
  shared s l =
      let ch = choose (drawn_after s) (winners s) l in
      let out = others l ch in
      record { wins = ch; downs = out; why = down_tied; closes = map P.yr out; hangs = []; wide = false; ways = ways_of (winners s) l }

  -- "outcome 2 (H): no price, totals 0, no winner in this pot": the step that ends the pot
  abbrev pub ended_wide : Event
  ended_wide = record { wins = []; downs = []; why = down_tied; closes = []; hangs = []; wide = true; ways = 1 }

  -- 3, of several bids; where 01 has "If more than 10 remain, outcome 2", "Outcome 2 is from then on given for 21 or more" (02, CR 7)
  unfoldable pub tied : Trace → List ℕ → Event
  tied s l = pick (ltb widest_tie (length (remaining (winners s) l))) ended_wide (shared s l)

  -- 2: "If one bid alone was taken and does not fit, it is turned down. While the sole next lowest live bid of the whole pot is of the same application and
  -- year, look at it .. Otherwise the year closes." Whether there is a further look is decided when the bid is turned down, so that each look is one step
  unfoldable pub alone : Trace → ℕ → Event
  alone s b = pick (follows b (taken (down b [] [] ∷ s))) (down b [] (P.yr b ∷ [])) (down b (P.yr b ∷ []) [])

  -- bids that were taken and do not fit: one alone, or several. Where none is live none is taken and the run has ended, so the first case is never met
  unfoldable pub lost : Trace → List ℕ → Event
  lost s [] = won s []
  lost s (b ∷ []) = alone s b
  lost s (b ∷ c ∷ l) = tied s (b ∷ c ∷ l)

  -- "One look is one step." 1: "If together they fit, all win"
  unfoldable pub look : Trace → List ℕ → Event
  look s l = pick (fits (l ++ winners s)) (won s l) (lost s l)

  -- the trace where nothing was taken, and else the one further on
  abbrev pub onward : List ℕ → Trace → Trace → Trace
  onward [] s t = s
  onward (b ∷ l) s t = t

  -- "The pot ends when no bid is live, after no more steps than it has bids", or at a tie too wide
  unfoldable pub run : ℕ → Trace → Trace
  run zero s = s
  run (suc n) s = let e = look s (taken s) in onward (taken s) s (pick e.wide (e ∷ s) (run n (e ∷ s)))

  unfoldable pub auction : Trace
  auction = run (length P.bids) []

  -- ---- the first test, and what is told of the pot

  -- "all a pot's applications, at their administrative prices": with or without a sealed bid, for "The first test counts it as before" (02, CR 8)
  unfoldable pub admin_total : ℕ → ℕ
  admin_total y = sum (λ a. ceil_div (P.admin_cost a y) P.scale) P.apps

  -- their summed capacity: that of the applications (02, CR 5)
  unfoldable pub admin_capacity : ℕ
  admin_capacity = sum P.app_capacity P.apps

  unfoldable pub admin_fits : Bool
  admin_fits = fitting admin_total admin_capacity

  -- one of three by the outcome: "fit its budget in every year, all win at those prices (outcome 0) .. Otherwise outcome 1", and 2 after a tie too wide
  abbrev pub by : {A : Type 0} → A → A → A → A
  by a b c = pick admin_fits a (pick (wide_end auction) c b)

  unfoldable pub outcome : ℕ
  outcome = by administrative auctioned too_wide

  -- "In outcome 0 every clearing price is none"; in outcome 2 "no price"; and none in a year that no winner starts in
  unfoldable pub price_in : ℕ → ℕ
  price_in d = by no_price (price_from no_price (winners auction) d) no_price

  -- "In outcome 0 .. the totals are those at administrative prices"; in outcome 2 "totals 0"
  unfoldable pub total_in : ℕ → ℕ
  total_in y = by (admin_total y) (total (winners auction) y) 0

  -- "A winner is paid its year's clearing price capped at its administrative price"
  unfoldable pub paid : ℕ → ℕ
  paid w = min (clearing (winners auction) (P.yr w)) (P.admin w)

  -- "4 not looked at, its application won; 5 not looked at, otherwise"
  unfoldable pub unlooked_reason : Trace → ℕ → ℕ
  unlooked_reason s b = pick (memb (P.app b) (map P.app (winners s))) unlooked_won unlooked_else

  -- the mark of a bid that was looked at; and of one that was not
  unfoldable pub auction_reason : Trace → ℕ → ℕ
  auction_reason s b = pick (memb b (seen s)) (mark s b) (unlooked_reason s b)

  -- "6 outcome 0; 7 outcome 2"
  unfoldable pub reason : ℕ → ℕ
  reason b = by because_administrative (auction_reason auction b) because_too_wide

  -- "an application without a sealed bid" (02, CR 8): none of the pot's bids is its own
  unfoldable pub silent : ℕ → Bool
  silent a = not (memb a (map P.app P.bids))

  -- "it is lost with automatic reason 8 in outcome 1, and keeps 7 in outcome 2" (02, CR 8); "automatic reason 6 in outcome 0"; "0 where it had sealed bids"
  unfoldable pub automatic_reason : ℕ → ℕ
  automatic_reason a = pick (silent a) (by because_administrative because_silent because_too_wide) no_reason

  -- the winning bids of application a: one at the most
  unfoldable pub winners_of : ℕ → List ℕ
  winners_of a = sift (λ w. eqb (P.app w) a && memb w (winners auction)) P.bids
