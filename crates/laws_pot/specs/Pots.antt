-- The sentences of demand 3 as tests that compute, and small pots on which they come out true. A rule that is changed so that a sentence fails on one of
-- them is refused here, by computation alone. Assumes nothing.
use Rattle.std.specs.Prelude.{ℕ, ◌+◌, ◌*◌, ◌/◌, ◌≡◌, refl, Bool, true, false, not, ◌&&◌, ◌||◌, List, [], ◌∷◌, ◌++◌, map, eqb, leb, ltb}
use Rattle.std.proofs.Math.Option.{Option, none, some}
use Rattle.rules.specs.Lists.{pick, memb, below}
use Rattle.rules.specs.Pot.{Pot, Trace, winners, downs, seen, closed, hanging, wide_end, divided, goes_on, at_most, best, all, at_place, value, price_from, tally}
use Rattle.rules.specs.Pot.{within, total, exact, counted, summed_capacity, live, least, lowest, taken, follows, remaining, rank, combination, top_number}
use Rattle.rules.specs.Pot.{full, keeps, kept, number, chosen, choose, ways_of, tied, alone, lost, look, run, auction}

unfoldable pub any : {A : Type 0} → (A → Bool) → List A → Bool
any f [] = false
any f (x ∷ l) = f x || any f l

-- "more capacity than the cap, exactly" (02, CR 5)
unfoldable pub more : Option ℕ → ℕ → Bool
more none n = false
more (some limit) n = ltb limit n

module _ (P : Pot) where
  -- 1: "winners at the prices paid cost no more than the budget in any year"
  abbrev affordable : Trace → Bool
  affordable s = all (λ y. leb (exact P (winners s) y) (P.budget y * P.scale)) (below P.years)

  -- 2 and 3: "the reported total is never below that cost and above it by at most one penny a winner"
  abbrev near : Trace → Bool
  near s =
      all (λ y. leb (exact P (winners s) y) (total P (winners s) y * P.scale)
      && leb (total P (winners s) y * P.scale) (exact P (winners s) y + counted P (winners s) * P.scale)) (below P.years)

  -- "adds that the winners stay within the cap" (02, CR 5)
  abbrev small : Trace → Bool
  small s = not (more P.cap (summed_capacity P (winners s)))

  -- 4: "every bid looked at and turned down would, added at its own price to all that had won by the end of its step, revalued, have cost in some year more
  -- than the budget less one penny for each bid counted", "or more capacity than the cap, exactly" (02, CR 5)
  abbrev too_much : List ℕ → Bool
  too_much ws =
      any (λ y. ltb (P.budget y * P.scale) (exact P ws y + counted P ws * P.scale)) (below P.years) || more P.cap (summed_capacity P ws)

  unfoldable pub dear : Trace → Bool
  dear [] = true
  dear (e ∷ s) = all (λ c. too_much (c ∷ (e.wins ++ winners s))) e.downs && dear s

  -- 5: "every bid never looked at belongs to an application that won, or to a delivery year in which a cheaper bid had been turned down"
  abbrev unlooked : Trace → Bool
  unlooked s =
      all (λ k. memb k (seen s)
      || (memb (P.app k) (map P.app (winners s)) || any (λ c. eqb (P.yr c) (P.yr k) && ltb (P.price c) (P.price k)) (downs s))) P.bids

  -- "All others taken are turned down and their years close", and of one alone "otherwise the year closes": at the end each has closed
  abbrev shut : Trace → Bool
  shut s = all (λ c. memb (P.yr c) (closed s)) (downs s)

-- a pot of one year, ten parts to the penny, whose bid k is of application k, costs `parts k` at a price of 1 and has a capacity of as many
abbrev pot_with : (cap : Option ℕ) → (bids : List ℕ) (price parts : ℕ → ℕ) (budget : ℕ) → Pot
pot_with cap bids price parts budget = record {
  bids = bids;
  apps = [];
  years = 1;
  scale = 10;
  app = λ k. k;
  yr = λ k. 0;
  price = price;
  cost = λ k p y. parts k * p;
  budget = λ y. budget;
  draw = λ k. k;
  admin = λ k. 100;
  capacity = parts;
  cap = cap;
  drawn = none;
  admin_price = λ a. 100;
  admin_cost = λ a y. 0;
  app_capacity = λ a. 0;
}

-- and no cap
abbrev pot : (bids : List ℕ) (price parts : ℕ → ℕ) (budget : ℕ) → Pot
pot bids price parts budget = pot_with none bids price parts budget

-- two bids at 10 and 20, of 3 parts each: the second fits alone, but not beside the first at its price
abbrev dearer : Pot
dearer = pot (1 ∷ 0 ∷ []) (λ k. 10 + 10 * k) (λ k. 3) 6

-- one bid of 31 parts, which is 3 pence and a tenth, and a budget in which a pound fits
abbrev tenth : Pot
tenth = pot (0 ∷ []) (λ k. 1) (λ k. 31) 100

-- bids at 20, 10 and 30 in the order of the file, of which the first does not fit
abbrev unordered : Pot
unordered = pot (0 ∷ 1 ∷ 2 ∷ []) (λ k. pick (eqb k 0) 20 (pick (eqb k 1) 10 30)) (λ k. pick (eqb k 0) 9 1) 12

-- three tied bids of 3, 2 and 2, and a cap that any two fit under and all do not, with money for all; and a fourth, dearer one
abbrev crowded : Pot
crowded = pot_with (some 5) (3 ∷ 2 ∷ 1 ∷ 0 ∷ []) (λ k. pick (eqb k 3) 20 10) (λ k. pick (eqb k 0) 3 2) 1000

-- two bids at 10 and 20, of 3 and 2, which together are the cap
abbrev even : Pot
even = pot_with (some 5) (1 ∷ 0 ∷ []) (λ k. 10 + 10 * k) (λ k. pick (eqb k 0) 3 2) 1000

-- bids 0 and 1 tie in year 0, bids 2 and 3 in year 1, and in each year there is money for one; a bid costs in its own year alone, so that in the first tie all
-- combinations come to nothing in the last year; and a number drawn for them
abbrev drawn_pot : (drawn : ℕ) → Pot
drawn_pot drawn = record {
  bids = 3 ∷ 2 ∷ 1 ∷ 0 ∷ [];
  apps = [];
  years = 2;
  scale = 1;
  app = λ k. k;
  yr = λ k. k / 2;
  price = λ k. 1 + k / 2;
  cost = λ k p y. pick (eqb y (k / 2)) p 0;
  budget = λ y. 1 + y;
  draw = λ k. k;
  admin = λ k. 100;
  capacity = λ k. 0;
  cap = none;
  drawn = some drawn;
  admin_price = λ a. 100;
  admin_cost = λ a y. 0;
  app_capacity = λ a. 0;
}

-- "Ties must be drawn fairly" (02, CR 6): of the numbers below 4 one has bids i and j win
abbrev drawn_both : (i j : ℕ) → Bool
drawn_both i j = any (λ d. memb i (winners (auction (drawn_pot d))) && memb j (winners (auction (drawn_pot d)))) (below 4)

abbrev fair : Bool
fair = all (λ i. all (drawn_both i) (2 ∷ 3 ∷ [])) (0 ∷ 1 ∷ [])

-- and whatever number is drawn one of the first two wins
abbrev filled : Bool
filled = all (λ d. any (λ i. memb i (winners (auction (drawn_pot d)))) (0 ∷ 1 ∷ [])) (below 4)

pub small_pots :
    (affordable dearer (auction dearer) ≡ true)
    × (near tenth (auction tenth) ≡ true)
    × (dear dearer (auction dearer) ≡ true)
    × (unlooked unordered (auction unordered) ≡ true)
    × (shut dearer (auction dearer) ≡ true)
    × (small crowded (auction crowded) ≡ true)
    × (dear crowded (auction crowded) ≡ true)
    × (dear even (auction even) ≡ true)
    × (fair ≡ true)
    × (filled ≡ true)
unfolding any more dear winners downs seen closed hanging wide_end divided goes_on at_most best all at_place value price_from tally within live least lowest taken
    follows remaining rank combination top_number full keeps kept number chosen choose ways_of tied alone lost look run auction
small_pots = (refl, refl, refl, refl, refl, refl, refl, refl, refl, refl)
