-- What the functions of `auction` compute from the arrays of a pot that has come to its end. Assumes nothing.
use Rattle.std.specs.Prelude.{ℕ, zero, suc, ◌<◌, min, Bool, false, List, get_or, set, replicate, eqb}
use Rattle.rules.specs.Names.{most_years, most_bids, most_apps, most_deliveries, no_price, no_bid, no_reason, because_won, unlooked_won}
use Rattle.rules.specs.Names.{unlooked_else, because_silent}
use Rattle.rules.specs.Lists.{pick}
use Rattle.auction.specs.declared.Outcome.{Outcome}
use Rattle.auction.specs.declared.Outcome.TheVariants.{Auctioned}
use Rattle.result.specs.Tells.{untold}
use Rattle.rules.specs.declared.Told.{Told}
use Rattle.sheet.specs.declared.Size.{Size}
use Rattle.sheet.specs.Sheet.{entrant_at, admin_at, row_app, row_year, row_admin}
use Rattle.arrays.specs.Sets.{fill}
use Rattle.pot.specs.declared.PotState.{PotState}
use Rattle.auction.specs.declared.End.{End}
use Rattle.auction.specs.declared.Winning.{Winning}
use Rattle.auction.specs.declared.Winning.TheVariants.{Lost, AtAdmin, Bid}

-- ---- reasons

-- the reason of a bid by its mark: of one not looked at, by whether its application won
unfoldable pub reason_by : (mark : ℕ) → Bool → ℕ
reason_by mark won = pick (eqb mark no_reason) (pick won unlooked_won unlooked_else) mark

unfoldable pub reason_at : (sheet marks : List ℕ) → List Bool → (k : ℕ) → ℕ
reason_at sheet marks won k = reason_by (get_or marks k 0) (get_or won (row_app sheet k) false)

unfoldable pub no_reasons : List ℕ
no_reasons = replicate most_bids no_reason

-- those of the first j bids that enter the auction
unfoldable pub reasons_of : (sheet marks : List ℕ) → List Bool → (j : ℕ) → List ℕ
reasons_of sheet marks won zero = no_reasons
reasons_of sheet marks won (suc j) = set (reasons_of sheet marks won j) (entrant_at sheet j) (reason_at sheet marks won (entrant_at sheet j))

-- ---- applications

-- the automatic reasons, where those of the applications of the first j bids of the pot are known to be none
unfoldable pub automatics_of : (sheet : List ℕ) (why j : ℕ) → List ℕ
automatics_of sheet why zero = replicate most_apps why
automatics_of sheet why (suc j) = set (automatics_of sheet why j) (row_app sheet (entrant_at sheet j)) no_reason

-- the winning bid of each application, among the bids below m
unfoldable pub winning_of : (sheet marks : List ℕ) → (m : ℕ) → List Winning
winning_of sheet marks zero = replicate most_apps Lost
winning_of sheet marks (suc k) =
    pick (eqb (get_or marks k 0) because_won) (set (winning_of sheet marks k) (row_app sheet k) (Bid k)) (winning_of sheet marks k)

-- a bid that an application won with is one of the sheet's; in all places
abbrev pub Known : Size → Winning → Type 0
Known of Lost = Unit {0}
Known of AtAdmin = Unit {0}
Known of (Bid w) = w < of.bids

abbrev pub AllKnown : Size → List Winning → Type 0
AllKnown of winning = (a : ℕ) → Known of (get_or winning a Lost)

-- what is told of application a: it won with bid w, or at its administrative price, or it lost
unfoldable pub told_by : (sheet prices : List ℕ) (a : ℕ) → Winning → (why : ℕ) → Told
told_by sheet prices a (Bid w) why =
    record { won = 1; bid = w; reason = why; paid = min (get_or prices (row_year sheet w) 0) (row_admin sheet w) }
told_by sheet prices a AtAdmin why = record { won = 1; bid = no_bid; reason = why; paid = admin_at sheet a }
told_by sheet prices a Lost why = record { won = 0; bid = no_bid; reason = why; paid = 0 }

unfoldable pub no_apps : List Told
no_apps = replicate most_apps untold

-- of the first n applications, from what each won with and their automatic reasons
abbrev pub apps_of : (sheet prices : List ℕ) → List Winning → (automatics : List ℕ) → (n : ℕ) → List Told
apps_of sheet prices winning automatics n = fill no_apps (λ a. told_by sheet prices a (get_or winning a Lost) (get_or automatics a 0)) n

-- ---- how a pot ended

-- outcomes 0 and 2
unfoldable pub flat_of : Outcome → (totals : List ℕ) → (mark : ℕ) → Winning → End
flat_of outcome totals mark w = record {
  outcome = outcome;
  prices = replicate most_deliveries no_price;
  totals = totals;
  marks = replicate most_bids mark;
  won = replicate most_apps false;
  winning = replicate most_apps w;
  automatic = mark;
}

-- outcome 1
unfoldable pub sold_of : (sheet : List ℕ) (of : Size) → PotState → End
sold_of sheet of s = record {
  outcome = Auctioned;
  prices = s.prices;
  totals = s.totals;
  marks = s.marks;
  won = s.won;
  winning = winning_of sheet s.marks of.bids;
  automatic = because_silent;
}

-- ---- what is told of a row of totals: the money of the first n years, and nothing of a column after them
unfoldable pub no_money : List ℕ
no_money = replicate most_years 0

abbrev pub money_of : (row : List ℕ) → (n : ℕ) → List ℕ
money_of row n = fill no_money (λ y. get_or row y 0) n
