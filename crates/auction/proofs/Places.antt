-- What stands at each place of the arrays of a clearing. Assumes nothing.
use Prim.Native.Nat.{ℕ, zero, suc, ◌≤◌, ◌<◌}
use mathlib.Core.Path.{◌≡◌, refl, sym, subst, ◌∙◌}
use mathlib.Core.Bool.{Bool, not, ◌&&◌}
use mathlib.Core.List.{List, [], ◌∷◌, map}
use native.Mathlib.Omega.{arith}
use lib.ListN.{length, get_or, replicate, length-set}
use lib.Dec.{eqb, ltb}
use borrow.Author.Tests.{eqb-true}
use Rattle.rules.specs.Names.{most_years, most_bids, most_apps, no_reason, because_won}
use Rattle.rules.specs.Lists.{pick, memb, sift, below}
use Rattle.laws_pot.specs.Lists.{case}
use Rattle.sheet.specs.Sheet.{row_app, entrant_at, entrants}
use Rattle.arrays.proofs.Arrays.{eqb_sym, put_is, at_start, fill_each, zeros}
use Rattle.auction.specs.declared.Winning.{Winning}
use Rattle.auction.specs.declared.Winning.TheVariants.{Lost, Bid}
use Rattle.sheet.specs.declared.Size.{Size}
use Rattle.auction.specs.Numbers.{Known, AllKnown, reason_at, no_reasons, reasons_of, automatics_of, winning_of, no_money, money_of}

-- the money of a row of totals
pub money_each : (row : List ℕ) (g : ℕ → ℕ) (n : ℕ) → n ≤ most_years → ((y : ℕ) → y < n → get_or row y 0 ≡ g y)
    → (y : ℕ) → get_or (money_of row n) y 0 ≡ pick (ltb y n) (g y) 0
money_each row g n h q y = fill_each no_money (λ y. get_or row y 0) g n 0 (long h) blank q y
  where
    long : n ≤ most_years → n ≤ length no_money
    long h = unfold no_money in h

    blank : (k : ℕ) → ◌≡◌ {A = ℕ} (get_or no_money k 0) 0
    blank k = unfold no_money in zeros most_years k

-- ---- reasons

reasons_length : (sheet marks : List ℕ) (won : List Bool) (j : ℕ) → length (reasons_of sheet marks won j) ≡ most_bids
unfolding reasons_of
reasons_length sheet marks won zero = unfold no_reasons in refl
reasons_length sheet marks won (suc j) =
    length-set (reasons_of sheet marks won j) (entrant_at sheet j) (reason_at sheet marks won (entrant_at sheet j)) ∙ reasons_length sheet marks won j

pub reasons_at : (sheet marks : List ℕ) (won : List Bool) (j k : ℕ) → ((i : ℕ) → i < j → entrant_at sheet i < most_bids)
    → get_or (reasons_of sheet marks won j) k 0 ≡ pick (memb k (entrants sheet j)) (reason_at sheet marks won k) no_reason
unfolding reasons_of entrants
reasons_at sheet marks won zero k h = unfold no_reasons in zeros most_bids k
reasons_at sheet marks won (suc j) k h =
    let e = entrant_at sheet j in
    put_is (reasons_of sheet marks won j) e k (reason_at sheet marks won e) 0 (omega (arith, reasons_length sheet marks won j, h j (omega arith)))
    ∙ case (eqb k e) (λ t. rw (t, eqb-true k e t)) (λ f. rw f (reasons_at sheet marks won j k (λ i l. h i (omega arith))))

-- ---- automatic reasons

automatics_length : (sheet : List ℕ) (why j : ℕ) → length (automatics_of sheet why j) ≡ most_apps
unfolding automatics_of
automatics_length sheet why zero = refl
automatics_length sheet why (suc j) = length-set (automatics_of sheet why j) (row_app sheet (entrant_at sheet j)) no_reason ∙ automatics_length sheet why j

-- none where one of the bids passed is of the application
pub automatics_at : (sheet : List ℕ) (why j a : ℕ) → ((i : ℕ) → i < j → row_app sheet (entrant_at sheet i) < most_apps) → a < most_apps
    → get_or (automatics_of sheet why j) a 0 ≡ pick (not (memb a (map (row_app sheet) (entrants sheet j)))) why no_reason
unfolding automatics_of entrants
automatics_at sheet why zero a h l = at_start most_apps a why 0 l
automatics_at sheet why (suc j) a h l =
    let e = row_app sheet (entrant_at sheet j) in
    put_is (automatics_of sheet why j) e a no_reason 0 (omega (arith, automatics_length sheet why j, h j (omega arith)))
    ∙ case (eqb a e) (λ t. rw t) (λ f. rw f (automatics_at sheet why j a (λ i g. h i (omega arith)) l))

-- ---- winning bids

-- an application's winning bid, where those that won for it are listed
abbrev pub bid_or : List ℕ → Winning
bid_or [] = Lost
bid_or (w ∷ ws) = Bid w

-- the winning bid of application a among the bids below n: the last that is marked as won for it
abbrev pub won_for : (sheet marks : List ℕ) (a w : ℕ) → Bool
won_for sheet marks a w = eqb (row_app sheet w) a && eqb (get_or marks w 0) because_won

winning_length : (sheet marks : List ℕ) (n : ℕ) → length (winning_of sheet marks n) ≡ most_apps
unfolding winning_of
winning_length sheet marks zero = refl
winning_length sheet marks (suc n) =
    case (eqb (get_or marks n 0) because_won) (λ t. rw t (length-set (winning_of sheet marks n) (row_app sheet n) (Bid n) ∙ winning_length sheet marks n))
    (λ f. rw f (winning_length sheet marks n))

pub winning_at : (sheet marks : List ℕ) (n a : ℕ) → ((k : ℕ) → k < n → row_app sheet k < most_apps) → a < most_apps
    → get_or (winning_of sheet marks n) a Lost ≡ bid_or (sift (won_for sheet marks a) (below n))
unfolding winning_of
winning_at sheet marks zero a h l = at_start most_apps a Lost Lost l
winning_at sheet marks (suc n) a h l =
    let ih = winning_at sheet marks n a (λ k g. h k (omega arith)) l in
    case (eqb (get_or marks n 0) because_won)
    (λ t. rw t (put_is (winning_of sheet marks n) (row_app sheet n) a (Bid n) Lost (omega (arith, winning_length sheet marks n, h n (omega arith)))
    ∙ rw (eqb_sym a (row_app sheet n)) (case (eqb (row_app sheet n) a) (λ u. rw u) (λ u. rw u ih))))
    (λ f. rw f (case (eqb (row_app sheet n) a) (λ u. rw u ih) (λ u. rw u ih)))

-- all of them are the sheet's; and so is what all applications won with, if that is
pub known_flat : (of : Size) (w : Winning) (n a : ℕ) → Known of w → Known of (get_or (replicate n w) a Lost)
known_flat of w zero a k = tt
known_flat of w (suc n) zero k = k
known_flat of w (suc n) (suc a) k = known_flat of w n a k

pub winning_known : (sheet marks : List ℕ) (of : Size) (n : ℕ) → n ≤ of.bids → ((k : ℕ) → k < n → row_app sheet k < most_apps) → AllKnown of (winning_of sheet marks n)
unfolding winning_of
winning_known sheet marks of zero h r a = known_flat of Lost most_apps a tt
winning_known sheet marks of (suc n) h r a =
    let ih = winning_known sheet marks of n (omega arith) (λ k g. r k (omega arith)) a in
    case (eqb (get_or marks n 0) because_won)
    (λ t. rw t (subst (Known of) (sym (put_is (winning_of sheet marks n) (row_app sheet n) a (Bid n) Lost (omega (arith, winning_length sheet marks n, r n (omega arith)))))
    (case (eqb a (row_app sheet n)) (λ u. rw u (let l : n < of.bids = omega arith in l)) (λ u. rw u ih))))
    (λ f. rw f ih)
