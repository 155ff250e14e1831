-- Laws over plain variables: each answers one need of a proof. Assumes nothing.
use Prim.Native.Nat.{ℕ, zero, suc, ◌+◌, ◌≤◌, ◌<◌}
use mathlib.Core.Path.{◌≡◌, refl, sym, ap, ◌∙◌}
use mathlib.Core.Bool.{Bool, true, false}
use mathlib.Core.List.{List, ◌++◌}
use native.Mathlib.Omega.{arith}
use native.Mathlib.Numerals.{add-one}
use lib.ListN.{length, get_or, set, take, drop}
use lib.Seq.{take-suc, drop-cons}
use Rattle.std.proofs.lemmas.List.{append_assoc, set_at, length-take-le}
use Rattle.arrays.specs.Sets.{fill}
use borrow.Author.Tests.{eq-eqb, ne_eqb}
use Rattle.rules.specs.Names.{because_won, most_bids}
use Rattle.sheet.specs.declared.Size.{Size}
use Rattle.sheet.specs.Sheet.{Ready, entrant_at, row_app}
use Rattle.auction.specs.declared.Winning.{Winning}
use Rattle.auction.specs.declared.Winning.TheVariants.{Bid}
use Rattle.sheet.proofs.Entrants.{entrant_small, entrants_few}
use Rattle.auction.specs.Numbers.{reason_by, reason_at, reasons_of, automatics_of, winning_of}

-- ---- reasons

pub reason_marked : (mark : ℕ) (won : Bool) → (mark ≡ 0 → ⊥) → mark ≡ reason_by mark won
unfolding reason_by
reason_marked mark won n = rw (ne_eqb mark 0 n)

pub reason_won : (mark : ℕ) (won : Bool) → mark ≡ 0 → won ≡ true → 4 ≡ reason_by mark won
unfolding reason_by
reason_won mark won e t = rw (eq-eqb mark 0 e, t)

pub reason_else : (mark : ℕ) (won : Bool) → mark ≡ 0 → won ≡ false → 5 ≡ reason_by mark won
unfolding reason_by
reason_else mark won e t = rw (eq-eqb mark 0 e, t)

-- that of the next bid that enters
pub reason_next : (sheet marks : List ℕ) (won : List Bool) (j : ℕ) {l : List ℕ} {k a r : ℕ} → l ≡ reasons_of sheet marks won j → k ≡ entrant_at sheet j
    → a ≡ row_app sheet k → r ≡ reason_by (get_or marks k 0) (get_or won a false) → set l k r ≡ reasons_of sheet marks won (j + 1)
unfolding reasons_of reason_at
reason_next sheet marks won j {k = k} e q p h = rw (add-one j, h, p, e, q)

-- ---- automatic reasons

pub automatic_next : (sheet : List ℕ) (why j : ℕ) {l : List ℕ} {k a : ℕ} → l ≡ automatics_of sheet why j → k ≡ entrant_at sheet j → a ≡ row_app sheet k
    → set l a 0 ≡ automatics_of sheet why (j + 1)
unfolding automatics_of
automatic_next sheet why j e q p = rw (add-one j, p, e, q)

-- ---- winning bids

pub winning_hit : (sheet marks : List ℕ) (k : ℕ) {l : List Winning} {a : ℕ} → l ≡ winning_of sheet marks k → a ≡ row_app sheet k → get_or marks k 0 ≡ because_won
    → set l a (Bid k) ≡ winning_of sheet marks (k + 1)
unfolding winning_of
winning_hit sheet marks k e p h = rw (add-one k, eq-eqb (get_or marks k 0) because_won h, e, p)

pub winning_miss : (sheet marks : List ℕ) (k : ℕ) {l : List Winning} → l ≡ winning_of sheet marks k → (get_or marks k 0 ≡ because_won → ⊥)
    → l ≡ winning_of sheet marks (k + 1)
unfolding winning_of
winning_miss sheet marks k e h = rw (add-one k, ne_eqb (get_or marks k 0) because_won h) e

-- ---- the money of a row of totals: the first n values of r were copied over those of l

pub copied : {A : Type 0} (l r : List A) (d : A) (n : ℕ) → n ≤ length l → n ≤ length r → take n r ++ drop n l ≡ fill l (λ k. get_or r k d) n
unfolding fill
copied {A} l r d zero h g = refl
copied {A} l r d (suc n) h g =
    let v = get_or r n d in
    let s : n < length l = omega arith in
    let e : n < length r = omega arith in
    rw (take-suc r n d e, append_assoc)
    (sym (ap (λ (z : List A). set z n v) (sym (copied l r d n (omega arith) (omega arith)) ∙ ap (λ (z : List A). take n r ++ z) (drop-cons l n d s))
    ∙ set_at (take n r) (get_or l n d) (drop (suc n) l) v n (length-take-le n r (omega arith))))

-- ---- what an accessor answered is below its bound

pub app_below : (sheet : List ℕ) (of : Size) (k : ℕ) {a : ℕ} → Ready sheet of → k < of.bids → a ≡ row_app sheet k → a < 64
app_below sheet of k ok h e = omega (arith, ok.app k h)

pub row_there : (sheet : List ℕ) (of : Size) (k : ℕ) → Ready sheet of → k < of.bids → k < most_bids
row_there sheet of k ok h = omega (arith, ok.few)

pub entrant_there : (sheet : List ℕ) (of : Size) (j : ℕ) → Ready sheet of → j < of.entered → j < most_bids
entrant_there sheet of j ok h = omega (arith, entrants_few ok, ok.few)

pub entrant_below : (sheet : List ℕ) (of : Size) (j : ℕ) {k : ℕ} → Ready sheet of → j < of.entered → k ≡ entrant_at sheet j → k < of.bids
entrant_below sheet of j ok h e = omega (arith, entrant_small ok j h)
