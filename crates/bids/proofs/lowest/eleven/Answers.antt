-- `bids::lowest::eleven` meets its contract: the price is even, or a bid of the application in the year is lower, or none is.
use borrow.Author.Rules.{rules}
use native.Mathlib.Omega.{arith}
use Prim.Native.Nat.{ℕ, ◌<◌}
use mathlib.Core.Bool.{Bool, true, false}
use mathlib.Core.Path.{◌≡◌, refl, sym}
use mathlib.Core.List.{List}
use Rattle.std.proofs.Math.Decide.{dec_lt}
use Rattle.std.proofs.lemmas.Iterator.{cases_from_any, YieldsList-from_range}
use Rattle.rules.specs.File.{bid_at}
use Rattle.rules.specs.Lists.{given, both}
use Rattle.rules.specs.Refusals.{same_year?, eleven_of}
use Rattle.laws_reading.specs.Walk.{given_yes, given_no}
use Rattle.bids.specs.Bids.{alone}
use Rattle.bids.proofs.Laws.{is_true, not_true}
use Rattle.bids.proofs.Ranges.{any_below}
use Rattle.bids.proofs.lowest.eleven.Goals as goal

-- the test of bid k beside bid i answers so
abbrev Told : (recs : List ℕ) → (i price : ℕ) → Bool → ℕ → Type 0
Told recs i price r k = r ≡ given (both (same_year? (alone recs i) k i) (dec_lt (bid_at recs k).price price)) true false

pub returns-then-price-eq0 : goal.returns-then-price-eq0
unfolding eleven_of
returns-then-price-eq0 c = sym (given_yes _ _ _ (λ h. omega arith))

pub returns-then-any : goal.returns-then-any
unfolding eleven_of
returns-then-any c =
    let P = Told c.args.recs.now c.args.i c.price-price.result true in
    let Q = Told c.args.recs.now c.args.i c.price-price.result false in
    let found : (k : ℕ) × (k < c.args.n) × P k = (any_below c.args.n _ P Q (cases_from_any _ _ _ P Q c.if-any.ensures.ran
    (YieldsList-from_range 0 _ _ refl (omega arith)) (λ x q k. search rules) (λ x q k. search rules))).0 refl in
    let low = is_true _ found.2 in
    sym (given_yes _ _ _ (λ h. omega (arith, h found.0 found.1 low.0, low.1)))

pub returns : goal.returns
unfolding eleven_of
returns c =
    let P = Told c.args.recs.now c.args.i c.price-price.result true in
    let Q = Told c.args.recs.now c.args.i c.price-price.result false in
    let none : (k : ℕ) → k < c.args.n → Q k = (any_below c.args.n _ P Q (cases_from_any _ _ _ P Q c.if-any.ensures.ran
    (YieldsList-from_range 0 _ _ refl (omega arith)) (λ x q k. search rules) (λ x q k. search rules))).1 refl in
    sym (given_no _ _ _ (λ h. omega (
      arith,
      h (λ k l e.
          let m : (bid_at c.args.recs.now k).price < c.price-price.result → ⊥ = λ m. not_true _ (none k l) (e, m) in omega (arith, m)),
    )))
