-- `records::pots::pot_fault` meets its contract: a budget is too high, or none is, and then the cap is asked.
use borrow.Author.Rules.{rules}
use borrow.Author.Tests.{tests}
use native.Mathlib.Omega.{arith}
use Prim.Native.Nat.{ℕ, ◌≤◌, ◌<◌}
use mathlib.Core.Path.{refl, sym, ◌∙◌}
use mathlib.Core.List.{List}
use Rattle.std.proofs.lemmas.Iterator.{cases_from_any, YieldsList-from_range}
use Rattle.rules.specs.Names.{highest_budget}
use Rattle.rules.specs.File.{budget_at}
use Rattle.rules.specs.Refusals.{record_fault, pot_fault}
use Rattle.laws_reading.specs.Walk.{given_yes, given_no}
use Rattle.records.proofs.Laws.{no_cap_asked, cap_asked}
use Rattle.records.proofs.Ranges.{any_below}
use Rattle.records.proofs.pots.pot_fault.Goals as goal

-- what a test of a year's budget tells
module _ (years gained : ℕ) (recs : List ℕ) (p : ℕ) where
  abbrev High : ℕ → Type 0
  High y = highest_budget < budget_at years gained recs p y

  abbrev Low : ℕ → Type 0
  Low y = budget_at years gained recs p y ≤ highest_budget

pub returns-then-of-place : goal.returns-then-of-place
unfolding record_fault
returns-then-of-place c = sym (given_no _ _ _ (λ h. omega arith))

pub returns-then-any : goal.returns-then-any
unfolding record_fault pot_fault
returns-then-any c =
    let of = c.args.of.now in
    let P = High of.years of.gained of.recs.now c.args.p in
    let Q = Low of.years of.gained of.recs.now c.args.p in
    let high : (y : ℕ) × (y < of.years) × P y = (any_below of.years _ P Q (cases_from_any _ _ _ P Q c.if-any.ensures.ran
    (YieldsList-from_range 0 _ _ refl (omega arith)) (λ x q k. search (rules, tests)) (λ x q k. search (rules, tests)))).0 refl in
    sym (given_yes _ _ _ (omega arith) ∙ given_no _ _ _ (λ h. omega (arith, h.0 high.0 high.1, high.2)))

pub returns-then-of-eq0 : goal.returns-then-of-eq0
unfolding record_fault
returns-then-of-eq0 c =
    let of = c.args.of.now in
    let P = High of.years of.gained of.recs.now c.args.p in
    let Q = Low of.years of.gained of.recs.now c.args.p in
    let low : (y : ℕ) → y < of.years → Q y = (any_below of.years _ P Q (cases_from_any _ _ _ P Q c.if-any.ensures.ran
    (YieldsList-from_range 0 _ _ refl (omega arith)) (λ x q k. search (rules, tests)) (λ x q k. search (rules, tests)))).1 refl in
    no_cap_asked _ _ _ _ low c.if-of-eq0.true ∙ sym (given_yes _ _ _ (omega arith))

pub returns : goal.returns
unfolding record_fault
returns c =
    let of = c.args.of.now in
    let P = High of.years of.gained of.recs.now c.args.p in
    let Q = Low of.years of.gained of.recs.now c.args.p in
    let low : (y : ℕ) → y < of.years → Q y = (any_below of.years _ P Q (cases_from_any _ _ _ P Q c.if-any.ensures.ran
    (YieldsList-from_range 0 _ _ refl (omega arith)) (λ x q k. search (rules, tests)) (λ x q k. search (rules, tests)))).1 refl in
    cap_asked _ _ _ _ low c.if-of-eq0.false c.cap_fault.ensures
    c.cap.ensures.0
    ∙ sym (given_yes _ _ _ (omega arith))
