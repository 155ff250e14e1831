-- Equal numbers are judged alike; and the rules that read nothing but the bids. Assumes nothing.
use Prim.Native.Nat.{ℕ, ◌≤◌, ◌<◌}
use mathlib.Core.List.{List}
use mathlib.Core.Path.{◌≡◌, refl, sym, ap, ◌∙◌}
use native.Mathlib.Omega.{arith}
use Rattle.std.specs.Prelude.{Bool, true, false, eqb, ⊤, Result, Ok, Err}
use Rattle.std.specs.Result.{result_and}
use Rattle.std.specs.Int.{from_bool}
use mathlib.Core.Logic.{⊎_elim}
use Rattle.std.proofs.lemmas.Bool.Decides.{eqb_tells}
use Rattle.rules.specs.Lists.{given}
use Rattle.rules.specs.File.{Round, App, Bid, year_at, tech_at, app_at, bid_at}
use Rattle.rules.specs.Reading.{fault_in}
use Rattle.rules.specs.declared.Rule.{Rule}
use Rattle.rules.specs.Refusals.{or_fault, seven_of, eight_of, nine_of, bid_fault}
use Rattle.rules.specs.declared.Sections.{Sections}
use Rattle.layout.specs.Layout.{years_in, technologies_in, applications_in}
use Rattle.layout.proofs.Laws.{read_in}
use Rattle.laws_reading.specs.Walk.{given_yes, given_no, same_rule, found, passed}
use Rattle.laws_reading.specs.Faults.{numbered}
use Rattle.bids.specs.Bids.{judge_of, held_of, tables_of, alone}

-- the rule of the numbers that were read in the parts of the file is the rule of the bid
pub held_is : (s : List ℕ) (g : Sections) (b : Bid) {a : App} {r most-days admin : ℕ} {years techs apps : List ℕ}
    → years ≡ years_in s g → techs ≡ technologies_in s g → apps ≡ applications_in s g → r ≡ judge_of b a most-days admin → a ≡ app_at apps b.app
    → most-days ≡ (year_at years b.year).days → admin ≡ (tech_at g.years techs a.tech).admin b.year → r ≡ held_of s g b
unfolding held_of
held_is s g b ey et ea e p q l =
    let p' = p ∙ ap (λ (x : List ℕ). app_at x b.app) ea in
    let q' = read_in (λ x. (year_at x b.year).days) ey q in
    let l' = l ∙ (λ j. (tech_at g.years (et j) (p' j).tech).admin b.year) in
    e ∙ (λ j. judge_of b (p' j) (q' j) (l' j))

-- the application is in the file and the year a delivery year: the rest of rule 7 is asked
pub rest_asked : (s recs : List ℕ) (g : Sections) (i : ℕ) {r : ℕ} {b : Bid} → r ≡ held_of s g b → b ≡ bid_at recs i → b.app < g.applications
    → b.year < g.deliveries
    → r ≡ seven_of (tables_of s recs g) i
unfolding held_of judge_of seven_of
rest_asked s recs g i e p l h =
    e ∙ ap (held_of s g) p ∙ same_rule _ _ _ (λ w. (rw p at l, (rw p at h, w))) (λ w. w.1.1)

-- "for bids 7, then 8, then 9": 7 is broken, or it is kept and 8 and 9 are asked, which read nothing but the bids
module _ (R : Round) (i : ℕ) where
  pub seven_first : {r : ℕ} → r ≡ seven_of R i → (r ≡ 0 → ⊥) → r ≡ bid_fault R i
  unfolding bid_fault
  seven_first e z = found _ _ e z

  pub seven_kept : {r : ℕ} → 0 ≡ seven_of R i → r ≡ or_fault (eight_of (alone R.bids i) i) (nine_of (alone R.bids i) i) → r ≡ bid_fault R i
  unfolding bid_fault eight_of nine_of
  seven_kept e f = passed _ _ e refl f

  pub seven_then : (s e : Result ⊤ Rule) → fault_in s ≡ seven_of R i
      → fault_in e ≡ or_fault (eight_of (alone R.bids i) i) (nine_of (alone R.bids i) i)
      → fault_in (result_and s e) ≡ bid_fault R i
  seven_then (Ok none) e p q = seven_kept p q
  seven_then (Err rule) e p q = seven_first p (numbered rule)

-- ---- tests of what a rule is about

-- two numbers are compared that are equal just where the rule holds
pub tests : {P : Type 0} (d : Dec P) {a b : ℕ} → (a ≡ b → P) → (P → a ≡ b) → eqb a b ≡ given d true false
tests d {a} {b} f g =
    ⊎_elim (λ (e : (eqb a b ≡ true) × (a ≡ b)). e.0 ∙ sym (given_yes d true false (f e.1)))
    (λ e. e.0 ∙ sym (given_no d true false (λ h. e.1 (g h)))) (eqb_tells a b)

-- what a test says that came out true, and one that came out false
pub is_true : {P : Type 0} (d : Dec P) → true ≡ given d true false → P
unfolding given
is_true (yes p) e = p
is_true (no n) e = let f : ⊥ = cc in absurd f

pub not_true : {P : Type 0} (d : Dec P) → false ≡ given d true false → P → ⊥
unfolding given
not_true (yes p) e h = cc
not_true (no n) e h = n h

-- a test as a number
pub counted : {P : Type 0} (d : Dec P) {b : Bool} {r : ℕ} → b ≡ given d true false → r ≡ from_bool b → (r ≡ given d 1 0) × (r ≤ 1)
unfolding given
counted (yes p) {b} {r} e q = let k : r ≡ 1 = q ∙ ap from_bool e in (k, omega arith)
counted (no n) {b} {r} e q = let k : r ≡ 0 = q ∙ ap from_bool e in (k, omega arith)
