-- Equal numbers are judged alike: for a function that reads numbers and hands them on; and records judged in file order. Assumes nothing.
use Prim.Native.Nat.{ℕ, zero, suc, ◌-◌, ◌*◌, ◌%◌, ◌≤◌, ◌<◌}
use lib.ListN.{length}
use mathlib.Core.Path.{◌≡◌, sym, ap, ◌∙◌}
use mathlib.Core.List.{List}
use native.Mathlib.Omega.{arith}
use Rattle.rules.specs.Names.{tech_broken, whole, highest_budget, highest_price, price_step}
use Rattle.rules.specs.File.{App, budget_at, cap_at, app_at}
use Rattle.rules.specs.Refusals.{scan, record_fault, pot_fault, app_fault}
use Rattle.rules.specs.Reading.{Reading, Refused, number_of, fault_in}
use Rattle.laws_reading.specs.Walk.{given_yes, given_no, same_rule, part_broken, at_fault, goes_on_lem, at_end}
use Rattle.laws_reading.specs.Reading.{holds}
use Rattle.std.specs.Prelude.{⊤, Result, Ok, Err}
use native.Mathlib.Nat.{sub-zero}
use Rattle.std.proofs.Common.{add-one}
use Rattle.rules.specs.declared.Refusal.{Refusal}
use Rattle.laws_reading.specs.Faults.{numbered}
use Rattle.rules.specs.declared.Rule.{Rule}
use Rattle.laws_reading.specs.Fault.{no_fault}
use Rattle.records.specs.Order.{NoneBefore, InOrder, right, wrong}
use Rattle.records.specs.Numbers.{cap_fault, prices_of, numbers_of, draw_of}

-- ---- the pots

module _ (y c : ℕ) (pots : List ℕ) (i : ℕ) (b : (k : ℕ) → k < y → budget_at y c pots i k ≤ highest_budget) where
  -- the budgets are right, and there is no cap
  pub no_cap_asked : c ≡ 0 → 0 ≡ pot_fault y c pots i
  unfolding pot_fault
  no_cap_asked e = sym (given_yes _ _ _ (b, λ l. absurd (omega arith)))

  -- the budgets are right, and it is the cap that is asked
  pub cap_asked : (c ≡ 0 → ⊥) → {r cap : ℕ} → r ≡ cap_fault cap → cap ≡ cap_at y c pots i → r ≡ pot_fault y c pots i
  unfolding cap_fault pot_fault
  cap_asked z e p = e ∙ ap cap_fault p ∙ same_rule _ _ _ (λ w. (b, λ l. w)) (λ h. h.1 (omega (arith, z)))

-- ---- the technologies

-- 5 of a technology's numbers in year k
abbrev pub Priced : (k d admin reference load : ℕ) → Type 0
Priced k d admin reference load =
    (load ≤ whole)
    × ((reference ≤ highest_price)
    × ((k < d → (price_step ≤ admin) × ((admin ≤ highest_price) × (admin % price_step ≡ 0))) × (d ≤ k → admin ≡ 0)))

module _ {r : ℕ} (k d : ℕ) {a b c a' b' c' : ℕ} (e : r ≡ prices_of k d a b c) (p : a ≡ a') (q : b ≡ b') (l : c ≡ c') where
  same_prices : r ≡ prices_of k d a' b' c'
  same_prices = cc

  pub prices_kept : Priced k d a' b' c' → r ≡ 0
  unfolding prices_of
  prices_kept h = same_prices ∙ given_yes _ _ _ h

  pub prices_wrong : (r ≡ 0 → ⊥) → r ≡ tech_broken
  unfolding prices_of
  prices_wrong z = same_prices ∙ given_no _ _ _ (λ h. z (prices_kept h))

  pub prices_right : r ≡ 0 → Priced k d a' b' c'
  unfolding prices_of
  prices_right z = (holds _ _ _ (sym same_prices ∙ z) (λ n. omega arith)).0

-- ---- the applications

module _ (years : List ℕ) (d t : ℕ) (recs : List ℕ) (i : ℕ) {r : ℕ} {x : App} (e : r ≡ numbers_of years d t x) (p : x ≡ app_at recs i) where
  same_numbers : r ≡ numbers_of years d t (app_at recs i)
  same_numbers = e ∙ ap (numbers_of years d t) p

  -- a number is wrong
  pub numbers_wrong : (r ≡ 0 → ⊥) → r ≡ app_fault years d t recs i
  unfolding numbers_of app_fault
  numbers_wrong z =
      same_numbers
      ∙ part_broken _ _ _ (λ h. (h.0, (h.1.0, (h.1.1.0, (h.1.1.1.0, (h.1.1.1.1.0, h.1.1.1.1.1.0)))))) (λ n. z (same_numbers ∙ n))

  -- the numbers are right, and it is the draw that is asked
  pub draw_asked : r ≡ 0 → draw_of recs i ≡ app_fault years d t recs i
  unfolding numbers_of draw_of app_fault
  draw_asked z =
      let k = (holds _ _ _ (sym same_numbers ∙ z) (λ n. omega arith)).0 in
      same_rule _ _ _ (λ w. (k.0, (k.1.0, (k.1.1.0, (k.1.1.1.0, (k.1.1.1.1.0, (k.1.1.1.1.1, w))))))) (λ h. h.1.1.1.1.1.1)

-- ---- records in file order

-- the records before record i are whole
pub whole_before : {post : ℕ → Result ⊤ Rule → Type 0} (recs : List ℕ) (width : ℕ) (f : ℕ → ℕ)
    → ((i : ℕ) (r : Result ⊤ Rule) → post i r → fault_in r ≡ record_fault recs width f i) → (i : ℕ) → NoneBefore post i → i * width ≤ length recs
whole_before recs width f judge zero N = omega arith
whole_before recs width f judge (suc i) N =
    let z = no_fault recs width f i (sym (judge i (Ok tt) (N.none i (omega arith)))) in
    omega (arith, z.0)

-- what the judge of each says goes into the answer q of those after them
module _ {post : ℕ → Result ⊤ Rule → Type 0} (f : ℕ → ℕ) (judge : (i : ℕ) (r : Result ⊤ Rule) → post i r → fault_in r ≡ f i) (width base n : ℕ) (q : Reading) where
  -- none of them is at fault, so that those from record i on are left to judge
  left : (i : ℕ) → i ≤ n → NoneBefore post i → scan f width base i (n - i) q ≡ scan f width base 0 n q
  left zero h N = rw (sub-zero n)
  left (suc i) h N =
      let before = left i (omega arith) (record { none = λ j l. N.none j (omega arith) }) in
      let e = goes_on_lem f width base n i q before (omega arith) (sym (judge i (Ok tt) (N.none i (omega arith)))) in
      rw (add-one i) at e

  pub all_right : InOrder post n base width (Ok tt) → q ≡ scan f width base 0 n q
  all_right (right N) = at_end f width base n n q (left n (omega arith) N) (omega arith)

  pub first_wrong : {r : Refusal} → InOrder post n base width (Err r) → Refused (number_of r.rule) r.at ≡ scan f width base 0 n q
  first_wrong (wrong i h rule p N at e) = rw e (at_fault f width base n i q (left i (omega arith) N) h (judge i (Err rule) p) (numbered rule))
