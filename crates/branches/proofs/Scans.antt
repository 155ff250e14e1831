-- The totals of one branch in which the lowest part of the number alone is undecided, read off what the upper parts come to. Assumes nothing.
use Prim.Native.Nat.{ℕ, ◌+◌, ◌-◌, ◌*◌, ◌/◌, ◌%◌, ◌≤◌, ◌<◌}
use mathlib.Core.Path.{◌≡◌, sym, ap, subst, ◌∙◌}
use mathlib.Core.Logic.{◌⊎◌}
use mathlib.Core.List.{List}
use native.Mathlib.Omega.{arith}
use lib.Bits.{bit_or, or_lt}
use lib.ListN.{get_or}
use lib.Dec.{eqb}
use borrow.Author.Tests.{eqb-true, eqb-false}
use Rattle.rules.specs.Names.{most_deliveries}
use Rattle.laws_pot.specs.Lists.{case}
use Rattle.sheet.specs.declared.Size.{Size}
use Rattle.sheet.specs.Sheet.{columns}
use Rattle.combinations.specs.Combinations.{year_sets, part_size, two_parts, three_parts, part_cost, part_years, joint_of, union_of}
use Rattle.ties.specs.Ties.{last_by}
use Rattle.branches.specs.declared.scan.Upper.{Upper}
use Rattle.branches.specs.Branches.{upper_of, total_at}

-- ---- what is read
pub upper_is : (of : Size) (table : List ℕ) (h : ℕ) {a b d e f g : ℕ} → a ≡ part_years table 1 (h % part_size) → b ≡ part_years table 2 (h / part_size % part_size)
    → d ≡ part_years table 3 (h / part_size / part_size) → e ≡ part_cost table 1 (h % part_size) (of.years - 1)
    → f ≡ part_cost table 2 (h / part_size % part_size) (of.years - 1) → g ≡ part_cost table 3 (h / part_size / part_size) (of.years - 1)
    → ◌≡◌ {A = Upper} (record { years = bit_or a (bit_or b d); sum = e + f + g }) (upper_of of table h)
unfolding upper_of
upper_is of table h ea eb ed ee ef eg = rw (ea, eb, ed, ee, ef, eg)

pub years_low : (a b : ℕ) → a < year_sets → b < year_sets → bit_or a b < year_sets
years_low a b h g = or_lt most_deliveries a b h g

pub total_is : (of : Size) (table : List ℕ) (u : Upper) (v : ℕ) {t w : ℕ} → t ≡ part_years table 0 v → w ≡ part_cost table 0 v (of.years - 1)
    → get_or table (bit_or t u.years * columns + (of.years - 1)) 0 + w + u.sum ≡ total_at of table u v
unfolding total_at
total_is of table u v et ew = rw (et, ew)

-- ---- the number with the upper parts of h and the lowest part v
module _ (h v : ℕ) (l : v < part_size) where
  low_part : (h * part_size + v) % part_size ≡ v
  low_part = omega arith

  second_part : (h * part_size + v) / part_size % part_size ≡ h % part_size
  second_part = omega arith

  third_part : (h * part_size + v) / two_parts % part_size ≡ h / part_size % part_size
  third_part = omega arith

  high_part : (h * part_size + v) / three_parts ≡ h / part_size / part_size
  high_part = omega arith

  pub total_last : (of : Size) (table : List ℕ) → total_at of table (upper_of of table h) v ≡ last_by of table (h * part_size + v)
  unfolding total_at upper_of last_by joint_of union_of
  total_last of table =
      rw (low_part, second_part, third_part, high_part)
      (omega arith)

-- ---- so many are passed
module _ (of : Size) (table : List ℕ) {u : Upper} (mask : ℕ) (eu : u ≡ upper_of of table (mask / part_size)) where
  at_place : (v : ℕ) → v < part_size → mask % part_size ≤ v → total_at of table u v ≡ last_by of table (mask + (v - mask % part_size))
  at_place v l h =
      rw eu (total_last (mask / part_size) v l of table)
      ∙ ap (last_by of table) place
    where
      place : mask / part_size * part_size + v ≡ mask + (v - mask % part_size)
      place = omega arith

  pub others_more : (most v : ℕ) {w : ℕ} → v < part_size → mask % part_size ≤ v → w ≡ total_at of table u v → (w ≡ most → ⊥)
      → ((j : ℕ) → j < v - mask % part_size → last_by of table (mask + j) ≡ most → ⊥)
      → (j : ℕ) → j < v + 1 - mask % part_size → last_by of table (mask + j) ≡ most → ⊥
  others_more most v l h ew n f j g = case (eqb j (v - mask % part_size))
      (λ t. λ e. n (ew ∙ at_place v l h ∙ sym (ap (λ (x : ℕ). last_by of table (mask + x)) (eqb-true j (v - mask % part_size) t)) ∙ e))
      (λ u. let d = eqb-false j (v - mask % part_size) u in f j (omega arith))

-- ---- from `left` down: those from the place `end` of the branch h on are passed
abbrev pub Passing : (tot : ℕ → ℕ) (goal limit from left : ℕ) → Type 0
Passing tot goal limit from left = (m : ℕ) → from ≤ m → m < left → (tot m < goal) ⊎ (limit < tot m)

module _ (of : Size) (table : List ℕ) {u : Upper} (h : ℕ) (eu : u ≡ upper_of of table h) (goal limit left end : ℕ) where
  pub shorts_more : {w : ℕ} → 0 < end → end ≤ part_size → w ≡ total_at of table u (end - 1) → (w < goal) ⊎ (limit < w)
      → Passing (last_by of table) goal limit (h * part_size + end) left → Passing (last_by of table) goal limit (h * part_size + (end - 1)) left
  shorts_more l g ew n P m a b =
      case (eqb m (h * part_size + (end - 1)))
      (λ t. subst (λ (x : ℕ). (x < goal) ⊎ (limit < x)) (ew ∙ rw eu (total_last h (end - 1) (omega arith) of table)
      ∙ ap (last_by of table) (sym (eqb-true m (h * part_size + (end - 1)) t))) n)
      (λ f. let d = eqb-false m (h * part_size + (end - 1)) f in P m (omega arith) b)
