-- What the functions of `branches` compute and need: branches of combinations, and when nothing in one is looked for. Assumes nothing.
use Rattle.std.specs.Prelude.{ℕ, ◌+◌, ◌-◌, ◌*◌, ◌/◌, ◌%◌, ◌^◌, ◌≤◌, ◌<◌, ◌≡◌, Bool, true, false, ◌&&◌, ◌⊎◌, List, get_or, eqb, leb, Option, None, Some}
use Rattle.std.specs.Int.Bits.{bit_or}
use Rattle.rules.specs.Names.{most_years}
use Rattle.rules.specs.Lists.{pick}
use Rattle.rules.specs.Pot.{has}
use Rattle.sheet.specs.declared.Size.{Size}
use Rattle.sheet.specs.Sheet.{columns}
use Rattle.combinations.specs.Combinations.{year_sets, combinations, part_size, most_base, part_cost, part_years, Tabled}
use Rattle.ties.specs.declared.best.Best.{Best}
use Rattle.branches.specs.declared.scan.Upper.{Upper}

-- ---- branches: the combinations, so many, from `mask` on, which have the higher binary places of `mask` and differ in the lower ones
pub record Sized (size : ℕ) : Type 0 where
  pub places : ℕ
  pub is : size ≡ 2 ^ places

pub record Branch (mask size : ℕ) : Type 0 where
  pub sized : Sized size
  pub head : ℕ
  pub at : mask ≡ size * head
  pub room : mask + size ≤ combinations

-- none of n combinations from `mask` on fits and reaches the goal; and none of those n before `left`
abbrev pub Past : (ok : ℕ → Bool) (tot : ℕ → ℕ) (goal mask n : ℕ) → Type 0
Past ok tot goal mask n = (j : ℕ) → j < n → (ok (mask + j) && leb goal (tot (mask + j))) ≡ false

pub record Fallen (ok : ℕ → Bool) (tot : ℕ → ℕ) (goal left n : ℕ) : Type 0 where
  pub few : n ≤ left
  pub past : Past ok tot goal (left - n) n

-- ---- the best, with the larger numbers first

-- what another must have to be better than the one found, if one is; and a look at one more
abbrev pub goal_of : Option Best → ℕ
goal_of None = 0
goal_of (Some b) = b.total + 1

unfoldable pub met_of : (ok : ℕ → Bool) (tot : ℕ → ℕ) (goal mask : ℕ) → Option Best
met_of ok tot goal mask = pick (ok mask && leb goal (tot mask)) (Some (record { mask = mask; total = tot mask })) None

-- ---- the numbers whose upper parts are those of h: which years these touch and what they count in the last year; and the total with the lowest part v
pub record Lasting (of : Size) (table : List ℕ) : Type 0 where
  pub tables : Tabled table
  pub some : 0 < of.years
  pub years : of.years ≤ most_years

unfoldable pub upper_of : (of : Size) (table : List ℕ) (h : ℕ) → Upper
upper_of of table h = record {
  years = bit_or (part_years table 1 (h % part_size)) (bit_or (part_years table 2 (h / part_size % part_size)) (part_years table 3 (h / part_size / part_size)));
  sum = part_cost table 1 (h % part_size) (of.years - 1) + part_cost table 2 (h / part_size % part_size) (of.years - 1)
      + part_cost table 3 (h / part_size / part_size) (of.years - 1);
}

pub record Upright (u : Upper) : Type 0 where
  pub years : u.years < year_sets
  pub sum : u.sum ≤ 3 * most_base

unfoldable pub total_at : (of : Size) (table : List ℕ) → Upper → (v : ℕ) → ℕ
total_at of table u v =
    get_or table (bit_or (part_years table 0 v) u.years * columns + (of.years - 1)) 0 + part_cost table 0 v (of.years - 1) + u.sum

-- n combinations from `mask` on have another total; and n before `left` have less, or more than the limit
pub record Other (tot : ℕ → ℕ) (most mask n : ℕ) : Type 0 where
  pub few : n ≤ part_size - mask % part_size
  pub none : (j : ℕ) → j < n → tot (mask + j) ≡ most → ⊥

pub record Short (tot : ℕ → ℕ) (goal limit left n : ℕ) : Type 0 where
  pub few : n ≤ left
  pub none : (m : ℕ) → left - n ≤ m → m < left → (tot m < goal) ⊎ (limit < tot m)

-- ---- those that may be kept

-- a bid whose place the combination m has not can be added
pub record Open (ok : ℕ → Bool) (end m : ℕ) : Type 0 where
  pub place : ℕ
  pub free : has m place ≡ false
  pub low : m + 2 ^ place < end
  pub fits : ok (m + 2 ^ place) ≡ true

-- a combination that is not sought: it does not fit or falls short, has another total, or a bid can be added; and n of these from `mask` on
abbrev pub Unsought : (ok : ℕ → Bool) (tot : ℕ → ℕ) (most end m : ℕ) → Type 0
Unsought ok tot most end m = ((ok m && leb most (tot m)) ≡ false) ⊎ ((tot m ≡ most → ⊥) ⊎ Open ok end m)

pub record Passed (ok : ℕ → Bool) (tot : ℕ → ℕ) (most mask left n : ℕ) : Type 0 where
  pub few : n ≤ left
  pub none : (j : ℕ) → j < n → Unsought ok tot most (mask + left) (mask + j)

-- one that fits and has the greatest total
unfoldable pub near_by : (ok : ℕ → Bool) (tot : ℕ → ℕ) (most m : ℕ) → Bool
near_by ok tot most m = eqb (tot m) most && ok m
