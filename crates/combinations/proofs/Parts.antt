-- The combinations by the parts of their numbers: a number below 2 ^ n and a multiple of 2 ^ n have no binary place in common, so what they cost and the
-- years that they touch are joined. Assumes nothing.
use Prim.Native.Nat.{ℕ, zero, suc, ◌+◌, ◌-◌, ◌*◌, ◌/◌, ◌%◌, ◌^◌, ◌≤◌, ◌<◌, max}
use mathlib.Core.Path.{◌≡◌, refl, sym, ap, ap₂, ◌∙◌}
use mathlib.Core.Bool.{false}
use mathlib.Core.List.{List}
use native.Mathlib.Nat.{pow-suc, mul-le-mul_right}
use native.Mathlib.Omega.{arith}
use lib.Bits.{bit_or, or_step, or_comm, or_lt}
use lib.Pow.{pow_pos, pow-add}
use lib.ListN.{length, get_or}
use lib.Dec.{ltb}
use borrow.Author.Tests.{eqb-true, eqb-false, le-ltb}
use Rattle.rules.specs.Names.{most_deliveries, widest_tie}
use Rattle.rules.specs.Value.{dearest}
use Rattle.rules.specs.Pot.{has}
use Rattle.laws_pot.specs.Lists.{case, pick_all}
use Rattle.laws_pot.specs.Bits.{has_suc, has_none, add_lt, has_join, has_apart, has_high}
use Rattle.arrays.specs.Sets.{fill}
use Rattle.arrays.proofs.Arrays.{zeros, fill_at, fill_each, fill_le, fill_stays, fill_rests}
use Rattle.sheet.specs.Sheet.{columns}
use Rattle.combinations.specs.Combinations.{year_sets, combinations, parts, part_places, part_size, two_parts, three_parts, part_rows, Bounded, most_base}
use Rattle.combinations.specs.Combinations.{no_list, no_own, touch_of, touched_of, combined_of, one_at, ones_of, cost_at, no_costs, costs_of, one_year_at}
use Rattle.combinations.specs.Combinations.{one_years_of, year_at, no_years, years_of, costs_at, dates_at, table_length, table_at, no_table, table_by}
use Rattle.combinations.specs.Combinations.{part_cost, part_years, joint_of, union_of, Tabled}
use Rattle.combinations.proofs.Laws.{base_part, costs_part, dates_part}

-- ---- binary places
has_under : (v n i : ℕ) → i < n → has (v * 2 ^ n) i ≡ false
has_under v n i h = ap (λ (x : ℕ). has x i) turned ∙ has_high v n i h
  where
    turned : v * 2 ^ n ≡ 2 ^ n * v
    turned = omega arith

once : (x : ℕ) → 2 ^ x ≡ 1 * 2 ^ x
once x = omega arith

-- ---- what the bids cost
combined_none : (own ranks : List ℕ) (c k : ℕ) → combined_of own ranks 0 c k ≡ 0
unfolding combined_of
combined_none own ranks c zero = refl
combined_none own ranks c (suc k) = rw (has_none (get_or ranks k 0)) (omega (arith, combined_none own ranks c k))

combined_join : (own ranks : List ℕ) (c n v u k : ℕ) → v < 2 ^ n
    → combined_of own ranks (v + 2 ^ n * u) c k ≡ combined_of own ranks v c k + combined_of own ranks (2 ^ n * u) c k
unfolding combined_of
combined_join own ranks c n v u zero h = refl
combined_join own ranks c n v u (suc k) h =
    let r = combined_join own ranks c n v u k h in
    let i = get_or ranks k 0 in
    let j = has_join u n v i h in
    case (has v i) (λ t. rw (j, t, has_apart u n v i h t, r) (omega arith)) (λ f. rw (j, f, r) (omega arith))

-- nothing, where no bid has a place of the number
combined_past : (own ranks : List ℕ) (v s c k : ℕ) → ((j : ℕ) → j < k → get_or ranks j 0 < s) → combined_of own ranks (v * 2 ^ s) c k ≡ 0
unfolding combined_of
combined_past own ranks v s c zero h = refl
combined_past own ranks v s c (suc k) h =
    rw (has_under v s (get_or ranks k 0) (h k (omega arith))) (omega (arith, combined_past own ranks v s c k (λ j g. h j (omega arith))))

-- ---- the years that they touch
touch_zero : (t : ℕ) → touch_of t 0 ≡ t / 2 * 2 + 1
unfolding touch_of
touch_zero t = case (has t 0) (λ e. rw e (omega (arith, eqb-true (t / 1 % 2) 1 e))) (λ e. rw e (omega (arith, eqb-false (t / 1 % 2) 1 e)))

touch_suc : (t d : ℕ) → touch_of t (suc d) ≡ touch_of (t / 2) d * 2 + t % 2
unfolding touch_of
touch_suc t d =
    case (has (t / 2) d) (λ e. rw (has_suc t d ∙ e, e) (omega arith)) (λ e. rw (has_suc t d ∙ e, e) (omega (arith, pow-suc 2 d)))

max_low : (a b : ℕ) → max (a % 2) (b % 2) < 2
max_low a b = omega arith

or_half : (a b : ℕ) → bit_or a b / 2 ≡ bit_or (a / 2) (b / 2)
or_half a b = omega (arith, or_step a b, max_low a b)

or_last : (a b : ℕ) → bit_or a b % 2 ≡ max (a % 2) (b % 2)
or_last a b = omega (arith, or_step a b, max_low a b)

-- one more year in one of two sets
or_touch : (a b d : ℕ) → bit_or (touch_of a d) b ≡ touch_of (bit_or a b) d
or_touch a b zero =
    let half : (a / 2 * 2 + 1) / 2 ≡ a / 2 = omega arith in
    let last : (a / 2 * 2 + 1) % 2 ≡ 1 = omega arith in
    let one : max 1 (b % 2) ≡ 1 = omega arith in
    ap (λ (x : ℕ). bit_or x b) (touch_zero a) ∙ or_step (a / 2 * 2 + 1) b ∙ ap₂ (λ (x m : ℕ). bit_or x (b / 2) * 2 + max m (b % 2)) half last
    ∙ ap₂ (λ (x m : ℕ). x * 2 + m) (sym (or_half a b)) one ∙ sym (touch_zero (bit_or a b))
or_touch a b (suc d) =
    let x = touch_of (a / 2) d in
    let half : (x * 2 + a % 2) / 2 ≡ x = omega arith in
    let last : (x * 2 + a % 2) % 2 ≡ a % 2 = omega arith in
    ap (λ (x : ℕ). bit_or x b) (touch_suc a d) ∙ or_step (x * 2 + a % 2) b ∙ ap₂ (λ (x m : ℕ). bit_or x (b / 2) * 2 + max m (b % 2)) half last
    ∙ ap₂ (λ (x m : ℕ). x * 2 + m) (or_touch (a / 2) (b / 2) d ∙ ap (λ (x : ℕ). touch_of x d) (sym (or_half a b))) (sym (or_last a b))
    ∙ sym (touch_suc (bit_or a b) d)

touched_none : (ranks starts : List ℕ) (k : ℕ) → touched_of ranks starts 0 k ≡ 0
unfolding touched_of
touched_none ranks starts zero = refl
touched_none ranks starts (suc k) = rw (has_none (get_or ranks k 0)) (touched_none ranks starts k)

touched_past : (ranks starts : List ℕ) (v s k : ℕ) → ((j : ℕ) → j < k → get_or ranks j 0 < s) → touched_of ranks starts (v * 2 ^ s) k ≡ 0
unfolding touched_of
touched_past ranks starts v s zero h = refl
touched_past ranks starts v s (suc k) h =
    rw (has_under v s (get_or ranks k 0) (h k (omega arith))) (touched_past ranks starts v s k (λ j g. h j (omega arith)))

touched_join : (ranks starts : List ℕ) (n v u k : ℕ) → v < 2 ^ n
    → touched_of ranks starts (v + 2 ^ n * u) k ≡ bit_or (touched_of ranks starts v k) (touched_of ranks starts (2 ^ n * u) k)
unfolding touched_of
touched_join ranks starts n v u zero h = refl
touched_join ranks starts n v u (suc k) h =
    let r = touched_join ranks starts n v u k h in
    let i = get_or ranks k 0 in
    let d = get_or starts k 0 in
    let j = has_join u n v i h in
    let a = touched_of ranks starts v k in
    let b = touched_of ranks starts (2 ^ n * u) k in
    case (has v i)
    (λ t. rw (j, t, has_apart u n v i h t, r) (sym (or_touch a b d)))
    (λ f. case (has (2 ^ n * u) i)
    (λ t. rw (j, f, t, r) (ap (λ (x : ℕ). touch_of x d) (or_comm a b) ∙ sym (or_touch b a d) ∙ or_comm (touch_of b d) a))
    (λ g. rw (j, f, g) r))

pub touch_low : (t d : ℕ) → t < 16 → d < 4 → touch_of t d < 16
unfolding touch_of
touch_low t d h g = case (has t d) (λ u. rw u h) (λ u. rw u (add_lt t d 4 u g h))

pub touched_low : (ranks starts : List ℕ) (mask k : ℕ) → ((j : ℕ) → j < k → get_or starts j 0 < 4) → touched_of ranks starts mask k < 16
unfolding touched_of
touched_low ranks starts mask zero h = omega arith
touched_low ranks starts mask (suc k) h =
    let r = touched_low ranks starts mask k (λ j g. h j (omega arith)) in
    case (has mask (get_or ranks k 0)) (λ t. rw t (touch_low (touched_of ranks starts mask k) (get_or starts k 0) r (h k (omega arith)))) (λ f. rw f r)

combined_le : (own ranks : List ℕ) (mask c k : ℕ) → ((i : ℕ) → get_or own i 0 ≤ dearest) → combined_of own ranks mask c k ≤ dearest * k
unfolding combined_of
combined_le own ranks mask c zero h = omega arith
combined_le own ranks mask c (suc k) h =
    let r = combined_le own ranks mask c k h in
    case (has mask (get_or ranks k 0)) (λ t. rw t (omega (arith, h (k * columns + c)))) (λ f. rw f (omega arith))

-- ---- a table of the combinations of five places from s on: that without its highest place r, and that place
module _ (s r q : ℕ) (h : 2 ^ r ≤ q) (g : q < 2 * 2 ^ r) where
  without : (q - 2 ^ r) * 2 ^ s < 2 ^ (s + r)
  without = omega (arith, pow-add 2 s r, mul-le-mul_right (2 ^ s) less, pow_pos s)
    where
      less : q - 2 ^ r + 1 ≤ 2 ^ r
      less = omega arith

  parted : q * 2 ^ s ≡ (q - 2 ^ r) * 2 ^ s + 2 ^ (s + r) * 1
  parted = omega (arith, pow-add 2 s r, ap (λ (x : ℕ). x * 2 ^ s) same)
    where
      same : q - 2 ^ r + 2 ^ r ≡ q
      same = omega arith

  alone : 2 ^ (s + r) * 1 ≡ 2 ^ (s + r)
  alone = omega arith

  combined_part : (own ranks : List ℕ) (c k : ℕ)
      → combined_of own ranks ((q - 2 ^ r) * 2 ^ s) c k + combined_of own ranks (2 ^ (s + r)) c k ≡ combined_of own ranks (q * 2 ^ s) c k
  combined_part own ranks c k =
      sym (ap (λ (x : ℕ). combined_of own ranks x c k) parted ∙ combined_join own ranks c (s + r) ((q - 2 ^ r) * 2 ^ s) 1 k without
      ∙ ap (λ (x : ℕ). combined_of own ranks ((q - 2 ^ r) * 2 ^ s) c k + combined_of own ranks x c k) alone)

  touched_part : (ranks starts : List ℕ) (k : ℕ) {a b : ℕ} → a ≡ touched_of ranks starts ((q - 2 ^ r) * 2 ^ s) k → b ≡ touched_of ranks starts (2 ^ (s + r)) k
      → bit_or a b ≡ touched_of ranks starts (q * 2 ^ s) k
  touched_part ranks starts k ea eb =
      ap₂ bit_or ea eb
      ∙ sym (ap (λ (x : ℕ). touched_of ranks starts x k) parted ∙ touched_join ranks starts (s + r) ((q - 2 ^ r) * 2 ^ s) 1 k without
      ∙ ap (λ (x : ℕ). bit_or (touched_of ranks starts ((q - 2 ^ r) * 2 ^ s) k) (touched_of ranks starts x k)) alone)

-- a number with less in one part
less_row : (i p : ℕ) → p ≤ i / columns → (i - p * columns) / columns ≡ i / columns - p
less_row i p h = omega arith

less_place : (i p : ℕ) → p ≤ i / columns → (i - p * columns) % columns ≡ i % columns
less_place i p h = omega arith

less_part : (x p : ℕ) → p ≤ x % part_size → (x - p) % part_size ≡ x % part_size - p
less_part x p h = omega arith

less_above : (x p : ℕ) → p ≤ x % part_size → (x - p) / part_size ≡ x / part_size
less_above x p h = omega arith

by_parts : (i : ℕ) → i / part_rows ≡ i / columns / part_size
by_parts i = omega arith

cost_step : (own ranks : List ℕ) (k i r : ℕ) {a b : ℕ} → 2 ^ r ≤ i / columns % part_size → i / columns % part_size < 2 * 2 ^ r
    → a ≡ cost_at own ranks k (i - 2 ^ r * columns) → b ≡ one_at own ranks k ((i / part_rows * part_places + r) * columns + i % columns)
    → a + b ≡ cost_at own ranks k i
unfolding cost_at one_at
cost_step own ranks k i r h g ea eb =
    let l : 2 ^ r ≤ i / columns = omega arith in
    let d = less_row i (2 ^ r) l in
    let q : (i - 2 ^ r * columns) / columns % part_size ≡ i / columns % part_size - 2 ^ r = ap (λ (x : ℕ). x % part_size) d ∙ less_part (i / columns) (2 ^ r) h in
    let s : (i - 2 ^ r * columns) / part_rows ≡ i / part_rows
    = by_parts (i - 2 ^ r * columns) ∙ ap (λ (x : ℕ). x / part_size) d ∙ less_above (i / columns) (2 ^ r) h ∙ sym (by_parts i) in
    let f = less_place i (2 ^ r) l in
    let p : ((i / part_rows * part_places + r) * columns + i % columns) / columns ≡ i / part_rows * part_places + r = omega arith in
    let w : ((i / part_rows * part_places + r) * columns + i % columns) % columns ≡ i % columns = omega arith in
    ap₂ ◌+◌ (ea ∙ ap₂ (λ (x m : ℕ). combined_of own ranks (x * 2 ^ ((i - 2 ^ r * columns) / part_rows * part_places)) m k) q f
    ∙ ap (λ (x : ℕ). combined_of own ranks ((i / columns % part_size - 2 ^ r) * 2 ^ (x * part_places)) (i % columns) k) s)
    (eb ∙ ap₂ (λ (x m : ℕ). combined_of own ranks (2 ^ x) m k) p w)
    ∙ combined_part (i / part_rows * part_places) r (i / columns % part_size) h g own ranks (i % columns) k

year_step : (ranks starts : List ℕ) (k i r : ℕ) {a b : ℕ} → 2 ^ r ≤ i % part_size → i % part_size < 2 * 2 ^ r
    → a ≡ year_at ranks starts k (i - 2 ^ r) → b ≡ one_year_at ranks starts k (i / part_size * part_places + r) → bit_or a b ≡ year_at ranks starts k i
unfolding year_at one_year_at
year_step ranks starts k i r h g ea eb =
    let q : (i - 2 ^ r) % part_size ≡ i % part_size - 2 ^ r = omega arith in
    let s : (i - 2 ^ r) / part_size ≡ i / part_size = omega arith in
    touched_part (i / part_size * part_places) r (i % part_size) h g ranks starts k
    (ea ∙ ap₂ (λ (x d : ℕ). touched_of ranks starts (x * 2 ^ (d * part_places)) k) q s) eb

-- ---- the tables, place by place: the number 0 of a part has nothing, any other is without its highest place an earlier one
module _ (own ranks : List ℕ) (k : ℕ) where
  cost_none : (i : ℕ) → i / columns % part_size ≡ 0 → cost_at own ranks k i ≡ 0
  unfolding cost_at
  cost_none i e =
      ap (λ (x : ℕ). combined_of own ranks x (i % columns) k) (ap (λ (x : ℕ). x * 2 ^ (i / part_rows * part_places)) e ∙ none)
      ∙ combined_none own ranks (i % columns) k
    where
      none : 0 * 2 ^ (i / part_rows * part_places) ≡ 0
      none = omega arith

  pub cost_stays : (i : ℕ) {out : List ℕ} → out ≡ fill no_costs (cost_at own ranks k) i → i < parts * part_rows → i / columns % part_size ≤ 0
      → out ≡ fill no_costs (cost_at own ranks k) (i + 1)
  cost_stays i e h g = fill_stays no_costs (cost_at own ranks k) i 0 e (size i h) (cost_none i (omega arith) ∙ sym (blank i))
    where
      size : (i : ℕ) → i < parts * part_rows → i < length no_costs
      size i h = unfold no_costs in omega arith

      blank : (i : ℕ) → get_or no_costs i 0 ≡ 0
      blank i = unfold no_costs in zeros (parts * part_rows) i

  pub cost_next : (i r : ℕ) {out one : List ℕ} {p : ℕ} → out ≡ fill no_costs (cost_at own ranks k) i → one ≡ ones_of own ranks k
      → i < parts * part_rows → r < part_places → 2 ^ r ≤ i / columns % part_size → i / columns % part_size < 2 * 2 ^ r → p ≡ 2 ^ r
      → get_or out (i - p * columns) 0 + get_or one ((i / part_rows * part_places + r) * columns + i % columns) 0 ≡ cost_at own ranks k i
  cost_next i r eo e1 hi hr h g ep = rw ep (cost_step own ranks k i r h g
      (ap (λ (l : List ℕ). get_or l (i - 2 ^ r * columns) 0) eo
      ∙ fill_at no_costs (cost_at own ranks k) i (i - 2 ^ r * columns) 0 (room i hi) (omega (arith, pow_pos r)))
      (ap (λ (l : List ℕ). get_or l ((i / part_rows * part_places + r) * columns + i % columns) 0) e1
      ∙ fill_at no_own (one_at own ranks k) (widest_tie * columns) ((i / part_rows * part_places + r) * columns + i % columns) 0 ones_room (omega arith)))
    where
      room : (i : ℕ) → i < parts * part_rows → i ≤ length no_costs
      room i h = unfold no_costs in omega arith

      ones_room : widest_tie * columns ≤ length no_own
      ones_room = unfold no_own in omega arith

  -- past the places that the bids have all is as it was
  module _ (low : (j : ℕ) → j < k → get_or ranks j 0 < k) where
    pub ones_end : {out : List ℕ} {n : ℕ} → out ≡ fill no_own (one_at own ranks k) n → n ≤ k * columns → k * columns ≤ n → k ≤ widest_tie
        → out ≡ ones_of own ranks k
    unfolding no_own one_at
    ones_end {n = n} e h g few = fill_rests no_own (one_at own ranks k) n (widest_tie * columns) 0 e (omega arith) (omega arith)
        (λ i a b. ap (λ (x : ℕ). combined_of own ranks x (i % columns) k) (once (i / columns))
        ∙ combined_past own ranks 1 (i / columns) (i % columns) k (λ j q. omega (arith, low j q)) ∙ sym (zeros (widest_tie * columns) i))

    pub costs_end : {out : List ℕ} {n p : ℕ} → out ≡ fill no_costs (cost_at own ranks k) n → n ≤ p * part_rows → p * part_rows ≤ n
        → k ≤ p * part_places → p ≤ parts → out ≡ costs_of own ranks k
    unfolding no_costs cost_at
    costs_end {n = n} e h g q few = fill_rests no_costs (cost_at own ranks k) n (parts * part_rows) 0 e (omega arith) (omega arith)
        (λ i a b. combined_past own ranks (i / columns % part_size) (i / part_rows * part_places) (i % columns) k (λ j l. omega (arith, low j l))
        ∙ sym (zeros (parts * part_rows) i))

  pub cost_le : (i : ℕ) → k ≤ widest_tie → Bounded own dearest → cost_at own ranks k i ≤ dearest * widest_tie
  unfolding cost_at
  cost_le i h B = omega (arith, h, combined_le own ranks (i / columns % part_size * 2 ^ (i / part_rows * part_places)) (i % columns) k B.small)

module _ (ranks starts : List ℕ) (k : ℕ) where
  year_none : (i : ℕ) → i % part_size ≡ 0 → year_at ranks starts k i ≡ 0
  unfolding year_at
  year_none i e = ap (λ (x : ℕ). touched_of ranks starts x k) (ap (λ (x : ℕ). x * 2 ^ (i / part_size * part_places)) e ∙ none) ∙ touched_none ranks starts k
    where
      none : 0 * 2 ^ (i / part_size * part_places) ≡ 0
      none = omega arith

  pub year_stays : (i : ℕ) {out : List ℕ} → out ≡ fill no_years (year_at ranks starts k) i → i < parts * part_size → i % part_size ≤ 0
      → out ≡ fill no_years (year_at ranks starts k) (i + 1)
  year_stays i e h g = fill_stays no_years (year_at ranks starts k) i 0 e (size i h) (year_none i (omega arith) ∙ sym (blank i))
    where
      size : (i : ℕ) → i < parts * part_size → i < length no_years
      size i h = unfold no_years in omega arith

      blank : (i : ℕ) → get_or no_years i 0 ≡ 0
      blank i = unfold no_years in zeros (parts * part_size) i

  pub year_next : (i r : ℕ) {out one : List ℕ} {p : ℕ} → out ≡ fill no_years (year_at ranks starts k) i → one ≡ one_years_of ranks starts k
      → i < parts * part_size → r < part_places → 2 ^ r ≤ i % part_size → i % part_size < 2 * 2 ^ r → p ≡ 2 ^ r
      → bit_or (get_or out (i - p) 0) (get_or one (i / part_size * part_places + r) 0) ≡ year_at ranks starts k i
  year_next i r eo e1 hv hr h g ep = rw ep (year_step ranks starts k i r h g
      (ap (λ (l : List ℕ). get_or l (i - 2 ^ r) 0) eo ∙ fill_at no_years (year_at ranks starts k) i (i - 2 ^ r) 0 (room i hv) (omega (arith, pow_pos r)))
      (ap (λ (l : List ℕ). get_or l (i / part_size * part_places + r) 0) e1
      ∙ fill_at no_list (one_year_at ranks starts k) widest_tie (i / part_size * part_places + r) 0 ones_room (omega arith)))
    where
      room : (v : ℕ) → v < parts * part_size → v ≤ length no_years
      room v h = unfold no_years in omega arith

      ones_room : widest_tie ≤ length no_list
      ones_room = unfold no_list in omega arith

  module _ (low : (j : ℕ) → j < k → get_or ranks j 0 < k) where
    pub one_years_end : {out : List ℕ} {n : ℕ} → out ≡ fill no_list (one_year_at ranks starts k) n → n ≤ k → k ≤ n → k ≤ widest_tie
        → out ≡ one_years_of ranks starts k
    unfolding no_list one_year_at
    one_years_end {n = n} e h g few = fill_rests no_list (one_year_at ranks starts k) n widest_tie 0 e (omega arith) (omega arith)
        (λ i a b. ap (λ (x : ℕ). touched_of ranks starts x k) (once i)
        ∙ touched_past ranks starts 1 i k (λ j q. omega (arith, low j q)) ∙ sym (zeros widest_tie i))

    pub years_end : {out : List ℕ} {n p : ℕ} → out ≡ fill no_years (year_at ranks starts k) n → n ≤ p * part_size → p * part_size ≤ n
        → k ≤ p * part_places → p ≤ parts → out ≡ years_of ranks starts k
    unfolding no_years year_at
    years_end {n = n} e h g q few = fill_rests no_years (year_at ranks starts k) n (parts * part_size) 0 e (omega arith) (omega arith)
        (λ i a b. touched_past ranks starts (i % part_size) (i / part_size * part_places) k (λ j l. omega (arith, low j l)) ∙ sym (zeros (parts * part_size) i))

-- ---- the years of a combination
pub union_low : (low second third high : ℕ) → low < year_sets → second < year_sets → third < year_sets → high < year_sets
    → bit_or low (bit_or second (bit_or third high)) < year_sets
union_low low second third high hl hs ht hh =
    or_lt most_deliveries low (bit_or second (bit_or third high)) hl
    (or_lt most_deliveries second (bit_or third high) hs (or_lt most_deliveries third high ht hh))

pub union_is : (table : List ℕ) (mask : ℕ) {low second third high : ℕ} → low ≡ part_years table 0 (mask % part_size)
    → second ≡ part_years table 1 (mask / part_size % part_size) → third ≡ part_years table 2 (mask / two_parts % part_size)
    → high ≡ part_years table 3 (mask / three_parts) → bit_or low (bit_or second (bit_or third high)) ≡ union_of table mask
unfolding union_of
union_is table mask el es et eh = rw (el, es, et, eh)

-- the number of a combination by its parts: each, and the multiple that those above it make
module _ (m : ℕ) where
  first_part : m ≡ m % part_size * 1 + part_size * (m / part_size)
  first_part = omega arith

  second_part : part_size * (m / part_size) ≡ m / part_size % part_size * part_size + two_parts * (m / two_parts)
  second_part = omega arith

  third_part : two_parts * (m / two_parts) ≡ m / two_parts % part_size * two_parts + three_parts * (m / three_parts)
  third_part = omega arith

  high_part : three_parts * (m / three_parts) ≡ m / three_parts * three_parts
  high_part = omega arith

-- the tables of the k bids
module _ (own ranks : List ℕ) (k : ℕ) where
  cost_at_lem : (s v c i : ℕ) {costs : List ℕ} → costs ≡ costs_of own ranks k → i ≡ s * part_rows + v * columns + c → s < parts → v < part_size → c < columns
      → get_or costs i 0 ≡ combined_of own ranks (v * 2 ^ (s * part_places)) c k
  unfolding no_costs cost_at
  cost_at_lem s v c i e ei l h g =
      let q : (s * part_rows + v * columns + c) / columns % part_size ≡ v = omega arith in
      let p : (s * part_rows + v * columns + c) / part_rows ≡ s = omega arith in
      let m : (s * part_rows + v * columns + c) % columns ≡ c = omega arith in
      ap₂ (λ (x : List ℕ) (j : ℕ). get_or x j 0) e ei
      ∙ fill_at no_costs (cost_at own ranks k) (parts * part_rows) (s * part_rows + v * columns + c) 0 (omega arith) (omega arith)
      ∙ ap₂ (λ (x w : ℕ). combined_of own ranks (x * 2 ^ ((s * part_rows + v * columns + c) / part_rows * part_places)) w k) q m
      ∙ ap (λ (x : ℕ). combined_of own ranks (v * 2 ^ (x * part_places)) c k) p

  whole : (mask c : ℕ) → combined_of own ranks (mask % part_size * 1) c k + combined_of own ranks (mask / part_size % part_size * part_size) c k
      + combined_of own ranks (mask / two_parts % part_size * two_parts) c k + combined_of own ranks (mask / three_parts * three_parts) c k
      ≡ combined_of own ranks mask c k
  whole mask c = omega (arith, first, second, third)
    where
      sum : ℕ → ℕ
      sum m = combined_of own ranks m c k

      first : sum mask ≡ sum (mask % part_size * 1) + sum (part_size * (mask / part_size))
      first = ap sum (first_part mask) ∙ combined_join own ranks c part_places (mask % part_size * 1) (mask / part_size) k (omega arith)

      second : sum (part_size * (mask / part_size)) ≡ sum (mask / part_size % part_size * part_size) + sum (two_parts * (mask / two_parts))
      second =
          ap sum (second_part mask)
          ∙ combined_join own ranks c (2 * part_places) (mask / part_size % part_size * part_size) (mask / two_parts) k (omega arith)

      third : sum (two_parts * (mask / two_parts)) ≡ sum (mask / two_parts % part_size * two_parts) + sum (mask / three_parts * three_parts)
      third =
          ap sum (third_part mask)
          ∙ combined_join own ranks c (3 * part_places) (mask / two_parts % part_size * two_parts) (mask / three_parts) k (omega arith)
          ∙ ap (λ (x : ℕ). sum (mask / two_parts % part_size * two_parts) + sum x) (high_part mask)

  costs_small : k ≤ widest_tie → Bounded own dearest → (i : ℕ) → get_or (costs_of own ranks k) i 0 ≤ dearest * widest_tie
  unfolding no_costs
  costs_small h O i =
      fill_le no_costs (cost_at own ranks k) (dearest * widest_tie) (parts * part_rows) i (omega arith) (λ j g. cost_le own ranks k j h O)
      (λ j. rw (zeros (parts * part_rows) j) (omega arith))

module _ (ranks starts : List ℕ) (k : ℕ) where
  year_at_lem : (s v i : ℕ) {dates : List ℕ} → dates ≡ years_of ranks starts k → i ≡ s * part_size + v → s < parts → v < part_size
      → get_or dates i 0 ≡ touched_of ranks starts (v * 2 ^ (s * part_places)) k
  unfolding no_years year_at
  year_at_lem s v i e ei l h =
      let q : (s * part_size + v) % part_size ≡ v = omega arith in
      let p : (s * part_size + v) / part_size ≡ s = omega arith in
      ap₂ (λ (x : List ℕ) (j : ℕ). get_or x j 0) e ei
      ∙ fill_at no_years (year_at ranks starts k) (parts * part_size) (s * part_size + v) 0 (omega arith) (omega arith)
      ∙ ap₂ (λ (x w : ℕ). touched_of ranks starts (x * 2 ^ (w * part_places)) k) q p

  dates_small : ((j : ℕ) → j < k → get_or starts j 0 < 4) → (v : ℕ) → get_or (years_of ranks starts k) v 0 ≤ 15
  unfolding no_years
  dates_small Q v =
      fill_le no_years (year_at ranks starts k) 15 (parts * part_size) v (omega arith) (λ j g. low j) (λ j. rw (zeros (parts * part_size) j) (omega arith))
    where
      low : (j : ℕ) → year_at ranks starts k j ≤ 15
      low j = unfold year_at in let h = touched_low ranks starts (j % part_size * 2 ^ (j / part_size * part_places)) k Q in omega arith

  abbrev years : ℕ → ℕ
  years m = touched_of ranks starts m k

  touched_whole : (mask : ℕ)
      → bit_or (years (mask % part_size * 1))
      (bit_or (years (mask / part_size % part_size * part_size)) (bit_or (years (mask / two_parts % part_size * two_parts)) (years (mask / three_parts * three_parts))))
      ≡ years mask
  touched_whole mask = sym (first ∙ ap (bit_or (years (mask % part_size * 1))) (second ∙ ap (bit_or (years (mask / part_size % part_size * part_size))) third))
    where
      first : years mask ≡ bit_or (years (mask % part_size * 1)) (years (part_size * (mask / part_size)))
      first = ap years (first_part mask) ∙ touched_join ranks starts part_places (mask % part_size * 1) (mask / part_size) k (omega arith)

      second : years (part_size * (mask / part_size)) ≡ bit_or (years (mask / part_size % part_size * part_size)) (years (two_parts * (mask / two_parts)))
      second =
          ap years (second_part mask)
          ∙ touched_join ranks starts (2 * part_places) (mask / part_size % part_size * part_size) (mask / two_parts) k (omega arith)

      third : years (two_parts * (mask / two_parts)) ≡ bit_or (years (mask / two_parts % part_size * two_parts)) (years (mask / three_parts * three_parts))
      third =
          ap years (third_part mask)
          ∙ touched_join ranks starts (3 * part_places) (mask / two_parts % part_size * two_parts) (mask / three_parts) k (omega arith)
          ∙ ap (λ (x : ℕ). bit_or (years (mask / two_parts % part_size * two_parts)) (years x)) (high_part mask)

-- ---- the one table of them
module _ (base own ranks starts : List ℕ) (k : ℕ) where
  abbrev table : List ℕ
  table = table_by base own ranks starts k

  abbrev at : ℕ → ℕ
  at = table_at base (costs_of own ranks k) (years_of ranks starts k)

  table_at_lem : (i : ℕ) → i < table_length → get_or table i 0 ≡ at i
  unfolding table_by no_table
  table_at_lem i h = fill_at no_table at table_length i 0 (omega arith) h

  base_at_lem : (i : ℕ) → i < costs_at → get_or table i 0 ≡ get_or base i 0
  base_at_lem i h = table_at_lem i (omega arith) ∙ sym (base_part base (costs_of own ranks k) (years_of ranks starts k) i h)

  -- the number v of part s
  pub sum_at : (s v c : ℕ) → s < parts → v < part_size → c < columns → part_cost table s v c ≡ combined_of own ranks (v * 2 ^ (s * part_places)) c k
  sum_at s v c l h g =
      let i = costs_at + s * part_rows + v * columns + c in
      table_at_lem i (omega arith) ∙ sym (costs_part base (costs_of own ranks k) (years_of ranks starts k) i (omega arith) (omega arith))
      ∙ cost_at_lem own ranks k s v c (i - costs_at) refl (omega arith) l h g

  touched_at : (s v : ℕ) → s < parts → v < part_size → part_years table s v ≡ touched_of ranks starts (v * 2 ^ (s * part_places)) k
  touched_at s v l h =
      let i = dates_at + s * part_size + v in
      table_at_lem i (omega arith) ∙ sym (dates_part base (costs_of own ranks k) (years_of ranks starts k) i (omega arith) (omega arith))
      ∙ year_at_lem ranks starts k s v (i - dates_at) refl (omega arith) l h

  union_touched : (mask : ℕ) → mask < combinations → union_of table mask ≡ touched_of ranks starts mask k
  unfolding union_of
  union_touched mask h =
      ap₂ bit_or (touched_at 0 (mask % part_size) (omega arith) (omega arith))
      (ap₂ bit_or (touched_at 1 (mask / part_size % part_size) (omega arith) (omega arith))
      (ap₂ bit_or (touched_at 2 (mask / two_parts % part_size) (omega arith) (omega arith)) (touched_at 3 (mask / three_parts) (omega arith) (omega arith))))
      ∙ touched_whole ranks starts k mask

  module _ (Q : (j : ℕ) → j < k → get_or starts j 0 < 4) where
    -- the total of a combination, off the table
    pub joint_total : (mask c : ℕ) → mask < combinations → c < columns
        → joint_of table mask (union_of table mask) c ≡ get_or base (touched_of ranks starts mask k * columns + c) 0 + combined_of own ranks mask c k
    unfolding joint_of
    joint_total mask c h g =
        let t = touched_of ranks starts mask k in
        let low : t < year_sets = touched_low ranks starts mask k Q in
        let b : get_or table (union_of table mask * columns + c) 0 ≡ get_or base (t * columns + c) 0
        = ap (λ (x : ℕ). get_or table (x * columns + c) 0) (union_touched mask h) ∙ base_at_lem (t * columns + c) (omega arith) in
        omega (
          arith,
          b,
          sum_at 0 (mask % part_size) c (omega arith) (omega arith) g,
          sum_at 1 (mask / part_size % part_size) c (omega arith) (omega arith) g,
          sum_at 2 (mask / two_parts % part_size) c (omega arith) (omega arith) g,
          sum_at 3 (mask / three_parts) c (omega arith) (omega arith) g,
          whole own ranks k mask c,
        )

    pub tabled : {r : List ℕ} → k ≤ widest_tie → Bounded base most_base → Bounded own dearest → r ≡ table → Tabled r
    unfolding table_by table_at no_table
    tabled h B O e = rw e (record {
      small = record {
        small = λ i. fill_le no_table at most_base table_length i (omega arith)
            (λ j g. pick_all (λ x. x ≤ most_base) (ltb j costs_at) _ _ (λ t. B.small j)
            (λ t. pick_all (λ x. x ≤ most_base) (ltb j dates_at) _ _ (λ u. omega (arith, costs_small own ranks k h O (j - costs_at)))
            (λ u. omega (arith, dates_small ranks starts k Q (j - dates_at)))))
            (λ j. rw (zeros table_length j) (omega arith));
      };
      years = λ i g.
          rw (
            fill_each no_table at at table_length 0 (omega arith) (zeros table_length) (λ j l. refl) i,
            le-ltb i costs_at (omega arith),
            le-ltb i dates_at g,
          )
          (pick_all (λ x. x < year_sets) (ltb i table_length) _ _ (λ t. omega (arith, dates_small ranks starts k Q (i - dates_at))) (λ t. omega arith));
    })
