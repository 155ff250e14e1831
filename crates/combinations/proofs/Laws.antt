-- Laws of combinations over plain variables: each answers one need of a proof. Assumes nothing.
use Prim.Native.Nat.{ℕ, ◌+◌, ◌-◌, ◌*◌, ◌/◌, ◌%◌, ◌^◌, ◌≤◌, ◌<◌}
use mathlib.Core.Path.{◌≡◌, sym, ap, ap₂, ◌∙◌}
use mathlib.Core.Bool.{Bool, true, false}
use mathlib.Core.List.{List, ◌++◌}
use borrow.Author.Rules.{rules}
use borrow.Rule.Slice.PartMut.{put_mid}
use Rattle.std.proofs.lemmas.List.{same_lists, places, get_or_append_left, get_or-append_right, length-replicate}
use native.Mathlib.Numerals.{add-one}
use native.Mathlib.Omega.{arith}
use lib.ListN.{length, get_or, set, drop, length-append}
use lib.Seq.{ext_get_or}
use native.Mathlib.Decide.{dec_lt}
use lib.Dec.{ltb}
use borrow.Author.Tests.{ltb-true, ltb-false, lt-ltb, le-ltb}
use Rattle.rules.specs.Pot.{has}
use Rattle.laws_pot.specs.Lists.{case}
use Rattle.laws_pot.specs.Bits.{add_lt}
use Rattle.rules.specs.Names.{most_deliveries}
use Rattle.arrays.specs.Sets.{fill, placed, members}
use Rattle.arrays.proofs.Arrays.{fill_at, fill_length, fill_rest, placed_fill, zeros}
use Rattle.sheet.specs.declared.Size.{Size}
use Rattle.sheet.specs.Sheet.{columns, row_year, row_draw}
use Rattle.totals.specs.Totals.{worth_of, total_of, no_row, filled}
use Rattle.combinations.specs.declared.Tied.{Tied}
use Rattle.combinations.specs.Combinations.{part_size, two_parts, three_parts, repriced_to, base_at, no_base, compact_of, listed, above_of, rank_of, start_of}
use Rattle.combinations.specs.Combinations.{ranks_of, starts_of, tied_of, own_at, touch_of, touched_of, combined_of, one_at, costs_of, one_year_at, years_of}
use Rattle.combinations.specs.Combinations.{parts, part_rows, cost_at, no_costs, year_at, no_years, costs_at, dates_at, table_length, table_at, no_table, table_by, part_cost, joint_of}

-- ---- the present winners
module _ (prices : List ℕ) (p t d : ℕ) {b : Bool} {row : List ℕ} (eb : b ≡ has t d) (er : row ≡ repriced_to prices p t d) where
  pub repriced_hit : b ≡ true → set row d p ≡ repriced_to prices p t (d + 1)
  unfolding repriced_to
  repriced_hit h = rw (add-one d, er, sym eb ∙ h)

  pub repriced_miss : b ≡ false → row ≡ repriced_to prices p t (d + 1)
  unfolding repriced_to
  repriced_miss h = rw (add-one d, er, sym eb ∙ h)

-- a row of totals at the prices of the set t is that set's row of the table
row_is : (sheet : List ℕ) (of : Size) (marks prices : List ℕ) (p t c : ℕ) → of.columns ≤ columns → c < columns
    → get_or (filled (λ c. total_of sheet of marks (repriced_to prices p t 4) c of.bids) of.columns) c 0 ≡ base_at sheet of marks prices p (t * columns + c)
unfolding base_at no_row
row_is sheet of marks prices p t c h g =
    rw (q, w)
    (case (ltb c of.columns)
    (λ u. rw u (fill_at no_row f of.columns c 0 h (ltb-true c of.columns u)))
    (λ u. rw u (fill_rest no_row f of.columns c 0 (ltb-false c of.columns u) ∙ zeros columns c)))
  where
    f : ℕ → ℕ
    f c = total_of sheet of marks (repriced_to prices p t 4) c of.bids

    q : (t * columns + c) / columns ≡ t
    q = omega arith

    w : (t * columns + c) % columns ≡ c
    w = omega arith

pub bases_next : (sheet : List ℕ) (of : Size) (marks prices : List ℕ) (p t : ℕ) {trial row base r : List ℕ} → of.columns ≤ columns
    → trial ≡ repriced_to prices p t most_deliveries → row ≡ filled (λ c. total_of sheet of marks trial c of.bids) of.columns
    → base ≡ fill no_base (base_at sheet of marks prices p) (t * columns) → r ≡ placed (λ c. get_or row c 0) base (t * columns) (length row)
    → r ≡ fill no_base (base_at sheet of marks prices p) ((t + 1) * columns)
bases_next sheet of marks prices p t {trial} {row} {base} {r} h et ew eb er =
    er ∙ ap₂ (λ (l : List ℕ) (n : ℕ). placed (λ c. get_or row c 0) l (t * columns) n) eb long
    ∙ placed_fill no_base (base_at sheet of marks prices p) (λ c. get_or row c 0) (t * columns) columns
    (λ c g. ap (λ (l : List ℕ). get_or l c 0) ew' ∙ row_is sheet of marks prices p t c h g)
    ∙ ap (fill no_base (base_at sheet of marks prices p)) next
  where
    ew' : row ≡ filled (λ c. total_of sheet of marks (repriced_to prices p t 4) c of.bids) of.columns
    ew' = ew ∙ ap (λ (u : List ℕ). filled (λ c. total_of sheet of marks u c of.bids) of.columns) et

    blank : length no_row ≡ columns
    blank = unfold no_row in length-replicate {A = ℕ} columns 0

    long : length row ≡ columns
    long = ap length ew ∙ fill_length no_row (λ c. total_of sheet of marks trial c of.bids) of.columns ∙ blank

    next : t * columns + columns ≡ (t + 1) * columns
    next = omega arith

-- ---- the list
module _ (l : List Bool) (i : ℕ) {a : List ℕ} (ea : a ≡ compact_of l i) where
  pub compact_hit : {c : ℕ} → get_or l i false ≡ true → c ≡ length (members l i) → set a c i ≡ compact_of l (i + 1)
  unfolding compact_of
  compact_hit h ec = rw (add-one i, ea, ec, h)

  pub compact_miss : get_or l i false ≡ false → a ≡ compact_of l (i + 1)
  unfolding compact_of
  compact_miss h = rw (add-one i, ea, h)

module _ (sheet list : List ℕ) (x j : ℕ) {n d : ℕ} (en : n ≡ above_of sheet list x j) (ed : d ≡ row_draw sheet (get_or list j 0)) where
  pub above_hit : x < d → n + 1 ≡ above_of sheet list x (j + 1)
  unfolding above_of listed
  above_hit h = rw (add-one j, ← ed, lt-ltb x d h, en) (add-one _)

  pub above_miss : d ≤ x → n ≡ above_of sheet list x (j + 1)
  unfolding above_of listed
  above_miss h = rw (add-one j, ← ed, le-ltb x d h, en)

pub rank_is : (sheet list : List ℕ) (k j : ℕ) {x r : ℕ} → x ≡ row_draw sheet (get_or list j 0) → r ≡ above_of sheet list x k → r ≡ rank_of sheet list k j
unfolding rank_of
rank_is sheet list k j ex er = rw (er, ex)

pub start_is : (sheet list : List ℕ) (j : ℕ) {r : ℕ} → r ≡ row_year sheet (get_or list j 0) → r ≡ start_of sheet list j
unfolding start_of
start_is sheet list j er = er

module _ (sheet : List ℕ) (of : Size) (list : List ℕ) (p i : ℕ) where
  pub own_in : {r : ℕ} → i % columns < of.columns → r ≡ worth_of sheet of (get_or list (i / columns) 0) p (i % columns) → r ≡ own_at sheet of list p i
  unfolding own_at
  own_in h e = rw (e, lt-ltb (i % columns) of.columns h)

  pub own_out : of.columns ≤ i % columns → 0 ≡ own_at sheet of list p i
  unfolding own_at
  own_out h = rw (le-ltb (i % columns) of.columns h)

-- ---- combinations
module _ (t d : ℕ) {b : Bool} (eb : b ≡ has t d) where
  pub touch_old : b ≡ true → t ≡ touch_of t d
  unfolding touch_of
  touch_old h = rw (sym eb ∙ h)

  pub touch_new : {w : ℕ} → b ≡ false → w ≡ 2 ^ d → t + w ≡ touch_of t d
  unfolding touch_of
  touch_new h ew = rw (sym eb ∙ h, ew)

  pub touch_low : {w : ℕ} → b ≡ false → w ≡ 2 ^ d → t < 16 → d < 4 → t + w < 16
  touch_low h ew ht hd = rw ew (add_lt t d 4 (sym eb ∙ h) hd ht)

module _ (ranks : List ℕ) (mask j : ℕ) {b : Bool} (eb : b ≡ has mask (get_or ranks j 0)) where
  module _ (starts : List ℕ) {t : ℕ} (et : t ≡ touched_of ranks starts mask j) where
    pub touched_hit : {r : ℕ} → b ≡ true → r ≡ touch_of t (get_or starts j 0) → r ≡ touched_of ranks starts mask (j + 1)
    unfolding touched_of
    touched_hit h er = rw (add-one j, sym eb ∙ h, er, et)

    pub touched_miss : b ≡ false → t ≡ touched_of ranks starts mask (j + 1)
    unfolding touched_of
    touched_miss h = rw (add-one j, sym eb ∙ h, et)

  module _ (own : List ℕ) (c : ℕ) {s : ℕ} (es : s ≡ combined_of own ranks mask c j) where
    pub combined_hit : b ≡ true → s + get_or own (j * columns + c) 0 ≡ combined_of own ranks mask c (j + 1)
    unfolding combined_of
    combined_hit h = rw (add-one j, sym eb ∙ h, es)

    pub combined_miss : b ≡ false → s ≡ combined_of own ranks mask c (j + 1)
    unfolding combined_of
    combined_miss h = rw (add-one j, sym eb ∙ h, es) (omega arith)

-- ---- the tables
pub one_is : (own ranks : List ℕ) (k i : ℕ) {w r : ℕ} → w ≡ 2 ^ (i / columns) → r ≡ combined_of own ranks w (i % columns) k → r ≡ one_at own ranks k i
unfolding one_at
one_is own ranks k i ew er = rw (er, ew)

pub one_year_is : (ranks starts : List ℕ) (k i : ℕ) {w r : ℕ} → w ≡ 2 ^ i → r ≡ touched_of ranks starts w k → r ≡ one_year_at ranks starts k i
unfolding one_year_at
one_year_is ranks starts k i ew er = rw (er, ew)

pub base_part : (base costs dates : List ℕ) (i : ℕ) → i < costs_at → get_or base i 0 ≡ table_at base costs dates i
unfolding table_at
base_part base costs dates i h = rw (lt-ltb i costs_at h)

pub costs_part : (base costs dates : List ℕ) (i : ℕ) → costs_at ≤ i → i < dates_at → get_or costs (i - costs_at) 0 ≡ table_at base costs dates i
unfolding table_at
costs_part base costs dates i h g = rw (le-ltb i costs_at h, lt-ltb i dates_at g)

pub dates_part : (base costs dates : List ℕ) (i : ℕ) → costs_at ≤ i → dates_at ≤ i → get_or dates (i - dates_at) 0 ≡ table_at base costs dates i
unfolding table_at
dates_part base costs dates i h g = rw (le-ltb i costs_at h, le-ltb i dates_at g)

-- the three parts of the table, written one after the other over what is as long as they are
module _ (old base costs : List ℕ) (a b n : ℕ) (eo : length old ≡ n) (eb : length base ≡ a) (ec : length costs ≡ b - a) (h : a ≤ b) (g : b ≤ n) where
  room : length (put_mid a (b - a) (base ++ drop a old) costs) ≡ n
  room = search (rules, places)

  written : (dates : List ℕ) → length dates ≡ n - b → put_mid b (n - b) (put_mid a (b - a) (base ++ drop a old) costs) dates ≡ base ++ (costs ++ dates)
  written dates ed = same_lists _ _ (search (rules, places)) (λ k d l. grind (arith, places))

costs_long : (own ranks : List ℕ) (k : ℕ) → length (costs_of own ranks k) ≡ parts * part_rows
unfolding no_costs
costs_long own ranks k = fill_length no_costs (cost_at own ranks k) (parts * part_rows) ∙ length-replicate {A = ℕ} (parts * part_rows) 0

years_long : (ranks starts : List ℕ) (k : ℕ) → length (years_of ranks starts k) ≡ parts * part_size
unfolding no_years
years_long ranks starts k = fill_length no_years (year_at ranks starts k) (parts * part_size) ∙ length-replicate {A = ℕ} (parts * part_size) 0

parts_at : (base costs dates : List ℕ) (i : ℕ) → length base ≡ costs_at → length costs ≡ parts * part_rows
    → get_or (base ++ (costs ++ dates)) i 0 ≡ table_at base costs dates i
parts_at base costs dates i eb ec =
    elim (dec_lt i costs_at) [
      | yes h ↦ get_or_append_left base (costs ++ dates) 0 i (omega arith) ∙ base_part base costs dates i h
      | no z ↦
          let g : costs_at ≤ i = omega (arith, z) in
          get_or-append_right base (costs ++ dates) costs_at i 0 eb g
          ∙ elim (dec_lt i dates_at) [
            | yes h ↦ get_or_append_left costs dates 0 (i - costs_at) (omega arith) ∙ costs_part base costs dates i g h
            | no y ↦
                let h : dates_at ≤ i = omega (arith, y) in
                let e : i - costs_at - parts * part_rows ≡ i - dates_at = omega arith in
                get_or-append_right costs dates (parts * part_rows) (i - costs_at) 0 ec (omega arith)
                ∙ ap (λ (x : ℕ). get_or dates x 0) e ∙ dates_part base costs dates i g h
          ]
    ]

module _ (base own ranks starts : List ℕ) (k : ℕ) (eb : length base ≡ costs_at) {costs dates first second : List ℕ} (ec : costs ≡ costs_of own ranks k)
    (ed : dates ≡ years_of ranks starts k) (e1 : first ≡ base) (e2 : second ≡ costs) where
  pub table_room : (old : List ℕ) → length old ≡ table_length → table_length ≤ length (put_mid costs_at (dates_at - costs_at) (first ++ drop costs_at old) second)
  table_room old eo = rw (e1, e2, ec) (omega (
    arith,
    room old base (costs_of own ranks k) costs_at dates_at table_length eo eb (costs_long own ranks k)
        (omega arith) (omega arith),
  ))

  pub table_laid : (old : List ℕ) {third : List ℕ} → length old ≡ table_length → third ≡ dates
      → put_mid dates_at (table_length - dates_at) (put_mid costs_at (dates_at - costs_at) (first ++ drop costs_at old) second) third
      ≡ table_by base own ranks starts k
  unfolding table_by no_table
  table_laid old eo e3 =
      let cs = costs_of own ranks k in
      let ds = years_of ranks starts k in
      let at = table_at base cs ds in
      let long : length (base ++ (cs ++ ds)) ≡ table_length =
      omega (arith, length-append base (cs ++ ds), length-append cs ds, costs_long own ranks k, years_long ranks starts k) in
      rw (e1, e2, e3, ec, ed) (
      written old base cs costs_at dates_at table_length eo eb (costs_long own ranks k) (omega arith) (omega arith) ds (years_long ranks starts k)
      ∙ ext_get_or 0 (base ++ (cs ++ ds)) (fill no_table at table_length) (omega (arith, long, fill_length no_table at table_length))
      (λ i l. parts_at base cs ds i eb (costs_long own ranks k) ∙ sym (fill_at no_table at table_length i 0 (omega arith) (omega (arith, long)))))

pub joint_is : (table : List ℕ) (mask t c : ℕ) {low second third high : ℕ} → low ≡ part_cost table 0 (mask % part_size) c
    → second ≡ part_cost table 1 (mask / part_size % part_size) c → third ≡ part_cost table 2 (mask / two_parts % part_size) c
    → high ≡ part_cost table 3 (mask / three_parts) c → get_or table (t * columns + c) 0 + low + second + third + high ≡ joint_of table mask t c
unfolding joint_of
joint_is table mask t c el es et eh = rw (el, es, et, eh)

-- ---- what is gathered
pub tied_is : (sheet : List ℕ) (of : Size) (l : List Bool) (k : ℕ) {list ranks starts : List ℕ} → list ≡ compact_of l of.bids → ranks ≡ ranks_of sheet list k
    → starts ≡ starts_of sheet list k → ◌≡◌ {A = Tied} (record { count = k; bids = list; ranks = ranks; starts = starts }) (tied_of sheet of l k)
unfolding tied_of
tied_is sheet of l k el er es = rw (es, er, el)
