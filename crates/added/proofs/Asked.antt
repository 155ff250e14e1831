-- Whether a bid can be added to a combination, by what is left in a column. Assumes nothing.
use Prim.Native.Nat.{ℕ, ◌+◌, ◌-◌, ◌/◌, ◌%◌, ◌^◌, ◌≤◌, ◌<◌}
use mathlib.Core.Path.{◌≡◌, refl, sym, ap, ◌∙◌}
use mathlib.Core.Bool.{Bool, true, false}
use mathlib.Core.List.{List}
use native.Mathlib.Omega.{arith}
use lib.Pow.{pow-lt}
use Rattle.std.specs.Prelude.{None, Some}
use Rattle.rules.specs.Names.{widest_tie}
use Rattle.rules.specs.Pot.{has}
use Rattle.laws_pot.specs.Lists.{case}
use Rattle.sheet.specs.declared.Size.{Size}
use Rattle.sheet.specs.Sheet.{columns, limit_at}
use Rattle.combinations.specs.Combinations.{part_places, part_size, part_cost, joint_of, union_of}
use Rattle.ties.specs.Ties.{ok_by, addable_of}
use Rattle.ties.proofs.Laws.{addable_in, addable_out, fits_stops}
use Rattle.added.specs.declared.whole.Narrow.{Narrow}
use Rattle.added.specs.declared.whole.Room.{Room}
use Rattle.added.specs.Added.{alone_by, left_by, Adds, Known, Narrows, Roomed, Bars, Asks}

pub alone_part : (table : List ℕ) (place c : ℕ) {v r : ℕ} → v ≡ 2 ^ (place % part_places) → r ≡ part_cost table (place / part_places) v c → r ≡ alone_by table place c
unfolding alone_by
alone_part table place c ev er = rw (er, ev)

pub part_low : (i : ℕ) {v : ℕ} → i < part_places → v ≡ 2 ^ i → v < part_size
part_low i h e = let l : 2 ^ i < 32 = pow-lt h in omega (arith, e, l)

-- ---- what is left
module _ (sheet table : List ℕ) (m t c : ℕ) {x q : ℕ} (ex : x ≡ joint_of table m t c) (eq : q ≡ limit_at sheet c) where
  pub left_is : q - x ≡ left_by sheet table m t c
  unfolding left_by
  left_is = rw (ex, eq)

-- ---- whether a bid can be added
module _ (sheet : List ℕ) (of : Size) (table : List ℕ) (m t : ℕ) (A : Adds table) (K : Known table m t) (few : of.columns ≤ columns) where
  -- what is too much in one column does not fit
  misfit : (place c : ℕ) → has m place ≡ false → place < widest_tie → c < of.columns → left_by sheet table m t c < alone_by table place c
      → addable_of (ok_by sheet of table) m place ≡ false
  misfit place c f low l h = sym (addable_out (ok_by sheet of table) m place refl f refl unfit)
    where
      over : left_by sheet table m t c < alone_by table place c → limit_at sheet c < joint_of table (m + 2 ^ place) (union_of table (m + 2 ^ place)) c
      over h = unfold left_by in
          omega (arith, h, ap (λ (x : ℕ). joint_of table m x c) K.years, A.adds m place c K.number low f (omega (arith, l, few)))

      unfit : false ≡ ok_by sheet of table (m + 2 ^ place)
      unfit = unfold ok_by in
          fits_stops (joint_of table (m + 2 ^ place) (union_of table (m + 2 ^ place))) sheet c of.columns refl refl (over h) l

  module _ (place : ℕ) {b : Bool} (eb : b ≡ has m place) {r : Room} (R : Roomed sheet of table m t r) where
    pub ask_in : b ≡ true → Asks sheet of table m t place (Some r)
    ask_in h = (R, sym (addable_in (ok_by sheet of table) m place eb h))

    pub ask_barred : b ≡ false → place < widest_tie → {own : ℕ} → own ≡ alone_by table place r.column → r.left < own → Asks sheet of table m t place (Some r)
    ask_barred h low eo l = (R, misfit place r.column (sym eb ∙ h) low R.column (omega (arith, R.is, eo, l)))

    pub ask_misfit : {p : ℕ} {f : Bool} → b ≡ false → p ≡ 2 ^ place → f ≡ ok_by sheet of table (m + p) → f ≡ false → Asks sheet of table m t place (Some r)
    ask_misfit h ep ef g = (R, sym (addable_out (ok_by sheet of table) m place eb h ep ef) ∙ g)

  module _ (place : ℕ) {b : Bool} (eb : b ≡ has m place) (h : b ≡ false) where
    pub ask_bar : {r : Room} → Bars sheet of table m t place (Some r) → place < widest_tie → Asks sheet of table m t place (Some r)
    ask_bar B low = ask_barred place eb B.0 h low refl B.1

    pub ask_fits : {p : ℕ} {f : Bool} → p ≡ 2 ^ place → f ≡ ok_by sheet of table (m + p) → f ≡ true → Asks sheet of table m t place None
    ask_fits ep ef g = sym (addable_out (ok_by sheet of table) m place eb h ep ef) ∙ g

  -- none where a column has less left than any counts
  pub none_narrow : {count x : ℕ} {n : Narrow} → count ≤ widest_tie → Narrows of table count n → x ≡ left_by sheet table m t n.column → x < n.least
      → (place : ℕ) → place < count → addable_of (ok_by sheet of table) m place ≡ false
  none_narrow {n = n} low N ex h place l =
      case (has m place)
      (λ t. sym (addable_in (ok_by sheet of table) m place refl t))
      (λ f. misfit place n.column f (omega arith) N.column (omega (arith, ex, h, N.least place l)))
