-- The best with the larger numbers first: what is found is the best of all. Assumes nothing.
use Prim.Native.Nat.{ℕ, zero, suc, ◌+◌, ◌-◌, ◌*◌, ◌/◌, ◌%◌, ◌^◌, ◌≤◌, ◌<◌}
use mathlib.Core.Path.{◌≡◌, refl, sym, ap, ◌∙◌}
use mathlib.Core.Bool.{Bool, true, false, ◌&&◌}
use mathlib.Core.Logic.{inl, inr, ⊎_elim}
use mathlib.Core.List.{List}
use native.Mathlib.Omega.{arith}
use lib.Dec.{eqb, leb}
use borrow.Author.Tests.{eqb-true, eqb-false, lt-leb, le-leb, leb-true, leb-false}
use Rattle.std.specs.Prelude.{⊤, Option, None, Some}
use Rattle.std.specs.Option.{unwrap_or, option_or}
use Rattle.rules.specs.Pot.{best}
use Rattle.laws_pot.specs.Lists.{case, clash, and_true, and_false, and_none}
use Rattle.laws_pot.specs.Bits.{has_none}
use Rattle.laws_pot.specs.Tie.{Best, best_is}
use Rattle.sheet.specs.declared.Size.{Size}
use Rattle.sheet.specs.Sheet.{columns, limit_at, Ready}
use Rattle.totals.specs.Totals.{fits_to}
use Rattle.combinations.specs.Combinations.{combinations, part_size, two_parts, three_parts, part_rows, costs_at, most_base, joint_of, union_of, Tabled}
use Rattle.ties.specs.declared.best.Best as declared
use Rattle.ties.specs.Ties.{best_of, ok_by, last_by, Cuttable}
use Rattle.ties.proofs.Laws.{fits_at_lem}
use Rattle.branches.specs.Branches.{Short, Fallen, goal_of, met_of}

module _ (ok : ℕ → Bool) (tot : ℕ → ℕ) where
  -- ---- a look at one more
  module _ (n goal : ℕ) {w : ℕ} (ew : w ≡ tot n) where
    pub met_less : w < goal → None ≡ met_of ok tot goal n
    unfolding met_of
    met_less q = rw (← ew, lt-leb goal w q, and_none (ok n))

    module _ {f : Bool} (ef : f ≡ ok n) where
      pub met_not : f ≡ false → None ≡ met_of ok tot goal n
      unfolding met_of
      met_not h = rw (← ef, h)

      pub met_more : f ≡ true → goal ≤ w → Some (record { mask = n; total = w }) ≡ met_of ok tot goal n
      unfolding met_of
      met_more h q = rw (← ef, h, ← ew, le-leb goal w q)

  -- ---- what has been found among the numbers below n: that it is the best of those from its number on
  abbrev pub Held : (n : ℕ) → Option declared.Best → Type 0
  Held n None = ⊤
  Held n (Some b) = (ok b.mask ≡ true) × (b.mask < n) × (b.total ≡ tot b.mask) × ((m : ℕ) → b.mask < m → m < n → ok m ≡ true → tot m < tot b.mask)

  -- and among those from lo on
  pub record Sought (lo n : ℕ) (g : Option declared.Best) : Type 0 where
    pub under : (m : ℕ) → lo ≤ m → m < n → ok m ≡ true → tot m < goal_of g
    pub is : Held n g

  pub sought_none : (n : ℕ) → Sought n n None
  sought_none n = record { under = λ m a b o. absurd (omega arith); is = tt {0} }

  pub sought_at : (n : ℕ) {lo lo' : ℕ} (g : Option declared.Best) → lo ≡ lo' → Sought lo n g → Sought lo' n g
  sought_at n g e F = rw e at F

  pub sought_next : (c n : ℕ) (g r : Option declared.Best) {goal : ℕ} → c < n → Sought (c + 1) n g → goal ≡ goal_of g → r ≡ met_of ok tot goal c
      → Sought c n (option_or r g)
  unfolding met_of
  sought_next c n g r l F eg er =
      rw (er, eg) (case (ok c && leb (goal_of g) (tot c))
      (λ t.
      let a = and_true (ok c) (leb (goal_of g) (tot c)) t in
      let le = leb-true (goal_of g) (tot c) a.1 in
      rw t (record {
        under = λ m h k o. case (eqb m c) (λ e. rw (eqb-true m c e) (omega arith))
            (λ e. let d = eqb-false m c e in let z = F.under m (omega arith) k o in omega arith);
        is = (a.0, l, refl, λ m h k o. let z = F.under m (omega arith) k o in omega arith);
      }))
      (λ f. rw f (record {
        under = λ m h k o. case (eqb m c)
            (λ e. let q = eqb-true m c e in
            ⊎_elim (λ v. clash (ap ok (sym q) ∙ o) v) (λ v. let w = leb-false (goal_of g) (tot c) v in rw q w) (and_false (ok c) (leb (goal_of g) (tot c)) f))
            (λ e. let d = eqb-false m c e in F.under m (omega arith) k o);
        is = F.is;
      })))

  -- some are passed over
  pub sought_past : (left n : ℕ) {g : Option declared.Best} (r : ℕ) → Sought left n g → Fallen ok tot (goal_of g) left r → Sought (left - r) n g
  sought_past left n {g} r F P = record {
    under = λ m h k o. case (leb left m) (λ t. F.under m (leb-true left m t) k o)
        (λ f. let l = leb-false left m f in
        let e : left - r + (m - (left - r)) ≡ m = omega arith in
        let z : (ok m && leb (goal_of g) (tot m)) ≡ false = sym (ap (λ (x : ℕ). ok x && leb (goal_of g) (tot x)) e) ∙ P.past (m - (left - r)) (omega (arith, P.few)) in
        ⊎_elim (λ v. clash o v) (λ v. leb-false (goal_of g) (tot m) v) (and_false (ok m) (leb (goal_of g) (tot m)) z));
    is = F.is;
  }

  -- ---- what is found is the best
  best_only : (n r s : ℕ) → Best ok tot n r → Best ok tot n s → 0 < n → r ≡ s
  best_only n r s A B h =
      ⊎_elim (λ u. ⊎_elim (λ v. absurd (omega (arith, u, v))) (λ v. absurd (omega (arith, u, v.0))) (B.top r (omega (arith, A.small)) A.fit))
      (λ u. ⊎_elim (λ v. absurd (omega (arith, u.0, v))) (λ v. omega (arith, u.1, v.1)) (B.top r (omega (arith, A.small)) A.fit))
      (A.top s (omega (arith, B.small)) B.fit)

  best_nothing : (n : ℕ) → ((m : ℕ) → m < n → ok m ≡ false) → best ok tot n ≡ 0
  unfolding best
  best_nothing zero h = refl
  best_nothing (suc n) h = rw (h n (omega arith)) (best_nothing n (λ m l. h m (omega arith)))

  -- the winners alone fit where anything does
  first_fits : Cuttable ok tot → (m : ℕ) → m < combinations → ok m ≡ true → ok 0 ≡ true
  first_fits C m l t = C.down 0 m (omega arith) l (λ i u. clash u (has_none i)) t

  pub found_best : (n : ℕ) (g : Option declared.Best) {w : ℕ} → Sought 0 n g → Cuttable ok tot → n ≤ combinations → w ≡ tot 0
      → unwrap_or g (record { mask = 0; total = w }) ≡ best_of ok tot n
  found_best n None F C l ew =
      rw (ew, best_nothing n (λ m h. case (ok m) (λ t. let z = F.under m (omega arith) h t in absurd (omega arith)) (λ f. f)))
  found_best n (Some b) F C l ew =
      let q = F.is in
      let fit = first_fits C b.mask (omega (arith, q.1)) q.0 in
      let same : b.mask ≡ best ok tot n
      = best_only n b.mask (best ok tot n) (record {
        fit = q.0;
        small = omega (arith, q.1);
        top = λ m h o. let u = F.under m (omega arith) h o in case (leb m b.mask)
            (λ t. inr (omega (arith, q.2), leb-true m b.mask t)) (λ t. inl (q.3 m (leb-false m b.mask t) h o));
      }) (best_is ok tot fit n) (omega (arith, q.1)) in
      rw (← same, ← q.2)

-- ---- how many are passed over
pub fallen_all : (ok : ℕ → Bool) (tot : ℕ → ℕ) (goal : ℕ) {left : ℕ} → ((m : ℕ) → (ok m && leb goal (tot m)) ≡ false) → Fallen ok tot goal left left
fallen_all ok tot goal {left} h = record { few = omega arith; past = λ j l. h (left - left + j) }

-- none that fits has more in the last year than the budget
pub over : (sheet : List ℕ) (of : Size) (table : List ℕ) {goal q : ℕ} → Ready sheet of → q ≡ limit_at sheet (of.years - 1) → q < goal
    → (m : ℕ) → (ok_by sheet of table m && leb goal (last_by of table m)) ≡ false
unfolding ok_by last_by
over sheet of table {goal} R e h m =
    let f = joint_of table m (union_of table m) in
    case (fits_to f sheet of.columns)
    (λ t. rw (t, lt-leb goal (f (of.years - 1)) (omega (arith, e, fits_at_lem f sheet (of.years - 1) of.columns t (omega (arith, R.some, R.columns_least))))))
    (λ u. rw u)

-- nor any that falls short of the goal
pub fallen_short : (sheet : List ℕ) (of : Size) (table : List ℕ) {goal q left r : ℕ} → Ready sheet of → q ≡ limit_at sheet (of.years - 1)
    → Short (last_by of table) goal q left r → Fallen (ok_by sheet of table) (last_by of table) goal left r
fallen_short sheet of table {goal} {q} {left} {r} R e S = record {
  few = S.few;
  past = λ j l.
      ⊎_elim (λ h. rw (lt-leb goal (last_by of table (left - r + j)) h) (and_none (ok_by sheet of table (left - r + j)))) (λ h. beyond (left - r + j) h)
      (S.none (left - r + j) (omega arith) (omega (arith, S.few)));
}
  where
    within : (m : ℕ) → ok_by sheet of table m ≡ true → last_by of table m ≤ limit_at sheet (of.years - 1)
    within m t = unfold ok_by last_by in
        fits_at_lem (joint_of table m (union_of table m)) sheet (of.years - 1) of.columns t (omega (arith, R.some, R.columns_least))

    beyond : (m : ℕ) → q < last_by of table m → (ok_by sheet of table m && leb goal (last_by of table m)) ≡ false
    beyond m h = case (ok_by sheet of table m) (λ t. absurd (omega (arith, e, h, within m t))) (λ u. rw u)

-- no total is large
pub joint_small : (table : List ℕ) (m t c : ℕ) → Tabled table → joint_of table m t c ≤ most_base * 5
unfolding joint_of
joint_small table m t c T =
    omega (
      arith,
      T.small.small (t * columns + c),
      T.small.small (costs_at + 0 * part_rows + m % part_size * columns + c),
      T.small.small (costs_at + 1 * part_rows + m / part_size % part_size * columns + c),
      T.small.small (costs_at + 2 * part_rows + m / two_parts % part_size * columns + c),
      T.small.small (costs_at + 3 * part_rows + m / three_parts * columns + c),
    )

pub last_small : (of : Size) (table : List ℕ) (m : ℕ) → Tabled table → last_by of table m ≤ most_base * 5
unfolding last_by
last_small of table m T = joint_small table m (union_of table m) (of.years - 1) T

-- nor is what must be bettered
pub goal_small : (sheet : List ℕ) (of : Size) (table : List ℕ) {lo n : ℕ} {g : Option declared.Best} → Tabled table
    → Sought (ok_by sheet of table) (last_by of table) lo n g → goal_of g < 2 ^ 64
goal_small sheet of table {g = None} T F = omega arith
goal_small sheet of table {g = Some b} T F = omega (arith, F.is.2, last_small of table b.mask T)
