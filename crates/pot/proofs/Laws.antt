-- Laws of the arrays' functions over plain variables: each answers one need of a proof. Assumes nothing.
use Prim.Native.Nat.{ℕ, zero, suc, ◌+◌, ◌<◌, ◌≤◌}
use mathlib.Core.Path.{◌≡◌, refl, sym, ap, ◌∙◌, subst}
use mathlib.Core.Bool.{Bool, true, false, not, ◌&&◌}
use Rattle.std.specs.Prelude.{Option, None, Some}
use mathlib.Core.List.{List, [], ◌∷◌}
use native.Mathlib.Numerals.{add-one}
use native.Mathlib.Nat.{le_antisymm}
use lib.ListN.{get_or, length, set, replicate}
use lib.Dec.{eqb}
use borrow.Author.Tests.{eq-eqb, ne_eqb, lt-ltb, le-ltb}
use Rattle.totals.specs.Totals.{sums_size}
use Rattle.rules.specs.Names.{most_apps, most_deliveries, no_price, widest_tie, down_tied}
use Rattle.arrays.specs.Sets.{fill, built, members, without}
use Rattle.sheet.specs.declared.Size.{Size}
use Rattle.sheet.specs.Sheet.{columns, one_more, Ready, drawn_in, in_auction, row_app, row_year, row_price}
use Rattle.combinations.specs.declared.Tied.{Tied}
use Rattle.ties.specs.declared.Choice.{Choice}
use Rattle.combinations.specs.Combinations.{bases_of, tied_of}
use Rattle.ties.specs.Ties.{keeps_of, choice_of}
use Rattle.pot.specs.declared.PotState.{PotState}
use Rattle.pot.specs.declared.Look.{Look}
use Rattle.pot.specs.Marks.{Each, live_of, at_of, win_of, turn_of, win_all, turn_all, turned_of, hung_of, shut_of, shut_in, settled_of, widened, sole_of, follows_of, alone_of}
use Rattle.pot.specs.Marks.{numbered_of, shared_of, rest_of, choice_in, tie_of, Others, Looked, first_mark, one_less, no_marks, started_of, revalued_of}

-- the bounds of a bid's application and year, at what the accessors return
pub app_ok : {sheet : List ℕ} {of : Size} (i : ℕ) {a : ℕ} → Ready sheet of → i < of.bids → a ≡ row_app sheet i → a < 64
app_ok i c h e = rw e (c.app i h)

pub year_ok : {sheet : List ℕ} {of : Size} (i : ℕ) {d : ℕ} → Ready sheet of → i < of.bids → d ≡ row_year sheet i → d < 4
year_ok i c h e = rw e (c.year i h)

-- ---- what is live
module _ (sheet : List ℕ) (s : PotState) (i : ℕ) {a d : ℕ} {b : Bool} (ea : a ≡ row_app sheet i) (ed : d ≡ row_year sheet i)
    (eb : b ≡ (eqb (get_or s.marks i 0) 0 && (not (get_or s.won a false) && get_or s.opened d false))) where
  pub live_is : b ≡ live_of sheet s i
  unfolding live_of
  live_is = rw (eb, ea, ed)

  pub at_is : (p : ℕ) {q : ℕ} {r : Bool} → q ≡ row_price sheet i → r ≡ (b && eqb q p) → r ≡ at_of sheet s p i
  unfolding at_of
  at_is p eq er = rw (er, live_is, eq)

-- ---- marks, at what the accessors return
module _ (sheet : List ℕ) (s : PotState) (p i : ℕ) {d : ℕ} (ed : d ≡ row_year sheet i) where
  pub win_is : {a : ℕ} → a ≡ row_app sheet i
      → ◌≡◌ {A = PotState} (record {
        marks = set s.marks i 1;
        won = set s.won a true;
        opened = s.opened;
        prices = set s.prices d p;
        sums = s.sums;
        totals = s.totals;
        hang = s.hang;
        wide = s.wide;
        drawn = s.drawn;
      }) (win_of sheet p i s)
  unfolding win_of
  win_is ea = rw (ea, ed)

  pub turn_is : ◌≡◌ {A = PotState}
      (record {
        marks = set s.marks i p;
        won = s.won;
        opened = set s.opened d false;
        prices = s.prices;
        sums = s.sums;
        totals = s.totals;
        hang = s.hang;
        wide = s.wide;
        drawn = s.drawn;
      }) (turn_of sheet p i s)
  unfolding turn_of
  turn_is = rw ed

-- what becomes of the bids of a set
module _ (step : PotState → ℕ → PotState → Type 0) (s : PotState) (l : List Bool) where
  pub each_none : Each step s (members l 0) s
  unfolding members
  each_none = refl

  pub each_hit : (i : ℕ) {t q r : PotState} → get_or l i false ≡ true → Each step s (members l i) t → step t i q → r ≡ q → Each step s (members l (i + 1)) r
  unfolding members
  each_hit i {t} h e p er = rw (add-one i, h, er) (t, e, p)

  pub each_miss : (i : ℕ) {t r : PotState} → get_or l i false ≡ false → Each step s (members l i) t → r ≡ t → Each step s (members l (i + 1)) r
  unfolding members
  each_miss i h e er = rw (add-one i, h, er) e

  pub each_end : (i n : ℕ) (r : PotState) → i ≤ n → n ≤ i → Each step s (members l i) r → Each step s (members l n) r
  each_end i n r h g e = subst (λ (k : ℕ). Each step s (members l k) r) (le_antisymm h g) e

module _ (step : PotState → ℕ → PotState → Type 0) (sheet : List ℕ) (v : ℕ) (s : PotState) where
  pub each_win : ((t : PotState) (k : ℕ) (r : PotState) → step t k r → r ≡ win_of sheet v k t) → (l : List ℕ) (r : PotState) → Each step s l r
      → r ≡ win_all sheet v s l
  unfolding win_all
  each_win h [] r e = e
  each_win h (k ∷ l) r e = h e.0 k r e.2 ∙ ap (win_of sheet v k) (each_win h l e.0 e.1)

  pub each_turn : ((t : PotState) (k : ℕ) (r : PotState) → step t k r → r ≡ turn_of sheet v k t) → (l : List ℕ) (r : PotState) → Each step s l r
      → r ≡ turn_all sheet v s l
  unfolding turn_all
  each_turn h [] r e = e
  each_turn h (k ∷ l) r e = h e.0 k r e.2 ∙ ap (turn_of sheet v k) (each_turn h l e.0 e.1)

-- the hanging year
pub settled_shut : (s : PotState) {d : ℕ} {r : PotState} → s.hang ≡ Some d → d < 4 → r ≡ shut_of d s → r ≡ settled_of s
unfolding settled_of shut_in
settled_shut s {d} h l e = e ∙ sym (ap (λ (year : Option ℕ). shut_in year s) h ∙ rw (lt-ltb d 4 l))

pub settled_past : (s : PotState) {d : ℕ} {r : PotState} → s.hang ≡ Some d → 4 ≤ d → r ≡ hung_of None s → r ≡ settled_of s
unfolding settled_of shut_in
settled_past s {d} h l e = e ∙ sym (ap (λ (year : Option ℕ). shut_in year s) h ∙ rw (le-ltb d 4 l))

pub settled_none : (s : PotState) {r : PotState} → s.hang ≡ None → r ≡ hung_of None s → r ≡ settled_of s
unfolding settled_of shut_in
settled_none s h e = e ∙ sym (ap (λ (year : Option ℕ). shut_in year s) h)

-- ---- one bid alone
module _ (sheet : List ℕ) (of : Size) (i : ℕ) (s : PotState) {l : Look} (K : Looked sheet of s l) where
  pub follows_not : (l.count ≡ 1 → ⊥) → false ≡ follows_of sheet of i s
  unfolding follows_of sole_of
  follows_not h = rw (← K.count, ne_eqb l.count 1 h)

  module _ {q x : ℕ} (h : l.count ≡ 1) (ex : x ≡ row_app sheet i) (ey : q ≡ row_app sheet l.last) where
    pub follows_other : (q ≡ x → ⊥) → false ≡ follows_of sheet of i s
    unfolding follows_of sole_of
    follows_other g = rw (← K.count, eq-eqb l.count 1 h, ← K.last, ← ex, ← ey, ne_eqb q x g)

    pub follows_year : {y w : ℕ} → q ≡ x → y ≡ row_year sheet i → w ≡ row_year sheet l.last → eqb w y ≡ follows_of sheet of i s
    unfolding follows_of sole_of
    follows_year {y} {w} g ez ew = rw (← K.count, eq-eqb l.count 1 h, ← K.last, ← ex, ← ey, eq-eqb q x g, ez, ew)

-- a bid that is turned down is not fresh, and no other gets so
not_fresh : (l : List ℕ) (i k : ℕ) → eqb (get_or l k 0) 0 ≡ false → eqb (get_or (set l i 2) k 0) 0 ≡ false
not_fresh [] i k h = h
not_fresh (x ∷ l) zero zero h = refl
not_fresh (x ∷ l) zero (suc k) h = h
not_fresh (x ∷ l) (suc i) zero h = h
not_fresh (x ∷ l) (suc i) (suc k) h = not_fresh l i k h

pub others_turned : (sheet : List ℕ) (of : Size) (i : ℕ) (s : PotState) {t : PotState} → t ≡ turned_of i s → Others sheet of s → Others sheet of t
unfolding turned_of
others_turned sheet of i s e o = rw e (λ k g f. not_fresh s.marks i k (o k g f))

module _ (sheet : List ℕ) (of : Size) (i : ℕ) (s : PotState) {t r : PotState} {d : ℕ} {g : Bool} (et : t ≡ turned_of i s) (ed : d ≡ row_year sheet i)
    (eg : g ≡ follows_of sheet of i t) where
  pub alone_hung : g ≡ true → r ≡ hung_of (Some d) t → r ≡ alone_of sheet of i s
  unfolding alone_of
  alone_hung h er = rw (← et, ← eg, h, er, ed)

  pub alone_shut : g ≡ false → r ≡ shut_of d t → r ≡ alone_of sheet of i s
  unfolding alone_of
  alone_shut h er = rw (← et, ← eg, h, er, ed)

-- ---- several
pub shared_is : (sheet : List ℕ) (of : Size) (l : List Bool) (c : Choice) (p : ℕ) (s : PotState) {t u v r : PotState} {o : List Bool}
    → t ≡ win_all sheet p s (members c.wins of.bids) → o ≡ built (without l c.wins) of.bids
    → u ≡ turn_all sheet down_tied t (members o of.bids) → v ≡ hung_of None u → r ≡ numbered_of c.drawn v → r ≡ shared_of sheet of l c p s
unfolding shared_of
shared_is sheet of l c p s et eo eu ev er = rw (er, ev, eu, et, eo)

module _ (sheet : List ℕ) (of : Size) (l : List Bool) (p : ℕ) (s : PotState) {base : List ℕ} {rest : List Bool} {k : ℕ}
    (eb : base ≡ bases_of sheet of s.marks s.prices p) (es : rest ≡ built (keeps_of sheet of base p l) of.bids)
    (ek : k ≡ length (members rest of.bids)) where
  rest_is : rest ≡ rest_of sheet of l p s
  unfolding rest_of
  rest_is = rw (es, eb)

  pub tie_wide : {r : PotState} → widest_tie < k → r ≡ widened s → r ≡ tie_of sheet of l p s
  unfolding tie_of
  tie_wide h er = rw (← rest_is, ← ek, lt-ltb widest_tie k h) er

  pub tie_shared : {tied : Tied} {c : Choice} {t r : PotState} → k ≤ widest_tie → tied ≡ tied_of sheet of rest k
      → c ≡ choice_of sheet of base tied p s.drawn → t ≡ shared_of sheet of l c p s → r ≡ revalued_of sheet of t → r ≡ tie_of sheet of l p s
  unfolding tie_of choice_in
  tie_shared h ed ec et er = rw (← rest_is, ← ek, le-ltb widest_tie k h, ← eb, ← ed, ← ec, ← et) er

-- ---- the start
pub first_yes : {t : Bool} → t ≡ true → 0 ≡ first_mark t
unfolding first_mark
first_yes h = rw h

pub first_no : {t : Bool} → t ≡ false → 9 ≡ first_mark t
unfolding first_mark
first_no h = rw h

-- one more than a number, or than none, and back
pub more_less : (n : ℕ) → one_more (one_less n) ≡ n
unfolding one_less
more_less zero = refl
more_less (suc d) = refl

pub less_more : (d : Option ℕ) → d ≡ one_less (one_more d)
unfolding one_less
less_more None = refl
less_more (Some d) = refl

pub started_done : (sheet : List ℕ) (of : Size) {l : List ℕ} {k : ℕ} {d : Option ℕ} → l ≡ fill no_marks (λ k. first_mark (in_auction sheet k)) k → k ≤ of.bids
    → of.bids ≤ k → one_more d ≡ drawn_in sheet
    → ◌≡◌ {A = PotState} (record {
      marks = l;
      won = replicate most_apps false;
      opened = replicate most_deliveries true;
      prices = replicate most_deliveries no_price;
      sums = replicate sums_size 0;
      totals = replicate columns 0;
      hang = None;
      wide = false;
      drawn = d;
    }) (started_of sheet of)
unfolding started_of
started_done sheet of {d = d} e h g ed = rw (e, le_antisymm h g, less_more d ∙ ap one_less ed)
