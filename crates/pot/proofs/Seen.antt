-- One pass over the bids of the pot sees the live bids of the lowest live price. Assumes nothing.
use Prim.Native.Nat.{ℕ, ◌+◌, min, ◌≤◌, ◌<◌}
use mathlib.Core.Path.{◌≡◌, refl, sym, ap, ◌∙◌, subst}
use mathlib.Core.Bool.{Bool, true, false, not, ◌&&◌}
use Rattle.std.specs.Prelude.{Option, None, Some, IfSome, MatchOption}
use mathlib.Core.List.{List, [], ◌∷◌}
use native.Mathlib.Omega.{arith}
use native.Mathlib.Nat.{le_antisymm}
use native.Mathlib.Numerals.{add-one}
use lib.ListN.{length, get_or}
use lib.Dec.{eqb, ltb}
use borrow.Author.Tests.{eqb-true, eq-eqb, ne_eqb, lt-ltb, le-ltb, ltb-true, ltb-false}
use Rattle.rules.specs.Names.{no_price, no_reason, because_won, highest_price}
use Rattle.rules.specs.Lists.{sift, below}
use Rattle.laws_pot.specs.Lists.{case, and_true, In, here, there, sift_in, sift_same, sift_both, sift_le, below_in}
use Rattle.arrays.specs.Sets.{members, head_or}
use Rattle.arrays.proofs.Arrays.{members_built}
use Rattle.sheet.specs.declared.Size.{Size}
use Rattle.sheet.specs.Sheet.{Ready, entrant_at, entrants, row_app, row_year, row_price, in_auction}
use Rattle.sheet.proofs.Entrants.{entrants_length}
use Rattle.pot.specs.declared.PotState.{PotState}
use Rattle.pot.specs.declared.Look.{Look}
use Rattle.pot.specs.Marks.{least_or, live_of, lowest_of, at_of, taken_of, Others, joined_of, look_of, NoneLive, Looked, sole_of, follows_of}

-- ---- one bid more
module _ {seen : Option Look} (l : Look) (q i : ℕ) (e : seen ≡ Some l) where
  pub joined_higher : l.price < q → l ≡ joined_of seen q i
  unfolding joined_of
  joined_higher h = rw (e, lt-ltb l.price q h)

  pub joined_lower : {m : Look} → seen ≡ Some m → q ≤ m.price → (l.price ≡ q → ⊥)
      → ◌≡◌ {A = Look} (record { price = q; count = 1; last = i }) (joined_of seen q i)
  unfolding joined_of
  joined_lower {m} f g h =
      let same : m ≡ l = cc in
      let k : q < l.price = omega (arith, ap (λ (x : Look). x.price) same) in
      rw (e, le-ltb l.price q (omega arith), lt-ltb q l.price k)

  pub joined_equal : l.price ≡ q → ◌≡◌ {A = Look} (record { price = q; count = l.count + 1; last = i }) (joined_of seen q i)
  unfolding joined_of
  joined_equal h = let g : q ≤ l.price = omega arith in let k : l.price ≤ q = omega arith in rw (e, le-ltb l.price q g, le-ltb q l.price k)

pub joined_first : {seen : Option Look} (q i : ℕ) → seen ≡ None → ◌≡◌ {A = Look} (record { price = q; count = 1; last = i }) (joined_of seen q i)
unfolding joined_of
joined_first q i e = rw e

joined_count : (l : Look) (q i : ℕ) → (joined_of (Some l) q i).count ≤ l.count + 1
unfolding joined_of
joined_count l q i =
    case (ltb l.price q) (λ t. rw t (omega arith))
    (λ f. rw f (case (ltb q l.price) (λ t. rw t (omega arith)) (λ g. rw g (omega arith))))

-- ---- the bids of a list
module _ (sheet : List ℕ) where
  -- those of the lowest price
  abbrev cheapest : List ℕ → List ℕ
  cheapest l = sift (λ i. eqb (row_price sheet i) (least_or sheet l)) l

  least_le : (k : ℕ) (l : List ℕ) → In k l → least_or sheet l ≤ row_price sheet k
  unfolding least_or
  least_le k [] i = elim i [ ]
  least_le k (x ∷ l) (here e) = rw e (omega arith)
  least_le k (x ∷ l) (there i) = let f = least_le k l i in omega arith

  none_at : (q : ℕ) (l : List ℕ) → ((k : ℕ) → In k l → q < row_price sheet k) → sift (λ i. eqb (row_price sheet i) q) l ≡ []
  none_at q [] h = refl
  none_at q (x ∷ l) h = let f = h x (here refl) in rw (ne_eqb (row_price sheet x) q (λ e. let no : ⊥ = omega arith in no)) (none_at q l (λ k i. h k (there i)))

  -- what the look has seen of a list that begins with x
  abbrev Parts : Look → List ℕ → Type 0
  Parts L l = (L.price ≡ least_or sheet l) × (L.count ≡ length (cheapest l)) × (L.last ≡ head_or 0 (cheapest l))

  -- .. and then sees x too
  parts_joined : (x : ℕ) (l : List ℕ) (L : Look) → Parts L l → Parts (joined_of (Some L) (row_price sheet x) x) (x ∷ l)
  unfolding least_or
  parts_joined x l L r = unfold joined_of in joins r.0 r.1 r.2
    where
      q : ℕ
      q = row_price sheet x

      -- what the look has seen of the list with x, the lowest price being m
      Seen : ℕ → Type 0
      Seen m = ((joined_of (Some L) q x).price ≡ m) × ((joined_of (Some L) q x).count ≡ length (sift (λ i. eqb (row_price sheet i) m) (x ∷ l)))
          × ((joined_of (Some L) q x).last ≡ head_or 0 (sift (λ i. eqb (row_price sheet i) m) (x ∷ l)))

      joins : L.price ≡ least_or sheet l → L.count ≡ length (cheapest l) → L.last ≡ head_or 0 (cheapest l) → Seen (min (row_price sheet x) (least_or sheet l))
      joins ep ec el = unfold joined_of in
          case (ltb L.price (row_price sheet x))
          (λ t.
          let h = ltb-true L.price (row_price sheet x) t in
          let e : min (row_price sheet x) (least_or sheet l) ≡ least_or sheet l = omega arith in
          subst Seen (sym e)
          (rw (t, ne_eqb (row_price sheet x) (least_or sheet l) (λ e. let no : ⊥ = omega arith in no)) (ep, ec, el)))
          (λ f.
          let h = ltb-false L.price (row_price sheet x) f in
          let e : min (row_price sheet x) (least_or sheet l) ≡ row_price sheet x = omega arith in
          subst Seen (sym e)
          (rw (f, eq-eqb (row_price sheet x) (row_price sheet x) refl)
          (case (ltb (row_price sheet x) L.price)
          (λ t.
          let g = ltb-true (row_price sheet x) L.price t in
          rw (t, none_at (row_price sheet x) l (λ k i. let f = least_le k l i in omega arith)) (refl, refl, refl))
          (λ u.
          let g = ltb-false (row_price sheet x) L.price u in
          let d : row_price sheet x ≡ least_or sheet l = omega arith in
          let same = ec ∙ ap (λ (m : ℕ). length (sift (λ i. eqb (row_price sheet i) m) l)) (sym d) in
          rw u (refl, omega (arith, same), refl)))))

  parts_first : (x : ℕ) → row_price sheet x ≤ highest_price → Parts (joined_of None (row_price sheet x) x) (x ∷ [])
  unfolding joined_of least_or
  parts_first x h = subst Seen (sym least) (rw (eq-eqb (row_price sheet x) (row_price sheet x) refl) (refl, refl, refl))
    where
      Seen : ℕ → Type 0
      Seen m = (row_price sheet x ≡ m) × (1 ≡ length (sift (λ i. eqb (row_price sheet i) m) (x ∷ [])))
          × (x ≡ head_or 0 (sift (λ i. eqb (row_price sheet i) m) (x ∷ [])))

      least : min (row_price sheet x) no_price ≡ row_price sheet x
      least = omega (arith, h)

  look_parts : (x : ℕ) (l : List ℕ) → ((k : ℕ) → In k (x ∷ l) → row_price sheet k ≤ highest_price)
      → Parts (joined_of (look_of sheet l) (row_price sheet x) x) (x ∷ l)
  unfolding look_of
  look_parts x [] h = parts_first x (h x (here refl))
  look_parts x (y ∷ l) h =
      parts_joined x (y ∷ l) (joined_of (look_of sheet l) (row_price sheet y) y) (look_parts y l (λ k i. h k (there i)))

  few_joined : (x : ℕ) (l : List ℕ) → (joined_of (look_of sheet l) (row_price sheet x) x).count ≤ length (x ∷ l)
  unfolding look_of joined_of
  few_joined x [] = omega arith
  few_joined x (y ∷ l) =
      let f = few_joined y l in
      let w = joined_count (joined_of (look_of sheet l) (row_price sheet y) y) (row_price sheet x) x in
      omega arith

  look_few : (l : List ℕ) (n : ℕ) → length l < n → IfSome (look_of sheet l) (λ (seen : Look). seen.count < n)
  unfolding look_of
  look_few [] n h = tt
  look_few (x ∷ l) n h = omega (arith, few_joined x l)

-- ---- the pass
module _ (sheet : List ℕ) (s : PotState) (j : ℕ) {l : Option Look} (e : l ≡ look_of sheet (sift (live_of sheet s) (entrants sheet j))) where
  module _ {i : ℕ} (ei : i ≡ entrant_at sheet j) {b : Bool} (eb : b ≡ live_of sheet s i) where
    pub pass_hit : {q : ℕ} {r : Look} → b ≡ true → q ≡ row_price sheet i → r ≡ joined_of l q i
        → Some r ≡ look_of sheet (sift (live_of sheet s) (entrants sheet (j + 1)))
    unfolding look_of entrants
    pass_hit h eq er = rw (add-one j, ← ei, sym eb ∙ h, er, eq, e)

    pub pass_miss : b ≡ false → l ≡ look_of sheet (sift (live_of sheet s) (entrants sheet (j + 1)))
    unfolding entrants
    pass_miss h = rw (add-one j, ← ei, sym eb ∙ h, e)

  pub pass_few : (n : ℕ) → j < n → IfSome l (λ (seen : Look). seen.count < n)
  pass_few n h =
      rw e (look_few sheet (sift (live_of sheet s) (entrants sheet j)) n (omega (arith, sift_le (live_of sheet s) (entrants sheet j), entrants_length sheet j)))

module _ (sheet : List ℕ) (of : Size) (s : PotState) (ck : Ready sheet of) where
  -- the live bids are all of the pot
  live_listed : Others sheet of s → sift (live_of sheet s) (sift (in_auction sheet) (below of.bids)) ≡ sift (live_of sheet s) (below of.bids)
  live_listed o =
      sift_both (live_of sheet s) (in_auction sheet) (below of.bids)
      ∙ sift_same (λ i. in_auction sheet i && live_of sheet s i) (live_of sheet s) (below of.bids) (λ k i. same k (below_in k of.bids i))
    where
      same : (k : ℕ) → k < of.bids → (in_auction sheet k && live_of sheet s k) ≡ live_of sheet s k
      same k h = unfold live_of in case (in_auction sheet k) (λ t. rw t) (λ f. rw (f, o k h f))

  -- those taken, as a list
  pub taken_list : members (taken_of sheet of s) of.bids ≡ cheapest sheet (sift (live_of sheet s) (below of.bids))
  unfolding taken_of at_of lowest_of
  taken_list = members_built (λ i. live_of sheet s i && eqb (row_price sheet i) (least_or sheet (sift (live_of sheet s) (below of.bids)))) of.bids ck.few
      ∙ sym (sift_both (λ i. eqb (row_price sheet i) (least_or sheet (sift (live_of sheet s) (below of.bids)))) (live_of sheet s) (below of.bids))

  -- what a look has seen of all live bids
  Sees : Option Look → Type 0
  Sees l = MatchOption l (NoneLive sheet of s) (λ (seen : Look). Looked sheet of s seen × (seen.price < no_price))

  look_all : (l : List ℕ) → sift (live_of sheet s) (below of.bids) ≡ l → Sees (look_of sheet l)
  unfolding Sees look_of lowest_of
  look_all [] e = e
  look_all (x ∷ l) e =
      let f = look_parts sheet x l low in
      let one : members (taken_of sheet of s) of.bids ≡ cheapest sheet (x ∷ l) = taken_list ∙ ap (cheapest sheet) e in (
        record { price = f.0 ∙ ap (least_or sheet) (sym e); count = f.1 ∙ ap length (sym one); last = f.2 ∙ ap (head_or 0) (sym one) },
        omega (arith, f.0, least_le sheet x (x ∷ l) (here refl), low x (here refl)),
      )
    where
      low : (k : ℕ) → In k (x ∷ l) → row_price sheet k ≤ highest_price
      low k i = ck.price k (below_in k of.bids (sift_in k (live_of sheet s) (below of.bids) (rw e i)).0)

  pub pass_looked : {j : ℕ} {l : Option Look} → Others sheet of s → l ≡ look_of sheet (sift (live_of sheet s) (entrants sheet j)) → j ≤ of.entered → of.entered ≤ j
      → MatchOption l (NoneLive sheet of s) (λ (seen : Look). Looked sheet of s seen × (seen.price < no_price))
  unfolding Sees
  pass_looked o e h g = rw (e, le_antisymm h g, ck.listed, live_listed o) (look_all (sift (live_of sheet s) (below of.bids)) refl)

  -- where no bid is live there is no next one
  pub follows_none : (k : ℕ) → NoneLive sheet of s → false ≡ follows_of sheet of k s
  unfolding follows_of sole_of
  follows_none k e = rw (taken_list ∙ ap (cheapest sheet) e)

-- a sole bid is one of the sheet's, and is live
head_in : (a : List ℕ) → length a ≡ 1 → In (head_or 0 a) a
head_in [] e = absurd (let no : ⊥ = omega arith in no)
head_in (x ∷ a) e = here refl

sole_in : {sheet : List ℕ} {of : Size} {s : PotState} {l : Look} → Looked sheet of s l → l.count ≡ 1 → In l.last (members (taken_of sheet of s) of.bids)
sole_in {sheet} {of} {s} K h = rw K.last (head_in (members (taken_of sheet of s) of.bids) (sym K.count ∙ h))

module _ {sheet : List ℕ} {of : Size} {s : PotState} {l : Look} (ck : Ready sheet of) (K : Looked sheet of s l) (h : l.count ≡ 1) where
  held : In l.last (below of.bids) × (live_of sheet s l.last ≡ true)
  held = sift_in l.last (live_of sheet s) (below of.bids)
      (sift_in l.last (λ i. eqb (row_price sheet i) (least_or sheet (sift (live_of sheet s) (below of.bids)))) (sift (live_of sheet s) (below of.bids))
      (rw (taken_list sheet of s ck) at (sole_in K h))).0

  pub sole_small : l.last < of.bids
  sole_small = below_in l.last of.bids held.0

  pub sole_fresh : eqb (get_or s.marks l.last 0) because_won ≡ false
  sole_fresh = rw (eqb-true (get_or s.marks l.last 0) no_reason (and_true (eqb (get_or s.marks l.last 0) no_reason) _ (opened held.1)).0) refl
    where
      opened : live_of sheet s l.last ≡ true
          → (eqb (get_or s.marks l.last 0)
          no_reason && (not (get_or s.won (row_app sheet l.last) false) && get_or s.opened (row_year sheet l.last) false)) ≡ true
      opened e = unfold live_of in e
