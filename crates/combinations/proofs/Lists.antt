-- The arrays of a tie: what stands at each place, and that all is small. Assumes nothing.
use Prim.Native.Nat.{ℕ, zero, suc, ◌*◌, ◌/◌, ◌%◌, ◌≤◌, ◌<◌}
use mathlib.Core.Path.{◌≡◌, refl, ap, ◌∙◌}
use mathlib.Core.Bool.{Bool, true, false}
use mathlib.Core.List.{List, ◌∷◌}
use native.Mathlib.Omega.{arith}
use lib.ListN.{length, get_or, set, length-set}
use lib.Dec.{eqb, ltb}
use borrow.Author.Tests.{eqb-true, eqb-false, eq-eqb, ne_eqb, le-ltb}
use Rattle.rules.specs.Names.{widest_tie}
use Rattle.rules.specs.Value.{dearest}
use Rattle.rules.specs.Lists.{sift, below}
use Rattle.laws_pot.specs.Lists.{case, In, here, there, sift_in, sift_le, sift_less, below_in}
use Rattle.arrays.specs.Sets.{members}
use Rattle.arrays.proofs.Arrays.{fill_at, fill_le, zeros, members_less, put_is}
use Rattle.sheet.specs.declared.Size.{Size}
use Rattle.sheet.specs.Sheet.{columns, row_draw, Ready}
use Rattle.totals.proofs.Laws.{worth_le, total_le}
use Rattle.combinations.specs.declared.Tied.{Tied}
use Rattle.combinations.specs.Combinations.{year_sets, Bounded, repriced_to, base_at, no_base, bases_of, most_base, listed, no_list, compact_of, above_of}
use Rattle.combinations.specs.Combinations.{rank_of, ranks_of, start_of, starts_of, tied_of, Few, Numbers, Gathered, own_at, no_own, owns_of, Owned}

-- ---- the list of a set is its members
compact_length : (l : List Bool) (n : ℕ) → length (compact_of l n) ≡ widest_tie
unfolding compact_of no_list
compact_length l zero = refl
compact_length l (suc n) =
    case (get_or l n false) (λ t. rw t (length-set (compact_of l n) (length (members l n)) n ∙ compact_length l n)) (λ f. rw f (compact_length l n))

-- a place past the first k does not matter
listed_set : (a : List ℕ) (k i v : ℕ) → k ≤ i → i < length a → listed (set a i v) k ≡ listed a k
unfolding listed
listed_set a zero i v h g = refl
listed_set a (suc k) i v h g =
    rw (put_is a i k v 0 g, listed_set a k i v (omega arith) g, ne_eqb k i (λ e. let no : ⊥ = omega arith in no))

-- one more is written at the end
listed_more : (a : List ℕ) (k v : ℕ) → k < length a → listed (set a k v) (suc k) ≡ v ∷ listed a k
unfolding listed
listed_more a k v h = rw (put_is a k k v 0 h, listed_set a k k v (omega arith) h, eq-eqb k k refl)

listed_length : (a : List ℕ) (k : ℕ) → length (listed a k) ≡ k
unfolding listed
listed_length a zero = refl
listed_length a (suc k) = ap suc (listed_length a k)

pub in_listed : (a : List ℕ) (j k : ℕ) → j < k → In (get_or a j 0) (listed a k)
unfolding listed
in_listed a j zero h = absurd (omega arith)
in_listed a j (suc k) h = case (eqb j k) (λ t. rw (eqb-true j k t) (here refl)) (λ f. let d = eqb-false j k f in there (in_listed a j k (omega arith)))

members_hit : (l : List Bool) (n : ℕ) → get_or l n false ≡ true → members l (suc n) ≡ n ∷ members l n
unfolding members
members_hit l n t = rw t

members_miss : (l : List Bool) (n : ℕ) → get_or l n false ≡ false → members l (suc n) ≡ members l n
unfolding members
members_miss l n f = rw f

-- there is room for the next one
pub compact_room : (l : List Bool) (i q : ℕ) {c : ℕ} → get_or l i false ≡ true → i < q → c ≡ length (members l i) → length (members l q) ≤ widest_tie
    → c < widest_tie
compact_room l i q t h e g = omega (arith, members_less l (suc i) q h, ap length (members_hit l i t))

pub listed_compact : (l : List Bool) (n : ℕ) → length (members l n) ≤ widest_tie → listed (compact_of l n) (length (members l n)) ≡ members l n
unfolding compact_of
listed_compact l zero h = unfold listed members in refl
listed_compact l (suc n) h =
    let ih = listed_compact l n (omega (arith, members_less l n (suc n) (omega arith))) in
    case (get_or l n false)
    (λ t.
    let e = members_hit l n t in
    rw (t, e) (listed_more (compact_of l n) (length (members l n)) n (omega (arith, compact_length l n, ap length e)) ∙ ap (λ (x : List ℕ). n ∷ x) ih))
    (λ f. rw (f, members_miss l n f) ih)

-- the numbers of the list
module _ (l : List Bool) (q : ℕ) {k : ℕ} {list : List ℕ} (ek : k ≡ length (members l q)) (h : k ≤ widest_tie) (el : list ≡ compact_of l q) where
  pub listed_is : listed list k ≡ members l q
  listed_is = rw (el, ek) (listed_compact l q (omega arith))

  pub numbers : Numbers list k q
  numbers = record {
    few = h;
    small = λ j g. below_in (get_or list j 0) q (sift_in (get_or list j 0) (λ i. get_or l i false) (below q) (opened j (rw listed_is at (in_listed list j k g)))).0;
  }
    where
      opened : (j : ℕ) → In (get_or list j 0) (members l q) → In (get_or list j 0) (sift (λ i. get_or l i false) (below q))
      opened j i = unfold members in i

pub numbers_more : {list : List ℕ} {k q : ℕ} (n : ℕ) → q ≤ n → Numbers list k q → Numbers list k n
numbers_more n h N = record { few = N.few; small = λ j g. let f = N.small j g in omega arith }

-- ---- all is small
pub base_ok : (sheet : List ℕ) (of : Size) (marks prices : List ℕ) (p : ℕ) {base : List ℕ} → Ready sheet of → base ≡ bases_of sheet of marks prices p
    → Bounded base most_base
unfolding no_base base_at
base_ok sheet of marks prices p v e = rw e (record {
  small = λ i. fill_le no_base (base_at sheet of marks prices p) most_base (year_sets * columns) i (omega arith)
      (λ j g. case (ltb (j % columns) of.columns)
      (λ t. rw t (omega (
        arith,
        v.few,
        total_le sheet of marks (repriced_to prices p (j / columns) 4) (j % columns) of.bids v (omega arith),
      )))
      (λ f. rw f (omega arith)))
      (λ j. rw (zeros (year_sets * columns) j) (omega arith));
})

module _ (sheet : List ℕ) (of : Size) (list : List ℕ) (k : ℕ) (v : Ready sheet of) (N : Numbers list k of.bids) where
  own_ok : (p i : ℕ) → get_or (owns_of sheet of list p k) i 0 ≤ dearest
  unfolding no_own own_at
  own_ok p i = fill_le no_own (own_at sheet of list p) dearest (k * columns) i (omega (arith, N.few))
      (λ j g. case (ltb (j % columns) of.columns)
      (λ t. rw t (worth_le sheet of (get_or list (j / columns) 0) p (j % columns) v (N.small (j / columns) (omega arith))))
      (λ f. rw f (omega arith)))
      (λ j. rw (zeros (widest_tie * columns) j) (omega arith))

  widest : length no_list ≡ widest_tie
  unfolding no_list
  widest = refl

  pub rank_at : (j : ℕ) → j < k → get_or (ranks_of sheet list k) j 0 ≡ rank_of sheet list k j
  rank_at j g = fill_at no_list (rank_of sheet list k) k j 0 (omega (arith, N.few, widest)) g

  pub start_at : (j : ℕ) → j < k → get_or (starts_of sheet list k) j 0 ≡ start_of sheet list j
  start_at j g = fill_at no_list (start_of sheet list) k j 0 (omega (arith, N.few, widest)) g

  -- a bid has no higher draw than its own
  rank_low : (j : ℕ) → j < k → rank_of sheet list k j < k
  unfolding rank_of above_of
  rank_low j g =
      let x = row_draw sheet (get_or list j 0) in
      omega (
        arith,
        sift_less (λ c. true) (λ c. ltb x (row_draw sheet c)) (λ c t. refl) (in_listed list j k g) refl (le-ltb x x (omega arith)),
        sift_le (λ c. true) (listed list k),
        listed_length list k,
      )

  start_low : (j : ℕ) → j < k → start_of sheet list j < 4
  unfolding start_of
  start_low j g = v.year (get_or list j 0) (N.small j g)

-- the bids of a set, with their places and years
pub tied_gathered : (sheet : List ℕ) (of : Size) (l : List Bool) (k : ℕ) {tied : Tied} → Ready sheet of → Few of l k → tied ≡ tied_of sheet of l k
    → Gathered of tied
unfolding tied_of
tied_gathered sheet of l k v F et = rw et (record {
  numbers = N;
  placed = record {
    few = F.few;
    ranks = λ j g. omega (arith, rank_at sheet of (compact_of l of.bids) k v N j g, rank_low sheet of (compact_of l of.bids) k v N j g);
    starts = λ j g. rw (start_at sheet of (compact_of l of.bids) k v N j g) (start_low sheet of (compact_of l of.bids) k v N j g);
  };
})
  where
    N : Numbers (compact_of l of.bids) k of.bids
    N = numbers l of.bids F.counted F.few refl

-- and what they cost
pub gathered_owned : (sheet : List ℕ) (of : Size) (p : ℕ) {tied : Tied} {own : List ℕ} → Ready sheet of → Gathered of tied
    → own ≡ owns_of sheet of tied.bids p tied.count → Owned own tied
gathered_owned sheet of p {tied} v G eo = record {
  bids = rw eo (record { small = own_ok sheet of tied.bids tied.count v G.numbers p });
  placed = G.placed;
}
