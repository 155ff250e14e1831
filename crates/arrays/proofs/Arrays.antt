-- Arrays place by place, and the members of sets. Assumes nothing.
use Prim.Native.Nat.{ℕ, zero, suc, ◌+◌, ◌≤◌, ◌<◌}
use mathlib.Core.Path.{◌≡◌, refl, sym, ap, ◌∙◌}
use mathlib.Core.Bool.{Bool, true, false, ◌||◌}
use mathlib.Core.List.{List, [], ◌∷◌, ◌++◌}
use native.Mathlib.Nat.{add-suc}
use native.Mathlib.Numerals.{add-one}
use native.Mathlib.Omega.{arith}
use lib.ListN.{length, get_or, set, take, drop, replicate, length-set, length-append}
use lib.Seq.{get_or-set_same, get_or-set_other, take-suc, drop-cons}
use Rattle.std.proofs.lemmas.List.{append_assoc, append-nil, take-append-drop, length-take-le, get_or-take, set_at}
use Rattle.std.proofs.lemmas.Slice.{put_mid-paste}
use borrow.Rule.Slice.PartMut.{put_mid}
use native.Mathlib.Decide.{dec_le, dec_lt}
use lib.Dec.{eqb, ltb}
use borrow.Author.Tests.{eqb-true, eqb-false, eq-eqb, ne_eqb, lt-ltb, le-ltb}
use Rattle.std.specs.List.{count_by}
use Rattle.std.proofs.lemmas.List.Sums.{count_by_more_yes, count_by_more_no}
use Rattle.rules.specs.Names.{most_bids}
use Rattle.rules.specs.Lists.{pick, memb, sift, below}
use Rattle.laws_pot.specs.Lists.{case, clash, memb_in, in_memb, in_sift, sift_in, sift_same, in_below, below_in}
use Rattle.arrays.specs.Sets.{fill, placed, none, built, members}

pub eqb_sym : (a b : ℕ) → eqb a b ≡ eqb b a
eqb_sym a b = case (eqb a b) (λ t. rw (t, eq-eqb b a (sym (eqb-true a b t)))) (λ f. rw (f, ne_eqb b a (λ e. eqb-false a b f (sym e))))

-- one place written; and a place of a repeated value
pub put_is : {A : Type 0} (l : List A) (i k : ℕ) (v d : A) → i < length l → get_or (set l i v) k d ≡ pick (eqb k i) v (get_or l k d)
put_is l i k v d h =
    case (eqb k i)
    (λ t. let q = eqb-true k i t in rw (t, q) (get_or-set_same l i v d h))
    (λ f. rw f (get_or-set_other l i k v d (eqb-false k i f)))

pub at_start : {A : Type 0} (c i : ℕ) (v d : A) → i < c → get_or (replicate c v) i d ≡ v
at_start zero i v d h = absurd (omega arith)
at_start (suc c) zero v d h = refl
at_start (suc c) (suc i) v d h = at_start c i v d (omega arith)

pub pick_or : {A : Type 0} (a b : Bool) (x y : A) → pick a x (pick b x y) ≡ pick (a || b) x y
pick_or true b x y = refl
pick_or false b x y = refl

pub memb_sift : (f : ℕ → Bool) (i n : ℕ) → i < n → memb i (sift f (below n)) ≡ f i
memb_sift f i n h =
    case (f i) (λ t. rw t (in_memb (in_sift f (in_below i n h) t)))
    (λ g. rw g (case (memb i (sift f (below n))) (λ t. clash (sift_in i f (below n) (memb_in i (sift f (below n)) t)).1 g) (λ u. u)))

-- an array that is filled has at each place what its number gives
pub fill_length : {A : Type 0} (l : List A) (f : ℕ → A) (n : ℕ) → length (fill l f n) ≡ length l
unfolding fill
fill_length l f zero = refl
fill_length l f (suc n) = length-set (fill l f n) n (f n) ∙ fill_length l f n

pub fill_at : {A : Type 0} (l : List A) (f : ℕ → A) (n k : ℕ) (d : A) → n ≤ length l → k < n → get_or (fill l f n) k d ≡ f k
unfolding fill
fill_at l f zero k d h g = absurd (omega arith)
fill_at l f (suc n) k d h g =
    put_is (fill l f n) n k (f n) d (omega (arith, fill_length l f n))
    ∙ case (eqb k n) (λ t. rw (t, eqb-true k n t)) (λ u. let q = eqb-false k n u in rw u (fill_at l f n k d (omega arith) (omega arith)))

-- a place that is not filled yet; and one that holds its value already
pub fill_rest : {A : Type 0} (l : List A) (f : ℕ → A) (n k : ℕ) (d : A) → n ≤ k → get_or (fill l f n) k d ≡ get_or l k d
unfolding fill
fill_rest l f zero k d h = refl
fill_rest l f (suc n) k d h = get_or-set_other (fill l f n) n k (f n) d (λ e. omega arith) ∙ fill_rest l f n k d (omega arith)

-- every place of a blank array of which the first n are filled
pub fill_each : {A : Type 0} (l : List A) (f g : ℕ → A) (n : ℕ) (d : A) → n ≤ length l → ((k : ℕ) → get_or l k d ≡ d) → ((k : ℕ) → k < n → f k ≡ g k)
    → (k : ℕ) → get_or (fill l f n) k d ≡ pick (ltb k n) (g k) d
fill_each l f g n d h e q k =
    elim (dec_lt k n) [
      | yes y ↦ rw (lt-ltb k n y) (fill_at l f n k d h y ∙ q k y)
      | no z ↦ rw (le-ltb k n (omega (arith, z))) (fill_rest l f n k d (omega (arith, z)) ∙ e k)
    ]

set_same : {A : Type 0} (l : List A) (i : ℕ) (d : A) → i < length l → l ≡ set l i (get_or l i d)
set_same [] i d h = absurd (omega arith)
set_same (x ∷ l) zero d h = refl
set_same (x ∷ l) (suc i) d h = ap (λ t. x ∷ t) (set_same l i d (omega arith))

pub fill_stays : {A : Type 0} (l : List A) (f : ℕ → A) (n : ℕ) (d : A) {out : List A} → out ≡ fill l f n → n < length l → f n ≡ get_or l n d
    → out ≡ fill l f (n + 1)
unfolding fill
fill_stays l f n d e h v =
    e ∙ set_same (fill l f n) n d (omega (arith, fill_length l f n)) ∙ ap (set (fill l f n) n) (fill_rest l f n n d (omega arith) ∙ sym v)
    ∙ ap (λ (x : ℕ). fill l f x) (sym (add-one n))

-- and so do all those up to m
pub fill_rests : {A : Type 0} (l : List A) (f : ℕ → A) (n m : ℕ) (d : A) {out : List A} → out ≡ fill l f n → n ≤ m → m ≤ length l
    → ((i : ℕ) → n ≤ i → i < m → f i ≡ get_or l i d) → out ≡ fill l f m
fill_rests l f n zero d e h g v = e ∙ ap (fill l f) (omega arith)
fill_rests l f n (suc m) d e h g v =
    elim (dec_le n m) [
      | yes y ↦ fill_stays l f m d (fill_rests l f n m d e y (omega arith) (λ i a b. v i a (omega arith))) (omega arith) (v m y (omega arith))
          ∙ ap (fill l f) (add-one m)
      | no z ↦ e ∙ ap (fill l f) (omega (arith, z))
    ]

-- an array into which values are laid has these at their places, and all else as it was
pub placed_length : {A : Type 0} (f : ℕ → A) (l : List A) (at n : ℕ) → length (placed f l at n) ≡ length l
unfolding placed
placed_length f l at zero = refl
placed_length f l at (suc n) = length-set (placed f l at n) (at + n) (f n) ∙ placed_length f l at n

pub placed_at : {A : Type 0} (f : ℕ → A) (l : List A) (at n k : ℕ) (d : A) → at + n ≤ length l → k < n → get_or (placed f l at n) (at + k) d ≡ f k
unfolding placed
placed_at f l at zero k d h g = absurd (omega arith)
placed_at f l at (suc n) k d h g =
    put_is (placed f l at n) (at + n) (at + k) (f n) d (omega (arith, placed_length f l at n))
    ∙ case (eqb k n)
    (λ t. let q = eqb-true k n t in rw (q, eq-eqb (at + n) (at + n) refl))
    (λ u. let q = eqb-false k n u in rw (ne_eqb (at + k) (at + n) (λ e. q (omega arith))) (placed_at f l at n k d (omega arith) (omega arith)))

pub placed_other : {A : Type 0} (f : ℕ → A) (l : List A) (at n j : ℕ) (d : A) → ((k : ℕ) → k < n → j ≡ at + k → ⊥)
    → get_or (placed f l at n) j d ≡ get_or l j d
unfolding placed
placed_other f l at zero j d h = refl
placed_other f l at (suc n) j d h =
    get_or-set_other (placed f l at n) (at + n) j (f n) d (h n (omega arith)) ∙ placed_other f l at n j d (λ k g. h k (omega arith))

-- what is laid after the places that are filled fills on
pub placed_fill : {A : Type 0} (l : List A) (f g : ℕ → A) (at n : ℕ) → ((k : ℕ) → k < n → g k ≡ f (at + k)) → placed g (fill l f at) at n ≡ fill l f (at + n)
unfolding placed fill
placed_fill l f g at zero h = let e : at ≡ at + 0 = omega arith in ap (fill l f) e
placed_fill l f g at (suc n) h = rw (placed_fill l f g at n (λ k i. h k (omega arith)), h n (omega arith), add-suc at n)

-- a set has the members that its test says
pub members_built : (f : ℕ → Bool) (n : ℕ) → n ≤ most_bids → members (built f n) n ≡ sift f (below n)
unfolding members
members_built f n h = sift_same (λ i. get_or (built f n) i false) f (below n) (λ k i. fill_at none f n k false (size h) (below_in k n i))
  where
    size : n ≤ most_bids → n ≤ length none
    size h = unfold none in h

-- where no number is above q, no place is
pub fill_le : (l : List ℕ) (f : ℕ → ℕ) (q n i : ℕ) → n ≤ length l → ((j : ℕ) → j < n → f j ≤ q) → ((j : ℕ) → get_or l j 0 ≤ q) → get_or (fill l f n) i 0 ≤ q
unfolding fill
fill_le l f q zero i h b s = s i
fill_le l f q (suc n) i h b s =
    rw (put_is (fill l f n) n i (f n) 0 (omega (arith, fill_length l f n)))
    (case (eqb i n) (λ t. rw t (b n (omega arith))) (λ g. rw g (fill_le l f q n i (omega arith) (λ j k. b j (omega arith)) s)))

-- a repeated value, by what is read of it, past its end too
pub same_at : {A B : Type 0} (f : A → B) (n i : ℕ) (v d : A) → f v ≡ f d → f (get_or (replicate n v) i d) ≡ f d
same_at f zero i v d e = refl
same_at f (suc n) zero v d e = e
same_at f (suc n) (suc i) v d e = same_at f n i v d e

pub repeated : {A : Type 0} (n i : ℕ) (v : A) → get_or (replicate n v) i v ≡ v
repeated n i v = same_at (λ x. x) n i v v refl

pub zeros : (n i : ℕ) → ◌≡◌ {A = ℕ} (get_or (replicate n 0) i 0) 0
zeros n i = repeated n i 0

-- fewer places, fewer members
pub members_less : (l : List Bool) (n m : ℕ) → n ≤ m → length (members l n) ≤ length (members l m)
unfolding members
members_less l n zero h = let e : n ≡ 0 = omega arith in rw e (omega arith)
members_less l n (suc m) h =
    case (eqb n (suc m)) (λ t. rw (eqb-true n (suc m) t) (omega arith))
    (λ f. let r = members_less l n m (let d = eqb-false n (suc m) f in omega arith) in
    case (get_or l m false) (λ t. rw t (omega arith)) (λ u. rw u (omega arith)))

-- as many of the first n places of a set are taken as it has members below n
pub members_counted : (l : List Bool) (n : ℕ) → n ≤ length l → count_by (λ t. t) (take n l) ≡ length (members l n)
unfolding members
members_counted l zero h = refl
members_counted l (suc n) h =
    let r = members_counted l n (omega arith) in
    rw (← add-one n)
    (case (get_or l n false)
    (λ t. rw t (count_by_more_yes (λ t. t) l n false (omega arith) t ∙ ap (λ x. x + 1) r ∙ add-one (length (members l n))))
    (λ f. rw f (count_by_more_no (λ t. t) l n false (omega arith) f ∙ r)))

-- a row written over a part of an array is laid there
pasted : (l s : List ℕ) (at n : ℕ) → at + n ≤ length l → n ≤ length s → take at l ++ take n s ++ drop (at + n) l ≡ placed (λ c. get_or s c 0) l at n
unfolding placed
pasted l s at zero h g = let e : at + 0 ≡ at = omega arith in rw (e, append-nil (take at l)) (take-append-drop at l)
pasted l s at (suc n) h g =
    let p = take at l ++ take n s in
    let x = get_or s n 0 in
    let rest = drop (suc (at + n)) l in
    let size : length p ≡ at + n = omega (arith, length-append (take at l) (take n s), length-take-le at l, length-take-le n s) in
    let more : take (suc n) s ≡ take n s ++ (x ∷ []) = take-suc s n 0 g in
    let cut : drop (at + n) l ≡ get_or l (at + n) 0 ∷ rest = drop-cons l (at + n) 0 (omega arith) in
    rw (
      add-suc at n,
      more,
      ← append_assoc (take at l) (take n s) (x ∷ []),
      append_assoc p (x ∷ []) rest,
      ← set_at p (get_or l (at + n) 0) rest x (at + n) size,
      ← cut,
      pasted l s at n (omega arith) (omega arith),
    )

pub placed_over : (l s : List ℕ) (at k : ℕ) {part : List ℕ} → at + length s ≤ length l → k ≡ length s → part ≡ s
    → put_mid at k l part ≡ placed (λ c. get_or s c 0) l at (length s)
placed_over l s at k {part} h e ep = put_mid-paste at k l part s (length s) ep (sym e) refl ∙ pasted l s at (length s) h (omega arith)

-- and the first n values of a row
placed_same : (f g : ℕ → ℕ) (l : List ℕ) (at n : ℕ) → ((k : ℕ) → k < n → f k ≡ g k) → placed f l at n ≡ placed g l at n
unfolding placed
placed_same f g l at zero h = refl
placed_same f g l at (suc n) h = rw (placed_same f g l at n (λ k i. h k (omega arith)), h n (omega arith))

pub placed_part : (l s : List ℕ) (at n : ℕ) → n ≤ length s
    → placed (λ c. get_or (take n s) c 0) l at (length (take n s)) ≡ placed (λ c. get_or s c 0) l at n
placed_part l s at n h =
    rw (length-take-le n s h) (placed_same (λ c. get_or (take n s) c 0) (λ c. get_or s c 0) l at n (λ k i. get_or-take n s k 0 i))
