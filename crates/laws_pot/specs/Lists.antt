-- Lists of numbers with tests that compute, and the facts of their members. Assumes nothing.
--   split b            a test is true or false, with the equation: `⊎_elim (λ t. ..) (λ f. ..) (split b)` is a case split inside a term
--   In k l             k stands in l: a data type, so that k and l are found where a proof of it is given (a type that computes would not show them)
--   memb, keep, sift   membership, and the members that pass a test, as functions
use Rattle.std.specs.Prelude.{ℕ, zero, suc, ◌≤◌, ◌<◌, ◌≡◌, refl, Bool, true, false, not, ◌&&◌, ◌||◌, ◌⊎◌, List, [], ◌∷◌, ◌++◌, map, length, eqb}
use Rattle.std.proofs.Common.{sym, ap, ◌∙◌, true≢false, inl, inr, ⊎_elim, arith, eqb-true, eq-eqb}
use Rattle.rules.specs.Lists.{pick, memb, keep, sift, below}
use Rattle.std.proofs.lemmas.Bool.{eqb-false}

abbrev pub split : (b : Bool) → (b ≡ true) ⊎ (b ≡ false)
split true = inl refl
split false = inr refl

-- a case split on a test, the test first: so that the equation's type is known in both arms
abbrev pub case : {A : Type 0} (b : Bool) → (b ≡ true → A) → (b ≡ false → A) → A
case true f g = f refl
case false f g = g refl

-- what holds of both arms of a pick holds of the pick
pub pick_all : {A : Type 0} (Q : A → Type 0) (b : Bool) (x y : A) → (b ≡ true → Q x) → (b ≡ false → Q y) → Q (pick b x y)
pick_all Q true x y f g = f refl
pick_all Q false x y f g = g refl

pub clash : {A : Type 0} {b : Bool} → b ≡ true → b ≡ false → A
clash t f = absurd (true≢false (sym t ∙ f))

pub and_true : (a b : Bool) → (a && b) ≡ true → (a ≡ true) × (b ≡ true)
and_true true b e = (refl, e)
and_true false b e = clash e refl

pub and_false : (a b : Bool) → (a && b) ≡ false → (a ≡ false) ⊎ (b ≡ false)
and_false true b e = inr e
and_false false b e = inl refl

pub and_none : (b : Bool) → (b && false) ≡ false
and_none true = refl
and_none false = refl

pub not_is_true : (a : Bool) → not a ≡ true → a ≡ false
not_is_true true e = clash e refl
not_is_true false e = refl

pub not_is_false : (a : Bool) → not a ≡ false → a ≡ true
not_is_false true e = refl
not_is_false false e = clash refl e

pub or_none : (b : Bool) → (b || false) ≡ b
or_none true = refl
or_none false = refl

pub or_cases : (a b : Bool) → (a || b) ≡ true → (a ≡ true) ⊎ (b ≡ true)
or_cases true b e = inl refl
or_cases false b e = inr e

pub or_right : (a b : Bool) → b ≡ true → (a || b) ≡ true
or_right true b e = refl
or_right false b e = e

pub or_left : (a b : Bool) → a ≡ true → (a || b) ≡ true
or_left true b e = refl
or_left false b e = clash e refl

-- k stands in the list
pub data In (k : ℕ) : List ℕ → Type 0 where
  here : {x : ℕ} {xs : List ℕ} → k ≡ x → In k (x ∷ xs)
  there : {x : ℕ} {xs : List ℕ} → In k xs → In k (x ∷ xs)

pub in_none : {A : Type 0} {k : ℕ} → In k [] → A
in_none i = absurd (elim i [ ])

pub memb_in : (k : ℕ) (l : List ℕ) → memb k l ≡ true → In k l
memb_in k [] e = clash e refl
memb_in k (x ∷ xs) e = ⊎_elim (λ t. here (eqb-true k x t)) (λ t. there (memb_in k xs t)) (or_cases (eqb k x) (memb k xs) e)

pub in_memb : {k : ℕ} {l : List ℕ} → In k l → memb k l ≡ true
in_memb {k} (here {x} {xs} e) = or_left (eqb k x) (memb k xs) (eq-eqb k x e)
in_memb {k} (there {x} {xs} i) = or_right (eqb k x) (memb k xs) (in_memb i)

pub in_left : {k : ℕ} {a : List ℕ} (b : List ℕ) → In k a → In k (a ++ b)
in_left b (here e) = here e
in_left b (there i) = there (in_left b i)

pub in_right : {k : ℕ} (a : List ℕ) {b : List ℕ} → In k b → In k (a ++ b)
in_right [] i = i
in_right (x ∷ a) i = there (in_right a i)

pub in_cases : {k : ℕ} (a b : List ℕ) → In k (a ++ b) → In k a ⊎ In k b
in_cases [] b i = inr i
in_cases (x ∷ a) b (here e) = inl (here e)
in_cases (x ∷ a) b (there i) = ⊎_elim (λ j. inl (there j)) (λ j. inr j) (in_cases a b i)

pub in_map : {k : ℕ} (f : ℕ → ℕ) {l : List ℕ} → In k l → In (f k) (map f l)
in_map f (here e) = here (ap f e)
in_map f (there i) = there (in_map f i)

pub map_in : {y : ℕ} (f : ℕ → ℕ) (l : List ℕ) → In y (map f l) → (k : ℕ) × In k l × (y ≡ f k)
map_in f [] i = in_none i
map_in f (x ∷ l) (here e) = (x, here refl, e)
map_in f (x ∷ l) (there i) = let r = map_in f l i in (r.0, there r.1, r.2)

pub sift_in : (k : ℕ) (f : ℕ → Bool) (l : List ℕ) → In k (sift f l) → In k l × (f k ≡ true)
sift_in k f [] i = in_none i
sift_in k f (x ∷ l) i = go (sift_in k f l) (f x) refl i
  where
    go : (In k (sift f l) → In k l × (f k ≡ true)) → (b : Bool) → f x ≡ b → In k (keep b x (sift f l)) → In k (x ∷ l) × (f k ≡ true)
    go ih true t (here e) = (here e, ap f e ∙ t)
    go ih true t (there j) = (there (ih j).0, (ih j).1)
    go ih false t j = (there (ih j).0, (ih j).1)

pub in_sift : {k : ℕ} (f : ℕ → Bool) {l : List ℕ} → In k l → f k ≡ true → In k (sift f l)
in_sift f (here {x} e) t = rw (sym (ap f e) ∙ t) (here e)
in_sift f (there {x} {xs} i) t = ⊎_elim (λ u. rw u (there (in_sift f i t))) (λ u. rw u (in_sift f i t)) (split (f x))

pub in_below : (k n : ℕ) → k < n → In k (below n)
in_below k zero h = absurd (omega arith)
in_below k (suc n) h = ⊎_elim (λ e. here (eqb-true k n e)) (λ f. let d = eqb-false k n f in there (in_below k n (omega arith))) (split (eqb k n))

pub below_in : (k n : ℕ) → In k (below n) → k < n
below_in k zero i = in_none i
below_in k (suc n) (here e) = omega arith
below_in k (suc n) (there i) = let h = below_in k n i in omega arith

pub in_one : {c b : ℕ} → In c (b ∷ []) → c ≡ b
in_one (here e) = e
in_one (there i) = in_none i

pub in_tail : {c b : ℕ} {l : List ℕ} → In c (b ∷ l) → (c ≡ b) ⊎ In c l
in_tail (here e) = inl e
in_tail (there i) = inr i

pub memb_parts : (k : ℕ) (a b : List ℕ) → memb k (a ++ b) ≡ false → (memb k a ≡ false) × (memb k b ≡ false)
memb_parts k a b f = (
  ⊎_elim (λ t. clash (in_memb (in_left b (memb_in k a t))) f) (λ g. g) (split (memb k a)),
  ⊎_elim (λ t. clash (in_memb (in_right a (memb_in k b t))) f) (λ g. g) (split (memb k b)),
)

pub memb_map_more : (y : ℕ) (f : ℕ → ℕ) (a b : List ℕ) → memb y (map f b) ≡ true → memb y (map f (a ++ b)) ≡ true
memb_map_more y f a b t = let r = map_in f b (memb_in y (map f b) t) in rw r.2 (in_memb (in_map f (in_right a r.1)))

pub length_below : (n : ℕ) → length (below n) ≡ n
length_below zero = refl
length_below (suc n) = ap suc (length_below n)

pub sift_le : (f : ℕ → Bool) (l : List ℕ) → length (sift f l) ≤ length l
sift_le f [] = omega arith
sift_le f (x ∷ l) = let h = sift_le f l in ⊎_elim (λ t. rw t (omega arith)) (λ t. rw t (omega arith)) (split (f x))

-- a test that passes less keeps no more
pub sift_fewer : (f g : ℕ → Bool) (l : List ℕ) → ((k : ℕ) → g k ≡ true → f k ≡ true) → length (sift g l) ≤ length (sift f l)
sift_fewer f g [] h = omega arith
sift_fewer f g (x ∷ l) h =
    let r = sift_fewer f g l h in
    case (g x) (λ t. rw (t, h x t) (omega arith)) (λ t. case (f x) (λ u. rw (t, u) (omega arith)) (λ u. rw (t, u) (omega arith)))

-- and keeps fewer, where one that passed does not any more
pub sift_less : (f g : ℕ → Bool) {b : ℕ} {l : List ℕ} → ((k : ℕ) → g k ≡ true → f k ≡ true) → In b l
    → f b ≡ true → g b ≡ false → length (sift g l) < length (sift f l)
sift_less f g {b} h (here {x} {xs} e) t u = rw (sym (ap g e) ∙ u, sym (ap f e) ∙ t) (omega (arith, sift_fewer f g xs h))
sift_less f g h (there {x} {xs} i) t u =
    let r = sift_less f g h i t u in
    case (g x) (λ p. rw (p, h x p) (omega arith)) (λ p. case (f x) (λ q. rw (p, q) (omega arith)) (λ q. rw (p, q) (omega arith)))

pub in_length : {b : ℕ} {l : List ℕ} → In b l → 0 < length l
in_length (here e) = omega arith
in_length (there i) = omega arith

-- two tests that agree keep the same
pub sift_same : (f g : ℕ → Bool) (l : List ℕ) → ((k : ℕ) → In k l → f k ≡ g k) → sift f l ≡ sift g l
sift_same f g [] h = refl
sift_same f g (x ∷ l) h = rw (h x (here refl), sift_same f g l (λ k i. h k (there i)))

-- a test within another
pub sift_sift : (f g : ℕ → Bool) (l : List ℕ) → ((k : ℕ) → f k ≡ true → g k ≡ true) → sift f (sift g l) ≡ sift f l
sift_sift f g [] h = refl
sift_sift f g (x ∷ l) h =
    let r = sift_sift f g l h in
    case (f x) (λ t. rw (t, h x t, t, r)) (λ u. rw u (case (g x) (λ t. rw (t, u, r)) (λ t. rw (t, r))))

-- one test after another is both
pub sift_both : (f g : ℕ → Bool) (l : List ℕ) → sift f (sift g l) ≡ sift (λ b. g b && f b) l
sift_both f g [] = refl
sift_both f g (x ∷ l) = case (g x) (λ t. rw (t, sift_both f g l)) (λ u. rw (u, sift_both f g l))

pub memb_join : (k : ℕ) (a b : List ℕ) → memb k (a ++ b) ≡ (memb k a || memb k b)
memb_join k [] b = refl
memb_join k (x ∷ a) b = case (eqb k x) (λ t. rw t) (λ f. rw (f, memb_join k a b))

pub memb_map_join : (k : ℕ) (f : ℕ → ℕ) (a b : List ℕ) → memb k (map f (a ++ b)) ≡ (memb k (map f a) || memb k (map f b))
memb_map_join k f [] b = refl
memb_map_join k f (x ∷ a) b = case (eqb k (f x)) (λ t. rw t) (λ g. rw (g, memb_map_join k f a b))
