-- The combinations that a tie keeps and draws among (02, CR 6): there is always one, the choice of document 01 is one of them, each is taken by some drawn
-- number, and whichever is taken fits and leaves no other tied bid that could be added. Assumes nothing.
use Prim.Native.Nat.{ℕ, zero, suc, ◌%◌, ◌^◌, ◌≤◌, ◌<◌}
use Rattle.std.specs.Prelude.{◌≡◌, refl, Bool, true, false, ◌||◌, ◌⊎◌, eqb, ltb}
use Rattle.std.proofs.Common.{sym, ◌∙◌, inl, inr, arith, mod-lt, mod-eq_of_lt}
use Rattle.std.proofs.Math.Path.{ap, subst}
use Rattle.std.proofs.Math.Bool.{not}
use Rattle.std.proofs.Math.Logic.{⊎_elim}
use mathlib.Core.List.{List, [], ◌∷◌, ◌++◌}
use Rattle.std.proofs.Math.Option.{Option, none, some}
use Rattle.std.proofs.Math.ListN.{length}
use borrow.Author.Tests.{eqb-true, eqb-false, eq-eqb, ne_eqb, lt-ltb, le-ltb}
use Rattle.rules.specs.Lists.{memb, sift, below}
use Rattle.rules.specs.Pot.{Pot, clearing, fits, best, all, at_place, combination, remaining, last_at, top_number, full, keeps, kept, number, chosen, choose}
use Rattle.rules.specs.Pot.{ways_of}
use Rattle.laws_pot.specs.Lists.{case, clash, and_true, or_cases, or_right, not_is_true, In, here, there, in_none, in_tail, in_below, below_in}
use Rattle.laws_pot.specs.Lists.{in_length, sift_in, in_sift, sift_same}
use Rattle.laws_pot.specs.Mono.{Lawful, fits_less, dearer_more}
use Rattle.laws_pot.specs.Steps.{Choice}
use Rattle.laws_pot.specs.Tie.{combination_in, combination_none, top_best, top_small, top_most}

-- ---- every one of a list
pub all_true : (f : ℕ → Bool) (l : List ℕ) → ((c : ℕ) → In c l → f c ≡ true) → all f l ≡ true
unfolding all
all_true f [] h = refl
all_true f (x ∷ l) h = rw (h x (here refl)) (all_true f l (λ c i. h c (there i)))

pub true_all : (f : ℕ → Bool) (l : List ℕ) → all f l ≡ true → (c : ℕ) → In c l → f c ≡ true
unfolding all
true_all f [] t c i = in_none i
true_all f (x ∷ l) t c i = let z = and_true (f x) (all f l) t in ⊎_elim (λ e. ap f e ∙ z.0) (λ j. true_all f l z.1 c j) (in_tail i)

pub all_same : (f g : ℕ → Bool) (l : List ℕ) → ((c : ℕ) → In c l → f c ≡ g c) → all f l ≡ all g l
unfolding all
all_same f g [] h = refl
all_same f g (x ∷ l) h = rw (h x (here refl), all_same f g l (λ c i. h c (there i)))

-- those that a test drops all pass
all_sift : (f g : ℕ → Bool) (l : List ℕ) → ((c : ℕ) → In c l → g c ≡ false → f c ≡ true) → all f l ≡ all f (sift g l)
unfolding all
all_sift f g [] h = refl
all_sift f g (x ∷ l) h =
    let r = all_sift f g l (λ c i. h c (there i)) in
    case (g x) (λ t. rw (t, r)) (λ u. rw (u, h x (here refl) u) r)

-- ---- the one at a place; and the place of each
at_place_in : (k : ℕ) (l : List ℕ) → k < length l → In (at_place k l) l
unfolding at_place
at_place_in k [] h = absurd (omega arith)
at_place_in k (x ∷ l) h =
    case (eqb (length l) k) (λ t. rw t (here refl)) (λ f. let d = eqb-false (length l) k f in rw f (there (at_place_in k l (omega arith))))

at_place_or : (k : ℕ) (l : List ℕ) → In (at_place k l) l ⊎ (at_place k l ≡ 0)
unfolding at_place
at_place_or k [] = inr refl
at_place_or k (x ∷ l) =
    case (eqb (length l) k) (λ t. rw t (inl (here refl))) (λ f. rw f (⊎_elim (λ i. inl (there i)) (λ e. inr e) (at_place_or k l)))

place_of : (m : ℕ) (l : List ℕ) → In m l → (k : ℕ) × (k < length l) × (at_place k l ≡ m)
unfolding at_place
place_of m [] i = elim i [ ]
place_of m (x ∷ l) (here e) = (length l, omega arith, rw (eq-eqb (length l) (length l) refl) (sym e))
place_of m (x ∷ l) (there i) =
    let z = place_of m l i in
    (z.0, omega (arith, z.1), rw (ne_eqb (length l) z.0 (λ e. let no : ⊥ = omega (arith, z.1) in no)) z.2)

-- "in order .. from the smallest": the one at place k of those below n that pass a test has k smaller ones, which pass as well
module _ (f : ℕ → Bool) where
  at_place_low : (k n : ℕ) → k < length (sift f (below n)) → at_place k (sift f (below n)) < n
  at_place_low k n h = below_in _ n (sift_in _ f (below n) (at_place_in k (sift f (below n)) h)).0

  all_smaller : (n x : ℕ) → n ≤ x → sift (λ j. ltb j x) (sift f (below n)) ≡ sift f (below n)
  all_smaller n x h = sift_same (λ j. ltb j x) (λ j. true) (sift f (below n)) (λ j i. lt-ltb j x (omega (arith, below_in j n (sift_in j f (below n) i).0)))
      ∙ sift_all (sift f (below n))
    where
      sift_all : (l : List ℕ) → sift (λ j. true) l ≡ l
      sift_all [] = refl
      sift_all (x ∷ l) = ap (λ (s : List ℕ). x ∷ s) (sift_all l)

  pub in_order : (k n : ℕ) → k < length (sift f (below n)) → length (sift (λ j. ltb j (at_place k (sift f (below n)))) (sift f (below n))) ≡ k
  unfolding at_place
  in_order k zero h = absurd (omega arith)
  in_order k (suc n) h =
      let l = sift f (below n) in
      case (f n)
      (λ t. rw t (case (eqb (length l) k)
      (λ e. subst (λ (x : ℕ). length (sift (λ j. ltb j x) (n ∷ l)) ≡ k) (sym (let at : at_place k (n ∷ l) ≡ n = rw e refl in at))
      (rw (le-ltb n n (omega arith), all_smaller n n (omega arith)) (eqb-true (length l) k e)))
      (λ u.
      let low : k < length l = omega (arith, eqb-false (length l) k u, rw t at h) in
      subst (λ (x : ℕ). length (sift (λ j. ltb j x) (n ∷ l)) ≡ k) (sym (let at : at_place k (n ∷ l) ≡ at_place k l = rw u refl in at))
      (rw (le-ltb n (at_place k l) (omega (arith, at_place_low k n low))) (in_order k n low)))))
      (λ u. rw u (in_order k n (rw u at h)))

-- ---- what is kept of the bids r that remain beside the winners ws
module _ (P : Pot) (ws r : List ℕ) where
  pub record Kept (m : ℕ) : Type 0 where
    pub small : m < 2 ^ length r
    pub fit : fits P (combination P r m ++ ws) ≡ true
    pub best : last_at P ws r m ≡ last_at P ws r (top_number P ws r)
    pub full : (c : ℕ) → In c r → memb c (combination P r m) ≡ false → fits P (c ∷ (combination P r m ++ ws)) ≡ false

  pub kept_is : (m : ℕ) → In m (kept P ws r) → Kept m
  unfolding kept keeps full
  kept_is m i =
      let z = sift_in m (keeps P ws r (last_at P ws r (top_number P ws r))) (below (2 ^ length r)) i in
      let a = and_true (fits P (combination P r m ++ ws)) _ z.1 in
      let b = and_true (eqb (last_at P ws r m) (last_at P ws r (top_number P ws r))) _ a.1 in
      record {
        small = below_in m (2 ^ length r) z.0;
        fit = a.0;
        best = eqb-true (last_at P ws r m) (last_at P ws r (top_number P ws r)) b.0;
        full = λ c j f. ⊎_elim (λ t. clash t f) (λ t. not_is_true _ t) (or_cases (memb c (combination P r m)) _ (true_all _ r b.1 c j));
      }

  -- every kept combination is chosen by some drawn number, and by one below their count, which the four bytes of a file hold
  pub each_drawn : (m : ℕ) → In m (kept P ws r) → (d : ℕ) × (d < length (kept P ws r)) × (number P (some d) ws r ≡ m)
  unfolding number
  each_drawn m i = let z = place_of m (kept P ws r) i in (z.0, z.1, ap (λ (k : ℕ). at_place k (kept P ws r)) (mod-eq_of_lt z.1) ∙ z.2)

  -- which is chosen depends on the drawn number by its place alone
  pub by_place : (d e : ℕ) → d % length (kept P ws r) ≡ e % length (kept P ws r) → number P (some d) ws r ≡ number P (some e) ws r
  unfolding number
  by_place d e q = ap (λ (k : ℕ). at_place k (kept P ws r)) q

  module _ (L : Lawful P) (w : fits P ws ≡ true) where
    -- what is chosen fits
    pub number_fits : (d : Option ℕ) → fits P (combination P r (number P d ws r) ++ ws) ≡ true
    unfolding number
    number_fits none = (top_best P L ws r w).fit
    number_fits (some d) =
        ⊎_elim (λ i. (kept_is (at_place _ (kept P ws r)) i).fit)
        (λ e. ap (λ (m : ℕ). fits P (combination P r m ++ ws)) e ∙ ap (λ (l : List ℕ). fits P (l ++ ws)) (combination_none P r) ∙ w)
        (at_place_or (d % length (kept P ws r)) (kept P ws r))

    module _ (q : ℕ) (pq : (a : ℕ) → In a r → In a P.bids × (P.price a ≡ q)) (cl : (d : ℕ) → clearing P ws d ≤ q) where
      -- the choice of document 01 is one of those kept
      pub top_kept : In (top_number P ws r) (kept P ws r)
      unfolding kept keeps full
      top_kept =
          in_sift (keeps P ws r (last_at P ws r (top_number P ws r))) (in_below (top_number P ws r) (2 ^ length r) (top_small P L ws r w))
          (rw ((top_best P L ws r w).fit, eq-eqb (last_at P ws r (top_number P ws r)) (last_at P ws r (top_number P ws r)) refl)
          (all_true _ r (λ c i. case (memb c (combination P r (top_number P ws r))) (λ t. rw t) (λ f. rw (f, top_most P L ws r w q c pq cl i f)))))

      -- "If there are m": there is one
      pub some_way : 0 < length (kept P ws r)
      some_way = in_length top_kept

      -- whatever is drawn, what is chosen is one of those kept; and without a drawn number too
      pub number_kept : (d : Option ℕ) → In (number P d ws r) (kept P ws r)
      unfolding number
      number_kept none = top_kept
      number_kept (some d) = at_place_in (d % length (kept P ws r)) (kept P ws r) (mod-lt d some_way)

-- where none remain the empty combination is the one kept
pub none_remain : (P : Pot) (ws : List ℕ) → fits P ws ≡ true → kept P ws [] ≡ 0 ∷ []
unfolding kept keeps full all top_number combination best
none_remain P ws w = rw (w, eq-eqb (last_at P ws [] 0) (last_at P ws [] 0) refl)

-- "no other tied bid": one that was dropped, since it does not fit alone, can be added to no combination, so that it is all one whether it is asked
module _ (P : Pot) (L : Lawful P) (q : ℕ) (ws l : List ℕ) (pq : (a : ℕ) → In a l → P.price a ≡ q) (cl : (d : ℕ) → clearing P ws d ≤ q) where
  dropped : (m c : ℕ) → fits P (c ∷ ws) ≡ false → fits P (c ∷ (combination P (remaining P ws l) m ++ ws)) ≡ false
  unfolding remaining
  dropped m c = fits_less P (c ∷ ws) (c ∷ (combination P (remaining P ws l) m ++ ws)) (dearer_more P L c (combination P (remaining P ws l) m) ws (λ a d j.
      omega (arith, cl d, pq a (sift_in a (λ c. fits P (c ∷ ws)) l (combination_in P a m (remaining P ws l) j)).0)))

  abbrev barred : (m c : ℕ) → Bool
  barred m c = memb c (combination P (remaining P ws l) m) || not (fits P (c ∷ (combination P (remaining P ws l) m ++ ws)))

  pub taken_or_remaining : (m : ℕ) → all (barred m) l ≡ full P ws (remaining P ws l) m
  unfolding full remaining
  taken_or_remaining m =
      all_sift (barred m) (λ c. fits P (c ∷ ws)) l (λ c i f. or_right (memb c (combination P (remaining P ws l) m)) _ (ap not (dropped m c f)))

-- ---- the choice that a step makes
pub choice_of_lem : (P : Pot) → Lawful P → Choice P
unfolding choose remaining chosen ways_of
choice_of_lem P L = record {
  among = λ d ws l c i. back ws l c (combination_in P c _ (remaining P ws l) i);
  fit = λ d ws l w. number_fits P ws (remaining P ws l) L w d;
  most = λ d ws l q c w pq cl i f.
      case (fits P (c ∷ ws))
      (λ t.
      let r = remaining P ws l in
      inr ((kept_is P ws r (number P d ws r) (number_kept P ws r L w q (λ a j. pq a (back ws l a j)) cl d)).full c (in_sift (λ c. fits P (c ∷ ws)) i t) f))
      (λ g. inl g);
  some = λ ws l q w pq cl. some_way P ws (remaining P ws l) L w q (λ a j. pq a (back ws l a j)) cl;
}
  where
    back : (ws l : List ℕ) (c : ℕ) → In c (remaining P ws l) → In c l
    back ws l c i = (sift_in c (λ c. fits P (c ∷ ws)) l i).0
