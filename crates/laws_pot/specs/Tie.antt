-- Combinations of tied bids and their numbers: what they come to hangs on their members alone, and the best of them, with the largest number, fits and leaves
-- no other bid that could be added. Assumes nothing.
use Rattle.std.specs.Prelude.{ℕ, zero, suc, ◌+◌, ◌-◌, ◌^◌, ◌≤◌, ◌<◌, ◌≡◌, Bool, true, false, ◌&&◌, ◌⊎◌, eqb, leb}
use Rattle.std.proofs.Math.Path.{refl, sym, ap}
use Rattle.std.proofs.Common.{◌∙◌, inl, inr, arith, pow_pos}
use Rattle.std.proofs.Math.Logic.{⊎_elim}
use mathlib.Core.List.{List, [], ◌∷◌, ◌++◌, map}
use Rattle.std.proofs.Math.ListN.{length}
use Rattle.std.proofs.Math.Dec.{ltb}
use borrow.Author.Tests.{eqb-true, eqb-false, eq-eqb, ne_eqb, leb-true, leb-false, lt-ltb, le-ltb, ltb-true, ltb-false}
use Rattle.rules.specs.Lists.{memb, pick, sift}
use Rattle.laws_pot.specs.Lists.{case, clash, and_true, and_false, In, here, there, memb_in, in_memb, in_tail, in_left, in_right, in_cases, in_map}
use Rattle.laws_pot.specs.Lists.{map_in, sift_in, in_sift, sift_le, sift_less}
use Rattle.rules.specs.Pot.{Pot, value, price_from, clearing, tally, summed, summed_capacity, total, fits, has, rank, combination, best, fits_at, last_at}
use Rattle.rules.specs.Pot.{top_number}
use Rattle.laws_pot.specs.Bits.{has_none, add_lt, add_adds, add_other}
use Rattle.laws_pot.specs.Money.{fitting_same}
use Rattle.laws_pot.specs.Mono.{Lawful, Dearer, dearer}

-- two lists with the same members
pub record Alike (a b : List ℕ) : Type 0 where
  pub to : (k : ℕ) → In k a → In k b
  pub back : (k : ℕ) → In k b → In k a

pub memb_alike : {a b : List ℕ} (k : ℕ) → Alike a b → memb k a ≡ memb k b
memb_alike {a} {b} k A =
    case (memb k a) (λ t. t ∙ sym (in_memb (A.to k (memb_in k a t))))
    (λ f. case (memb k b) (λ u. clash (in_memb (A.back k (memb_in k b u))) f) (λ g. f ∙ sym g))

pub alike_join : {a b : List ℕ} (c : List ℕ) → Alike a b → Alike (a ++ c) (b ++ c)
alike_join {a} {b} c A = record {
  to = λ k i. ⊎_elim (λ j. in_left c (A.to k j)) (λ j. in_right b j) (in_cases a c i);
  back = λ k i. ⊎_elim (λ j. in_left c (A.back k j)) (λ j. in_right a j) (in_cases b c i);
}

pub alike_map : (f : ℕ → ℕ) {a b : List ℕ} → Alike a b → Alike (map f a) (map f b)
alike_map f {a} {b} A = record {
  to = λ k i. let r = map_in f a i in rw r.2 (in_map f (A.to r.0 r.1));
  back = λ k i. let r = map_in f b i in rw r.2 (in_map f (A.back r.0 r.1));
}

-- ---- the best number

pub record Best (ok : ℕ → Bool) (tot : ℕ → ℕ) (n r : ℕ) : Type 0 where
  pub fit : ok r ≡ true
  pub small : r ≤ n - 1
  pub top : (m : ℕ) → m < n → ok m ≡ true → (tot m < tot r) ⊎ ((tot m ≤ tot r) × (m ≤ r))

pub best_is : (ok : ℕ → Bool) (tot : ℕ → ℕ) → ok 0 ≡ true → (n : ℕ) → Best ok tot n (best ok tot n)
unfolding best
best_is ok tot z zero = record { fit = z; small = omega arith; top = λ m h t. absurd (omega arith) }
best_is ok tot z (suc n) = go (best_is ok tot z n)
  where
    go : {r : ℕ} → Best ok tot n r → Best ok tot (suc n) (pick (ok n && leb (tot r) (tot n)) n r)
    go {r} B =
        case (ok n && leb (tot r) (tot n))
        (λ t.
        let a = and_true (ok n) (leb (tot r) (tot n)) t in
        let le = leb-true (tot r) (tot n) a.1 in
        rw t (record {
          fit = a.0;
          small = omega arith;
          top = λ m h u. case (eqb m n)
              (λ e. let q = eqb-true m n e in inr (rw q (omega arith), omega arith))
              (λ e. let d = eqb-false m n e in ⊎_elim (λ v. inl (omega arith)) (λ v. inr (omega arith)) (B.top m (omega arith) u));
        }))
        (λ f. rw f (record {
          fit = B.fit;
          small = omega (arith, B.small);
          top = λ m h u. case (eqb m n)
              (λ e. let q = eqb-true m n e in
              ⊎_elim (λ v. clash (ap ok (sym q) ∙ u) v) (λ v. let w = leb-false (tot r) (tot n) v in inl (rw q w)) (and_false (ok n) (leb (tot r) (tot n)) f))
              (λ e. let d = eqb-false m n e in B.top m (omega arith) u);
        }))

module _ (P : Pot) where
  -- ---- the ranks

  -- of two members the lower draw has the higher rank
  rank_order : (r : List ℕ) (c d : ℕ) → In d r → P.draw c < P.draw d → rank P r d < rank P r c
  unfolding rank
  rank_order r c d i h =
      sift_less (λ x. ltb (P.draw c) (P.draw x)) (λ x. ltb (P.draw d) (P.draw x))
      (λ k t. lt-ltb (P.draw c) (P.draw k) (omega (arith, ltb-true (P.draw d) (P.draw k) t))) i
      (lt-ltb (P.draw c) (P.draw d) h) (le-ltb (P.draw d) (P.draw d) (omega arith))

  rank_apart : (r : List ℕ) (c d : ℕ) → In c r → In d r → rank P r c ≡ rank P r d → P.draw c ≡ P.draw d
  rank_apart r c d i j e =
      case (ltb (P.draw c) (P.draw d))
      (λ t. absurd (omega (arith, rank_order r c d j (ltb-true (P.draw c) (P.draw d) t))))
      (λ f. case (ltb (P.draw d) (P.draw c))
      (λ t. absurd (omega (arith, rank_order r d c i (ltb-true (P.draw d) (P.draw c) t))))
      (λ g. omega (arith, ltb-false (P.draw c) (P.draw d) f, ltb-false (P.draw d) (P.draw c) g)))

  pub rank_lt : (r : List ℕ) (c : ℕ) → In c r → rank P r c < length r
  unfolding rank
  rank_lt r c i = go i
    where
      go : {l : List ℕ} → In c l → length (sift (λ x. ltb (P.draw c) (P.draw x)) l) < length l
      go (here {x} {xs} e) = rw (le-ltb (P.draw c) (P.draw x) (omega (arith, ap P.draw e))) (omega (arith, sift_le (λ x. ltb (P.draw c) (P.draw x)) xs))
      go (there {x} {xs} j) =
          let h = go j in
          case (ltb (P.draw c) (P.draw x)) (λ t. rw t (omega arith)) (λ f. rw f (omega arith))

  -- ---- combinations

  pub combination_in : (c m : ℕ) (r : List ℕ) → In c (combination P r m) → In c r
  unfolding combination
  combination_in c m r i = (sift_in c (λ b. has m (rank P r b)) r i).0

  pub combination_none : (r : List ℕ) → combination P r 0 ≡ []
  unfolding combination
  combination_none r = go r
    where
      go : (l : List ℕ) → sift (λ b. has 0 (rank P r b)) l ≡ []
      go [] = refl
      go (x ∷ l) = rw (has_none (rank P r x), go l)

  -- a bid that is left out can be put in: that is a larger number
  module _ (r : List ℕ) (m c : ℕ) (ap : (a : ℕ) → In a r → P.draw a ≡ P.draw c → a ≡ c) (i : In c r) (f : memb c (combination P r m) ≡ false) where
    free : has m (rank P r c) ≡ false
    unfolding combination
    free = case (has m (rank P r c)) (λ t. clash (in_memb (in_sift (λ b. has m (rank P r b)) i t)) f) (λ g. g)

    same_place : (k : ℕ) → In k r → (k ≡ c → ⊥) → has (m + 2 ^ rank P r c) (rank P r k) ≡ has m (rank P r k)
    same_place k j n = add_other m (rank P r c) (rank P r k) free (λ e. n (ap k j (rank_apart r k c j i e)))

    pub with_one : Alike (combination P r (m + 2 ^ rank P r c)) (c ∷ combination P r m)
    unfolding combination
    with_one = record {
      to = λ k j.
          let z = sift_in k (λ b. has (m + 2 ^ rank P r c) (rank P r b)) r j in
          case (eqb k c) (λ t. here (eqb-true k c t))
          (λ u. there (in_sift (λ b. has m (rank P r b)) z.0 (sym (same_place k z.0 (eqb-false k c u)) ∙ z.1)));
      back = λ k j. ⊎_elim
          (λ e. rw e (in_sift (λ b. has (m + 2 ^ rank P r c) (rank P r b)) i (add_adds m (rank P r c) free)))
          (λ q.
          let z = sift_in k (λ b. has m (rank P r b)) r q in
          case (eqb k c)
          (λ t. rw (eqb-true k c t) (in_sift (λ b. has (m + 2 ^ rank P r c) (rank P r b)) i (add_adds m (rank P r c) free)))
          (λ u. in_sift (λ b. has (m + 2 ^ rank P r c) (rank P r b)) z.0 (same_place k z.0 (eqb-false k c u) ∙ z.1)))
          (in_tail j);
    }

    more : m < 2 ^ length r → (n : ℕ) × (m < n) × (n < 2 ^ length r) × Alike (combination P r n) (c ∷ combination P r m)
    more h = (m + 2 ^ rank P r c, omega (arith, pow_pos (rank P r c)), add_lt m (rank P r c) (length r) free (rank_lt r c i) h, with_one)

  -- ---- what a list of winners costs hangs on its members alone, where the new ones are at one price

  clearing_one : (q : ℕ) (ns ws : List ℕ) (d : ℕ) → ((a : ℕ) → In a ns → P.price a ≡ q)
      → clearing P (ns ++ ws) d ≡ pick (memb d (map P.yr ns)) q (clearing P ws d)
  unfolding price_from
  clearing_one q [] ws d h = refl
  clearing_one q (a ∷ ns) ws d h =
      case (eqb (P.yr a) d)
      (λ t. rw (t, eq-eqb d (P.yr a) (sym (eqb-true (P.yr a) d t))) (h a (here refl)))
      (λ f. rw (f, ne_eqb d (P.yr a) (λ e. eqb-false (P.yr a) d f (sym e))) (clearing_one q ns ws d (λ b i. h b (there i))))

  pub clearing_alike : (q : ℕ) (a b ws : List ℕ) (d : ℕ) → Alike a b → ((x : ℕ) → In x b → P.price x ≡ q) → clearing P (a ++ ws) d ≡ clearing P (b ++ ws) d
  clearing_alike q a b ws d A h =
      clearing_one q a ws d (λ x i. h x (A.to x i)) ∙ ap (λ (t : Bool). pick t q (clearing P ws d)) (memb_alike d (alike_map P.yr A))
      ∙ sym (clearing_one q b ws d h)

  pub tally_same : (f : ℕ → ℕ → ℕ → ℕ) (on in' : ℕ → Bool) (at to : ℕ → ℕ) (y : ℕ) (bs : List ℕ) → ((b : ℕ) → In b bs → on b ≡ in' b)
      → ((b : ℕ) → In b bs → on b ≡ true → at (P.yr b) ≡ to (P.yr b))
      → tally P f on at y bs ≡ tally P f in' to y bs
  unfolding tally
  tally_same f on in' at to y [] h k = refl
  tally_same f on in' at to y (b ∷ bs) h k =
      let r = tally_same f on in' at to y bs (λ c i. h c (there i)) (λ c i. k c (there i)) in
      case (on b) (λ t. rw (t, sym (h b (here refl)) ∙ t, k b (here refl) t, r)) (λ g. rw (g, sym (h b (here refl)) ∙ g, r))

  summed_alike : (f : ℕ → ℕ → ℕ → ℕ) (q : ℕ) (a b ws : List ℕ) (y : ℕ) → Alike a b → ((x : ℕ) → In x b → P.price x ≡ q)
      → summed P f (a ++ ws) y ≡ summed P f (b ++ ws) y
  summed_alike f q a b ws y A h =
      tally_same f (λ k. memb k (a ++ ws)) (λ k. memb k (b ++ ws)) (clearing P (a ++ ws)) (clearing P (b ++ ws)) y P.bids
      (λ k i. memb_alike k (alike_join ws A)) (λ k i t. clearing_alike q a b ws (P.yr k) A h)

  -- so whether they fit does as well
  pub fits_alike : (q : ℕ) (a b ws : List ℕ) → Alike a b → ((x : ℕ) → In x b → P.price x ≡ q) → fits P (a ++ ws) ≡ fits P (b ++ ws)
  fits_alike q a b ws A h =
      fitting_same P P (total P (a ++ ws)) (total P (b ++ ws)) (summed_capacity P (a ++ ws)) (summed_capacity P (b ++ ws)) refl refl (λ y. refl)
      (λ y. summed_alike (value P) q a b ws y A h) (summed_alike (λ b p y. P.capacity b) q a b ws 0 A h)

  clearing_joined : (q : ℕ) (ns ws : List ℕ) (d : ℕ) → ((a : ℕ) → In a ns → P.price a ≡ q) → clearing P ws d ≤ q → clearing P (ns ++ ws) d ≤ q
  unfolding price_from
  clearing_joined q [] ws d h k = k
  clearing_joined q (n ∷ ns) ws d h k =
      case (eqb (P.yr n) d) (λ t. rw t (omega (arith, h n (here refl)))) (λ f. rw f (clearing_joined q ns ws d (λ a i. h a (there i)) k))

  module _ (L : Lawful P) where
    -- one more bid, no cheaper than the clearing prices, never lowers a total
    grows : (c : ℕ) (vs : List ℕ) → ((d : ℕ) → clearing P vs d ≤ P.price c) → Dearer P vs (c ∷ vs)
    unfolding price_from
    grows c vs h = dearer P L vs (c ∷ vs) (λ b i. there i) (λ d. case (eqb (P.yr c) d) (λ t. rw t (h d)) (λ f. rw f (omega arith)))

    -- the best of the remaining bids r
    module _ (ws r : List ℕ) (w : fits P ws ≡ true) where
      pub top_best : Best (fits_at P ws r) (last_at P ws r) (2 ^ length r) (top_number P ws r)
      unfolding top_number
      top_best = best_is (fits_at P ws r) (last_at P ws r) (rw (combination_none r) w) (2 ^ length r)

      pub top_small : top_number P ws r < 2 ^ length r
      top_small = omega (arith, top_best.small, pow_pos (length r))

      -- where they are at one price, no lower than the clearing prices, none can be added
      module _ (q c : ℕ) (pq : (a : ℕ) → In a r → In a P.bids × (P.price a ≡ q)) (cl : (d : ℕ) → clearing P ws d ≤ q) (i : In c r) where
        most_of : (k : ℕ) → Best (fits_at P ws r) (last_at P ws r) (2 ^ length r) k → memb c (combination P r k) ≡ false
            → fits P (c ∷ (combination P r k ++ ws)) ≡ false
        most_of k B f =
            case (fits P (c ∷ (combination P r k ++ ws)))
            (λ t. ⊎_elim
            (λ (u : last_at P ws r n < last_at P ws r k).
            absurd (omega (
              arith,
              summed_alike (value P) q (combination P r n) (c ∷ combination P r k) ws (P.years - 1) z.3 at,
              (grows c (combination P r k ++ ws) (λ d.
                  omega (arith, (pq c i).1, clearing_joined q (combination P r k) ws d (λ a j. (pq a (combination_in a k r j)).1) (cl d)))).money (P.years - 1),
            )))
            (λ u. absurd (omega (arith, z.1, u.1)))
            (B.top n z.2 (fits_alike q (combination P r n) (c ∷ combination P r k) ws z.3 at ∙ t)))
            (λ g. g)
          where
            z : (n : ℕ) × (k < n) × (n < 2 ^ length r) × Alike (combination P r n) (c ∷ combination P r k)
            z = more r k c (λ a j e. L.apart a c (pq a j).0 (pq c i).0 ((pq a j).1 ∙ sym (pq c i).1) e) i f (omega (arith, B.small, pow_pos (length r)))

            n : ℕ
            n = z.0

            at : (x : ℕ) → In x (c ∷ combination P r k) → P.price x ≡ q
            at x j = ⊎_elim (λ e. ap P.price e ∙ (pq c i).1) (λ h. (pq x (combination_in x k r h)).1) (in_tail j)

        pub top_most : memb c (combination P r (top_number P ws r)) ≡ false → fits P (c ∷ (combination P r (top_number P ws r) ++ ws)) ≡ false
        top_most f = most_of (top_number P ws r) top_best f

-- two listings that agree have one best
pub best_same : (f g : ℕ → Bool) (t u : ℕ → ℕ) (n : ℕ) → ((m : ℕ) → f m ≡ g m) → ((m : ℕ) → t m ≡ u m) → best f t n ≡ best g u n
unfolding best
best_same f g t u zero h k = refl
best_same f g t u (suc n) h k = rw (h n, k n, best_same f g t u n h k, k (best g u n))
