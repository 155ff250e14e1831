-- What is live, and what a step takes: all live bids at the lowest live price. Assumes nothing.
use Prim.Native.Nat.{ℕ, ◌≤◌, ◌<◌}
use Rattle.std.specs.Prelude.{◌≡◌, false, not, ◌⊎◌, leb}
use Rattle.std.proofs.Math.Path.{refl}
use Rattle.std.proofs.Math.Bool.{Bool, true}
use Rattle.std.proofs.Math.Logic.{inl, inr, ⊎_elim}
use mathlib.Core.List.{List, [], ◌∷◌, map}
use Rattle.std.proofs.Common.{arith}
use Rattle.std.proofs.Math.Dec.{eqb}
use borrow.Author.Tests.{eqb-true, eqb-false, eq-eqb, leb-true, leb-false}
use Rattle.rules.specs.Lists.{memb, sift}
use Rattle.laws_pot.specs.Lists.{split, and_true, and_false, not_is_true, not_is_false, In, here, there, memb_in, in_none, sift_in, in_sift}
use Rattle.rules.specs.Pot.{Pot, Trace, winners, seen, closed, live, least, lowest, taken}

module _ (P : Pot) where
  -- the three parts of being live, as facts
  pub record Live (s : Trace) (b : ℕ) : Type 0 where
    pub fresh : memb b (seen s) ≡ false
    pub free : memb (P.app b) (map P.app (winners s)) ≡ false
    pub opened : memb (P.yr b) (closed s) ≡ false

  pub live_is : (s : Trace) (b : ℕ) → live P s b ≡ true → Live s b
  unfolding live
  live_is s b e =
      let r = and_true (not (memb b (seen s))) _ e in
      let q = and_true (not (memb (P.app b) (map P.app (winners s)))) (not (memb (P.yr b) (closed s))) r.1 in
      record { fresh = not_is_true _ r.0; free = not_is_true _ q.0; opened = not_is_true _ q.1 }

  pub is_live : (s : Trace) (b : ℕ) → Live s b → live P s b ≡ true
  unfolding live
  is_live s b l = rw (l.fresh, l.free, l.opened)

  -- why a bid is not live
  pub data Dead (s : Trace) (b : ℕ) : Type 0 where
    looked : In b (seen s) → Dead s b
    app_won : memb (P.app b) (map P.app (winners s)) ≡ true → Dead s b
    year_closed : In (P.yr b) (closed s) → Dead s b

  pub not_live : (s : Trace) (b : ℕ) → live P s b ≡ false → Dead s b
  unfolding live
  not_live s b e =
      ⊎_elim (λ f. looked (memb_in b (seen s) (not_is_false _ f)))
      (λ g. ⊎_elim (λ f. app_won (not_is_false _ f)) (λ f. year_closed (memb_in (P.yr b) (closed s) (not_is_false _ f)))
      (and_false (not (memb (P.app b) (map P.app (winners s)))) (not (memb (P.yr b) (closed s))) g))
      (and_false (not (memb b (seen s))) _ e)

  pub least_le : (c x : ℕ) (l : List ℕ) → In c (x ∷ l) → least P x l ≤ P.price c
  unfolding least
  least_le c x [] (here e) = rw e (omega arith)
  least_le c x [] (there i) = in_none i
  least_le c x (y ∷ l) (here e) = rw e (omega arith)
  least_le c x (y ∷ l) (there i) = omega (arith, least_le c y l i)

  pub least_met : (x : ℕ) (l : List ℕ) → (b : ℕ) × In b (x ∷ l) × (P.price b ≡ least P x l)
  unfolding least
  least_met x [] = (x, here refl, refl)
  least_met x (y ∷ l) =
      let r = least_met y l in
      ⊎_elim
      (λ t. (x, here refl, omega (arith, leb-true (P.price x) (least P y l) t)))
      (λ f. (r.0, there r.1, omega (arith, leb-false (P.price x) (least P y l) f)))
      (split (leb (P.price x) (least P y l)))

  -- l is what stands at the lowest price `low` among those that pass a test
  pub record Lows (s : Trace) (l : List ℕ) : Type 0 where
    pub low : ℕ
    pub sound : (b : ℕ) → In b l → In b P.bids × (live P s b ≡ true) × (P.price b ≡ low)
    pub whole : (c : ℕ) → In c P.bids → live P s c ≡ true → In c l ⊎ (low < P.price c)
    pub some : (c : ℕ) → In c P.bids → live P s c ≡ true → (b : ℕ) × In b l

  pub taken_lows : (s : Trace) → Lows s (taken P s)
  unfolding taken lowest
  taken_lows s = go (sift (live P s) P.bids) (λ b. sift_in b (live P s) P.bids) (λ c h t. in_sift (live P s) h t)
    where
      go : (l : List ℕ) → ((b : ℕ) → In b l → In b P.bids × (live P s b ≡ true))
          → ((c : ℕ) → In c P.bids → live P s c ≡ true → In c l) → Lows s (lowest P l)
      go [] f g = record { low = 0; sound = λ b i. in_none i; whole = λ c h t. in_none (g c h t); some = λ c h t. in_none (g c h t) }
      go (x ∷ l) f g =
          let m = least P x l in
          let test : ℕ → Bool = λ b. eqb (P.price b) m in
          record {
            low = m;
            sound = λ b i.
                let r = sift_in b test (x ∷ l) i in
                ((f b r.0).0, (f b r.0).1, eqb-true (P.price b) m r.1);
            whole = λ c h t.
                ⊎_elim (λ e. inl (in_sift test (g c h t) e)) (λ e. let d = eqb-false (P.price c) m e in inr (omega (arith, least_le c x l (g c h t))))
                (split (eqb (P.price c) m));
            some = λ c h t. let r = least_met x l in (r.0, in_sift test r.1 (eq-eqb (P.price r.0) m r.2));
          }
