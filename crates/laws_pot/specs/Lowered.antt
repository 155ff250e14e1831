-- Two pots of which one has a single bid of an application at a lower price, to one that no other bid carries: what each takes, and what a look does. Assumes
-- nothing but what `Lowered` says of them.
use Prim.Native.Nat.{ℕ, ◌-◌, ◌%◌, ◌^◌, ◌≤◌, ◌<◌}
use Rattle.std.specs.Prelude.{◌≡◌, Bool, false}
use Rattle.std.proofs.Math.Path.{refl, ap}
use Rattle.std.proofs.Common.{sym, ◌∙◌, arith}
use Rattle.std.proofs.Math.Bool.{true}
use mathlib.Core.List.{List, [], ◌∷◌, ◌++◌}
use Rattle.std.proofs.Math.Option.{Option, none, some}
use Rattle.std.proofs.Math.ListN.{length}
use Rattle.std.proofs.Math.Dec.{eqb, leb}
use borrow.Author.Tests.{eqb-true, eqb-false, eq-eqb, ne_eqb, leb-true, leb-false}
use Rattle.rules.specs.Lists.{memb, sift, below}
use Rattle.laws_pot.specs.Lists.{case, clash, memb_join, In, here, there, memb_in, in_memb, in_none, memb_parts, sift_in, in_sift, sift_same, sift_sift}
use Rattle.rules.specs.Pot.{Pot, Trace, winners, seen, closed, value, price_from, clearing, tally, summed, total, summed_capacity, fits, live, least, lowest}
use Rattle.rules.specs.Pot.{taken, down, follows, at_place, rank, combination, remaining, fits_at, last_at, top_number, full, keeps, kept, number, chosen, choose}
use Rattle.rules.specs.Pot.{ways_of, drawn_after, tied, alone, lost, look}
use Rattle.laws_pot.specs.Taken.{least_le, least_met}
use Rattle.laws_pot.specs.Money.{fitting_same}
use Rattle.laws_pot.specs.Tie.{combination_in, best_same}
use Rattle.laws_pot.specs.Kept.{all_same}

-- the pot with other prices
abbrev pub priced : Pot → (ℕ → ℕ) → Pot
priced P pr = record {
  bids = P.bids;
  apps = P.apps;
  years = P.years;
  scale = P.scale;
  app = P.app;
  yr = P.yr;
  price = pr;
  cost = P.cost;
  budget = P.budget;
  draw = P.draw;
  admin = P.admin;
  capacity = P.capacity;
  cap = P.cap;
  drawn = P.drawn;
  admin_price = P.admin_price;
  admin_cost = P.admin_cost;
  app_capacity = P.app_capacity;
}

pub record Lowered (P : Pot) (b : ℕ) (pr : ℕ → ℕ) : Type 0 where
  pub once : sift (λ k. eqb k b) P.bids ≡ b ∷ []
  pub single : (c : ℕ) → In c P.bids → P.app c ≡ P.app b → c ≡ b
  pub same : (c : ℕ) → (c ≡ b → ⊥) → pr c ≡ P.price c
  pub less : pr b < P.price b
  pub alone : (c : ℕ) → In c P.bids → pr c ≡ pr b → c ≡ b

module _ (P : Pot) (b : ℕ) (pr : ℕ → ℕ) (W : Lowered P b pr) where
  abbrev pub Q : Pot
  Q = priced P pr

  pub other : (k : ℕ) (l : List ℕ) → In k l → memb b l ≡ false → k ≡ b → ⊥
  other k l i f e = clash (in_memb (subst_in e i)) f
    where
      subst_in : {k b : ℕ} {l : List ℕ} → k ≡ b → In k l → In b l
      subst_in e (here q) = here (sym e ∙ q)
      subst_in e (there i) = there (subst_in e i)

  -- ---- lists without b cost the same in both pots

  pub clearing_same : (ws : List ℕ) (d : ℕ) → memb b ws ≡ false → clearing Q ws d ≡ clearing P ws d
  unfolding price_from
  clearing_same [] d f = refl
  clearing_same (w ∷ ws) d f =
      rw (W.same w (other w (w ∷ ws) (here refl) f), clearing_same ws d (memb_parts b (w ∷ []) ws f).1)

  tally_same : (f : ℕ → ℕ → ℕ → ℕ) (on : ℕ → Bool) (at to : ℕ → ℕ) (y : ℕ) (bs : List ℕ) → ((d : ℕ) → at d ≡ to d) → tally Q f on at y bs ≡ tally P f on to y bs
  unfolding tally
  tally_same f on at to y [] h = refl
  tally_same f on at to y (w ∷ ws) h = rw (h (P.yr w), tally_same f on at to y ws h)

  summed_same : (f : ℕ → ℕ → ℕ → ℕ) (ws : List ℕ) (y : ℕ) → memb b ws ≡ false → summed Q f ws y ≡ summed P f ws y
  summed_same f ws y m = tally_same f (λ k. memb k ws) (clearing Q ws) (clearing P ws) y P.bids (λ d. clearing_same ws d m)

  total_same : (ws : List ℕ) (y : ℕ) → memb b ws ≡ false → total Q ws y ≡ total P ws y
  unfolding value
  total_same ws y f = summed_same (value P) ws y f

  fits_same : (ws : List ℕ) → memb b ws ≡ false → fits Q ws ≡ fits P ws
  fits_same ws f =
      fitting_same Q P (total Q ws) (total P ws) (summed_capacity Q ws) (summed_capacity P ws) refl refl (λ y. refl) (λ y. total_same ws y f)
      (summed_same (λ b p y. P.capacity b) ws 0 f)

  -- ---- what is taken: without b the same, as long as something live is cheaper than b's new price; and then b alone

  least_is : (R : Pot) (m x : ℕ) (l : List ℕ) (k : ℕ) → ((c : ℕ) → In c (x ∷ l) → m ≤ R.price c) → In k (x ∷ l) → R.price k ≡ m → least R x l ≡ m
  least_is R m x l k h i e = let r = least_met R x l in omega (arith, h r.0 r.1, r.2, least_le R k x l i)

  -- no price went up
  pub below_price : (c : ℕ) → pr c ≤ P.price c
  below_price c = case (eqb c b) (λ t. rw (eqb-true c b t) (omega (arith, W.less))) (λ f. omega (arith, W.same c (eqb-false c b f)))

  data Lowest (l : List ℕ) : Type 0 where
    as_before : (c : ℕ) → In c l → P.price c < pr b → lowest Q l ≡ lowest P l → memb b (lowest P l) ≡ false → Lowest l
    b_alone : lowest Q l ≡ b ∷ [] → Lowest l

  lowest_of_lem : (l : List ℕ) → ((c : ℕ) → In c l → In c P.bids) → In b l → sift (λ k. eqb k b) l ≡ b ∷ [] → Lowest l
  unfolding lowest
  lowest_of_lem [] h i o = in_none i
  lowest_of_lem (x ∷ l) h i o = case (leb (pr b) (least Q x l)) b_first (λ f. c_first (leb-false (pr b) (least Q x l) f))
    where
      b_first : leb (pr b) (least Q x l) ≡ true → Lowest (x ∷ l)
      b_first t =
          let m = leb-true (pr b) (least Q x l) t in
          let e : least Q x l ≡ pr b = least_is Q (pr b) x l b (λ c j. omega (arith, least_le Q c x l j)) i refl in
          b_alone (sift_same (λ k. eqb (pr k) (least Q x l)) (λ k. eqb k b) (x ∷ l) (λ k j.
          rw e (case (eqb k b)
          (λ u. rw u (eq-eqb (pr k) (pr b) (ap pr (eqb-true k b u))))
          (λ u. rw u (ne_eqb (pr k) (pr b) (λ q. eqb-false k b u (W.alone k (h k j) q)))))) ∙ o)

      c_first : least Q x l < pr b → Lowest (x ∷ l)
      c_first lt =
          let r = least_met Q x l in
          let c = r.0 in
          let z = r.2 in
          let n : c ≡ b → ⊥ = λ q. absurd (omega (arith, ap pr q)) in
          let e : least P x l ≡ least Q x l =
          least_is P (least Q x l) x l c (λ k j. omega (arith, least_le Q k x l j, below_price k)) r.1 (sym (W.same c n) ∙ z) in
          let tests : (k : ℕ) → In k (x ∷ l) → eqb (pr k) (least Q x l) ≡ eqb (P.price k) (least P x l) = λ k j.
          rw e (case (eqb k b)
          (λ u. let q = eqb-true k b u in
          rw (
            ne_eqb (pr k) (least Q x l) (λ w. absurd (omega (arith, ap pr q))),
            ne_eqb (P.price k) (least Q x l) (λ w. absurd (omega (arith, ap P.price q, W.less))),
          ))
          (λ u. rw (W.same k (eqb-false k b u)))) in
          as_before c r.1 (omega (arith, W.same c n))
          (sift_same (λ k. eqb (pr k) (least Q x l)) (λ k. eqb (P.price k) (least P x l)) (x ∷ l) tests)
          (case (memb b (lowest P (x ∷ l)))
          (λ t. let u =
          eqb-true (P.price b) (least P x l) (sift_in b (λ k. eqb (P.price k) (least P x l)) (x ∷ l) (memb_in b (lowest P (x ∷ l)) t)).1 in
          absurd (omega (arith, e, W.less)))
          (λ f. f))

  pub member : In b P.bids
  member = let i : In b (sift (λ k. eqb k b) P.bids) = rw W.once (here refl) in (sift_in b (λ k. eqb k b) P.bids i).0

  pub data Next (s : Trace) : Type 0 where
    the_same : (c : ℕ) → In c P.bids → live P s c ≡ true → P.price c < pr b → taken Q s ≡ taken P s → memb b (taken P s) ≡ false → Next s
    b_next : taken Q s ≡ b ∷ [] → Next s

  pub next : (s : Trace) → live P s b ≡ true → Next s
  unfolding taken live
  next s v =
      go (lowest_of_lem l (λ c i. (sift_in c (live P s) P.bids i).0) (in_sift (live P s) member v)
      (sift_sift (λ k. eqb k b) (live P s) P.bids (λ k t. rw (eqb-true k b t) v) ∙ W.once))
    where
      l : List ℕ
      l = sift (live P s) P.bids

      go : Lowest l → Next s
      go (as_before c i p e m) = let r = sift_in c (live P s) P.bids i in the_same c r.0 r.1 p e m
      go (b_alone e) = b_next e

  -- ---- what a look does, at bids without b

  pub data Looks (s : Trace) (l : List ℕ) : Type 0 where
    like : look Q s l ≡ look P s l → Looks s l
    hung : (c : ℕ) → In c l → look P s l ≡ down P c [] (P.yr c ∷ []) → look Q s l ≡ down P c (P.yr c ∷ []) []
        → follows P c (taken P (down P c [] [] ∷ s)) ≡ true → taken Q (down P c [] [] ∷ s) ≡ b ∷ [] → Looks s l

  pub live_down : (s : Trace) (c : ℕ) → (c ≡ b → ⊥) → live P s b ≡ true → live P (down P c [] [] ∷ s) b ≡ true
  unfolding live winners seen closed
  live_down s c n v = rw (ne_eqb b c (λ e. n (sym e))) v

  follows_b : (c : ℕ) → In c P.bids → (c ≡ b → ⊥) → follows Q c (b ∷ []) ≡ false
  unfolding follows
  follows_b c i n = rw (ne_eqb (P.app b) (P.app c) (λ e. n (W.single c i (sym e))))

  follows_same : (c : ℕ) (l : List ℕ) → follows Q c l ≡ follows P c l
  unfolding follows
  follows_same c [] = refl
  follows_same c (d ∷ []) = refl
  follows_same c (d ∷ e ∷ l) = refl

  apart_join : (a c : List ℕ) → memb b a ≡ false → memb b c ≡ false → memb b (a ++ c) ≡ false
  apart_join a c f g = memb_join b a c ∙ rw (f, g)

  combination_same : (r : List ℕ) (m : ℕ) → combination Q r m ≡ combination P r m
  unfolding combination rank
  combination_same r m = refl

  combination_free : (r : List ℕ) (k : ℕ) → memb b r ≡ false → memb b (combination P r k) ≡ false
  combination_free r k m = case (memb b (combination P r k)) (λ t. clash (in_memb (combination_in P b k r (memb_in b (combination P r k) t))) m) (λ f. f)

  module _ (ws r : List ℕ) (w : memb b ws ≡ false) (m : memb b r ≡ false) where
    free : (k : ℕ) → memb b (combination P r k ++ ws) ≡ false
    free k = apart_join (combination P r k) ws (combination_free r k m) w

    fits_at_same : (k : ℕ) → fits_at Q ws r k ≡ fits_at P ws r k
    fits_at_same k = ap (λ (l : List ℕ). fits Q (l ++ ws)) (combination_same r k) ∙ fits_same (combination P r k ++ ws) (free k)

    last_at_same : (k : ℕ) → last_at Q ws r k ≡ last_at P ws r k
    last_at_same k =
        ap (λ (l : List ℕ). total Q (l ++ ws) (P.years - 1)) (combination_same r k) ∙ total_same (combination P r k ++ ws) (P.years - 1) (free k)

    top_same : top_number Q ws r ≡ top_number P ws r
    unfolding top_number
    top_same = best_same _ _ _ _ (2 ^ length r) fits_at_same last_at_same

    full_same : (k : ℕ) → full Q ws r k ≡ full P ws r k
    unfolding full
    full_same k = rw (combination_same r k) (all_same _ _ r (λ c i.
        rw (fits_same (c ∷ (combination P r k ++ ws))
        (apart_join (c ∷ []) (combination P r k ++ ws) (rw (ne_eqb b c (λ e. other c r i m (sym e)))) (free k)))))

    keeps_same : (x k : ℕ) → keeps Q ws r x k ≡ keeps P ws r x k
    unfolding keeps
    keeps_same x k = rw (fits_at_same k, last_at_same k, full_same k)

    kept_same : kept Q ws r ≡ kept P ws r
    unfolding kept
    kept_same =
        rw (top_same, last_at_same (top_number P ws r))
        (sift_same (keeps Q ws r x) (keeps P ws r x) (below (2 ^ length r)) (λ k i. keeps_same x k))
      where
        x : ℕ
        x = last_at P ws r (top_number P ws r)

    number_same : (n : Option ℕ) → number Q n ws r ≡ number P n ws r
    unfolding number
    number_same none = top_same
    number_same (some n) = ap (λ (l : List ℕ). at_place (n % length l) l) kept_same

    chosen_same : (n : Option ℕ) → chosen Q n ws r ≡ chosen P n ws r
    unfolding chosen
    chosen_same n = combination_same r (number Q n ws r) ∙ ap (combination P r) (number_same n)

  remaining_same : (ws l : List ℕ) → memb b ws ≡ false → memb b l ≡ false → remaining Q ws l ≡ remaining P ws l
  unfolding remaining
  remaining_same ws l w m = sift_same (λ c. fits Q (c ∷ ws)) (λ c. fits P (c ∷ ws)) l (λ c i.
      fits_same (c ∷ ws) (apart_join (c ∷ []) ws (rw (ne_eqb b c (λ e. other c l i m (sym e)))) w))

  remaining_free : (ws l : List ℕ) → memb b l ≡ false → memb b (remaining P ws l) ≡ false
  unfolding remaining
  remaining_free ws l m =
      case (memb b (remaining P ws l)) (λ t. clash (in_memb (sift_in b (λ c. fits P (c ∷ ws)) l (memb_in b (remaining P ws l) t)).0) m) (λ f. f)

  choose_same : (n : Option ℕ) (ws l : List ℕ) → memb b ws ≡ false → memb b l ≡ false → choose Q n ws l ≡ choose P n ws l
  unfolding choose
  choose_same n ws l w m = ap (chosen Q n ws) (remaining_same ws l w m) ∙ chosen_same ws (remaining P ws l) w (remaining_free ws l m) n

  ways_same : (ws l : List ℕ) → memb b ws ≡ false → memb b l ≡ false → ways_of Q ws l ≡ ways_of P ws l
  unfolding ways_of
  ways_same ws l w m =
      ap (λ (r : List ℕ). length (kept Q ws r)) (remaining_same ws l w m) ∙ ap length (kept_same ws (remaining P ws l) w (remaining_free ws l m))

  tied_same : (s : Trace) (l : List ℕ) → memb b (winners s) ≡ false → memb b l ≡ false → tied Q s l ≡ tied P s l
  unfolding tied
  tied_same s l w m = rw (choose_same (drawn_after P s) (winners s) l w m, ways_same (winners s) l w m, remaining_same (winners s) l w m)

  lost_looks : (s : Trace) (l : List ℕ) → ((c : ℕ) → In c l → In c P.bids) → live P s b ≡ true → memb b (winners s) ≡ false → memb b l ≡ false
      → fits P (l ++ winners s) ≡ false → fits Q (l ++ winners s) ≡ false → Looks s l
  unfolding look lost alone
  lost_looks s [] h v w m f g = like (rw (f, g))
  lost_looks s (c ∷ []) h v w m f g = go (next (down P c [] [] ∷ s) (live_down s c n v))
    where
      n : c ≡ b → ⊥
      n = other c (c ∷ []) (here refl) m

      go : Next (down P c [] [] ∷ s) → Looks s (c ∷ [])
      go (the_same d i u p e z) = like (rw (f, g, e, follows_same c (taken P (down P c [] [] ∷ s))))
      go (b_next e) =
          case (follows P c (taken P (down P c [] [] ∷ s)))
          (λ t. hung c (here refl) (rw (f, t)) (rw (g, e, follows_b c (h c (here refl)) n)) t e)
          (λ t. like (rw (f, g, e, follows_b c (h c (here refl)) n, t)))
  lost_looks s (c ∷ d ∷ l) h v w m f g = like (rw (f, g) (tied_same s (c ∷ d ∷ l) w m))

  pub looks : (s : Trace) (l : List ℕ) → ((c : ℕ) → In c l → In c P.bids) → live P s b ≡ true → memb b (winners s) ≡ false → memb b l ≡ false → Looks s l
  unfolding look
  looks s l h v w m =
      let e : fits Q (l ++ winners s) ≡ fits P (l ++ winners s) = fits_same (l ++ winners s) (apart_join l (winners s) m w) in
      case (fits P (l ++ winners s)) (λ t. like (rw (e ∙ t, t))) (λ f. lost_looks s l h v w m f (e ∙ f))
