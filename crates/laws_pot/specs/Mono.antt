-- Adding winners, and raising prices, never lowers a total or the summed capacity. Assumes nothing.
use Rattle.std.specs.Prelude.{ℕ, ◌+◌, ◌-◌, ◌≤◌, ◌<◌, ◌≡◌, refl, Bool, true, false, eqb}
use Rattle.std.proofs.Common.{sym, ap, le-div_iff_mul-le, div-mul-le_self, le_trans}
use Rattle.std.proofs.Math.Logic.{⊎_elim}
use mathlib.Core.List.{List, [], ◌∷◌, ◌++◌}
use native.Mathlib.Omega.{arith}
use Rattle.std.proofs.lemmas.Bool.{eqb-false}
use Rattle.rules.specs.Lists.{memb}
use Rattle.laws_pot.specs.Lists.{split, In, here, there, memb_in, in_memb, in_none, in_tail, in_right, case, clash}
use Rattle.rules.specs.Pot.{Pot, value, price_from, clearing, tally, summed, total, summed_capacity, fits}
use Rattle.laws_pot.specs.Money.{Fit, fits_true, fit_fits}

-- What is known of a pot's figures. Two bids at one price are of two applications (refusal 8), and these have two draws (refusal 6)
pub record Lawful (P : Pot) : Type 0 where
  pub pos : 0 < P.scale
  pub apart : (c d : ℕ) → In c P.bids → In d P.bids → P.price c ≡ P.price d → P.draw c ≡ P.draw d → c ≡ d
  pub mono : (b p q y : ℕ) → p ≤ q → P.cost b p y ≤ P.cost b q y

-- what is summed over winners does not fall where prices rise
abbrev pub Rising : (ℕ → ℕ → ℕ → ℕ) → Type 0
Rising f = (b p q y : ℕ) → p ≤ q → f b p y ≤ f b q y

-- the winners vs cost no less than ws in any year, and have no less capacity
pub record Dearer (P : Pot) (ws vs : List ℕ) : Type 0 where
  pub money : (y : ℕ) → total P ws y ≤ total P vs y
  pub capacity : summed_capacity P ws ≤ summed_capacity P vs

-- a cheaper or shorter list of winners fits where a dearer one does
pub fits_less : (P : Pot) (ws vs : List ℕ) → Dearer P ws vs → fits P ws ≡ false → fits P vs ≡ false
fits_less P ws vs D e = case (fits P vs) (λ t. clash (less (fits_true P vs t)) e) (λ f. f)
  where
    less : Fit P vs → fits P ws ≡ true
    less F = fit_fits P ws (record {
      budget = λ y h. omega (arith, F.budget y h, D.money y);
      cap = λ limit q. omega (arith, F.cap limit q, D.capacity);
    })

module _ (P : Pot) where
  -- no clearing price is above all prices
  pub price_below : (z q : ℕ) (ws : List ℕ) (d : ℕ) → z ≤ q → ((w : ℕ) → In w ws → P.price w ≤ q) → price_from P z ws d ≤ q
  unfolding price_from
  price_below z q [] d l h = l
  price_below z q (w ∷ ws) d l h = case (eqb (P.yr w) d) (λ t. rw t (h w (here refl))) (λ f. rw f (price_below z q ws d l (λ v i. h v (there i))))

  pub clearing_below : (q : ℕ) (ws : List ℕ) (d : ℕ) → ((w : ℕ) → In w ws → P.price w ≤ q) → clearing P ws d ≤ q
  clearing_below q ws d h = price_below 0 q ws d (omega arith) h

  -- more winners, none cheaper than the clearing prices, raise the prices
  pub clearing_more : (ns ws : List ℕ) (d : ℕ) → ((a : ℕ) → In a ns → clearing P ws d ≤ P.price a) → clearing P ws d ≤ clearing P (ns ++ ws) d
  unfolding price_from
  clearing_more [] ws d h = omega arith
  clearing_more (a ∷ ns) ws d h =
      ⊎_elim (λ t. rw t (h a (here refl))) (λ f. rw f (clearing_more ns ws d (λ v i. h v (there i)))) (split (eqb (P.yr a) d))

  -- the clearing price of a year in which bids, all at one price, have just won is that price
  pub clearing_new : (q : ℕ) (ns ws : List ℕ) (w : ℕ) → ((a : ℕ) → In a ns → P.price a ≡ q) → In w ns → clearing P (ns ++ ws) (P.yr w) ≡ q
  unfolding price_from
  clearing_new q [] ws w h i = in_none i
  clearing_new q (a ∷ ns) ws w h i =
      case (eqb (P.yr a) (P.yr w)) (λ t. rw t (h a (here refl)))
      (λ f. rw f (⊎_elim
      (λ e. absurd (eqb-false (P.yr a) (P.yr w) f (ap P.yr (sym e)))) (λ j. clearing_new q ns ws w (λ v k. h v (there k)) j) (in_tail i)))

  -- more bids, at higher prices, sum to no less
  tally_mono : (f : ℕ → ℕ → ℕ → ℕ) → Rising f → (on more : ℕ → Bool) (at up : ℕ → ℕ) (y : ℕ) (bs : List ℕ) → ((b : ℕ) → on b ≡ true → more b ≡ true)
      → ((d : ℕ) → at d ≤ up d) → tally P f on at y bs ≤ tally P f more up y bs
  unfolding tally
  tally_mono f r on more at up y [] h k = omega arith
  tally_mono f r on more at up y (b ∷ bs) h k =
      let z = tally_mono f r on more at up y bs h k in
      case (on b) (λ t. rw (t, h b t) (omega (arith, r b (at (P.yr b)) (up (P.yr b)) y (k (P.yr b))))) (λ g. rw g (omega arith))

  summed_mono : (f : ℕ → ℕ → ℕ → ℕ) → Rising f → (ws vs : List ℕ) (y : ℕ) → ((b : ℕ) → In b ws → In b vs) → ((d : ℕ) → clearing P ws d ≤ clearing P vs d)
      → summed P f ws y ≤ summed P f vs y
  summed_mono f r ws vs y h k =
      tally_mono f r (λ b. memb b ws) (λ b. memb b vs) (clearing P ws) (clearing P vs) y P.bids (λ b t. in_memb (h b (memb_in b ws t))) k

module _ (P : Pot) (L : Lawful P) where
  pub value_mono : (b p q y : ℕ) → p ≤ q → value P b p y ≤ value P b q y
  unfolding value
  value_mono b p q y h = (le-div_iff_mul-le L.pos).1
      (le_trans (div-mul-le_self (P.cost b p y + (P.scale - 1)) P.scale) (omega (arith, L.mono b p q y h)))

  -- more winners, at higher prices
  pub dearer : (ws vs : List ℕ) → ((b : ℕ) → In b ws → In b vs) → ((d : ℕ) → clearing P ws d ≤ clearing P vs d) → Dearer P ws vs
  dearer ws vs h k = record {
    money = λ y. summed_mono P (value P) value_mono ws vs y h k;
    capacity = summed_mono P (λ b p y. P.capacity b) (λ b p q y l. omega arith) ws vs 0 h k;
  }

  -- c added to the winners ws is no less where the bids ns, at the clearing prices or above, have won as well
  pub dearer_more : (c : ℕ) (ns ws : List ℕ) → ((a d : ℕ) → In a ns → clearing P ws d ≤ P.price a) → Dearer P (c ∷ ws) (c ∷ (ns ++ ws))
  unfolding price_from
  dearer_more c ns ws h =
      dearer (c ∷ ws) (c ∷ (ns ++ ws))
      (λ b i. ⊎_elim (λ e. here e) (λ j. there (in_right ns j)) (in_tail i))
      (λ d. case (eqb (P.yr c) d) (λ t. rw t (omega arith)) (λ f. rw f (clearing_more P ns ws d (λ a i. h a d i))))
