-- The third demand, of the trace of an auction. Assumes nothing but what is known of a pot's figures (`Lawful`).
use Rattle.std.specs.Prelude.{ℕ, ◌+◌, ◌*◌, ◌≤◌, ◌<◌, ◌≡◌, true, false, ◌⊎◌, List, ◌∷◌, map}
use Rattle.std.proofs.Common.{inl, inr, arith, mul-le-mul_right}
use Rattle.std.proofs.Math.Option.{some}
use Rattle.rules.specs.Lists.{memb}
use Rattle.laws_pot.specs.Lists.{clash, In}
use Rattle.rules.specs.Pot.{Pot, Event, Trace, winners, downs, seen, total, exact, counted, summed_capacity, live, auction, wide_end}
use Rattle.laws_pot.specs.Money.{sum_low, sum_high, Unfit, over_budget, over_cap, fits_true, fits_false}
use Rattle.laws_pot.specs.Mono.{Lawful}
use Rattle.laws_pot.specs.Runs.{Turned, now, before, Rest, has_won, cheaper, waits, Inv, inv_end, none_live}

module _ (P : Pot) where
  -- bids that cost, in some year, "more than the budget less one penny for each bid counted"; "or more capacity than the cap, exactly" (02, CR 5)
  pub data TooMuch (ws : List ℕ) : Type 0 where
    money : (y : ℕ) → y < P.years → P.budget y * P.scale < exact P ws y + counted P ws * P.scale → TooMuch ws
    capacity : (limit : ℕ) → P.cap ≡ some limit → limit < summed_capacity P ws → TooMuch ws

  -- c was turned down, and with all that had won by the end of that step it is too much
  pub data Dear (c : ℕ) : Trace → Type 0 where
    dear : {e : Event} {s : Trace} → In c e.downs → TooMuch (c ∷ winners (e ∷ s)) → Dear c (e ∷ s)
    later : {e : Event} {s : Trace} → Dear c s → Dear c (e ∷ s)

  -- the five sentences, of a trace that has come to its end
  pub record Meets (s : Trace) : Type 0 where
    -- 1: the winners, at the prices paid, cost exactly no more than the budget in any year
    pub affordable : (y : ℕ) → y < P.years → exact P (winners s) y ≤ P.budget y * P.scale
    -- 2 and 3: the total is not below that cost, and not above it by more than a penny a winner
    pub not_below : (y : ℕ) → exact P (winners s) y ≤ total P (winners s) y * P.scale
    pub not_above : (y : ℕ) → total P (winners s) y * P.scale ≤ exact P (winners s) y + counted P (winners s) * P.scale
    -- "adds that the winners stay within the cap" (02, CR 5)
    pub within_cap : (limit : ℕ) → P.cap ≡ some limit → summed_capacity P (winners s) ≤ limit
    -- 4: a bid turned down is dear
    pub turned_down : (c : ℕ) → In c (downs s) → Dear c s
    -- 5: a bid not looked at is of an application that won, or in a year in which a cheaper bid was turned down
    pub unlooked : (k : ℕ) → In k P.bids → memb k (seen s) ≡ false
        → (memb (P.app k) (map P.app (winners s)) ≡ true) ⊎ ((c : ℕ) × In c (downs s) × (P.yr c ≡ P.yr k) × (P.price c < P.price k))

  module _ (L : Lawful P) where
    too_much_lem : (ws : List ℕ) → Unfit P ws → TooMuch ws
    too_much_lem ws (over_budget y h l) = money y h (omega (arith, sum_high P L.pos ws y, mul-le-mul_right P.scale l, L.pos))
    too_much_lem ws (over_cap limit e l) = capacity limit e l

    dear_of : {c : ℕ} {s : Trace} → Turned P c s → Dear c s
    dear_of {c} (now {e} {s} i f) = dear {e = e} {s = s} i (too_much_lem _ (fits_false P (c ∷ winners (e ∷ s)) f))
    dear_of (before t) = later (dear_of t)

    meets : (s : Trace) → Inv P s → ((c : ℕ) → In c P.bids → live P s c ≡ false) → Meets s
    meets s I over = record {
      affordable =
          λ y h. omega (arith, sum_low P L.pos (winners s) y, mul-le-mul_right P.scale ((fits_true P (winners s) I.fit).budget y h));
      not_below = sum_low P L.pos (winners s);
      not_above = sum_high P L.pos (winners s);
      within_cap = (fits_true P (winners s) I.fit).cap;
      turned_down = λ c i. dear_of (I.turned c i);
      unlooked = λ k h f. go k h (I.rest k h f);
    }
      where
        go : (k : ℕ) → In k P.bids → Rest P s k → (memb (P.app k) (map P.app (winners s)) ≡ true)
            ⊎ ((c : ℕ) × In c (downs s) × (P.yr c ≡ P.yr k) × (P.price c < P.price k))
        go k h (has_won t) = inl t
        go k h (cheaper c i q p) = inr (c, i, q, p)
        go k h (waits v) = clash v (over k h)

    -- Demand 3, of every pot that no tie too wide ended
    pub demand_3 : wide_end (auction P) ≡ false → Meets (auction P)
    demand_3 n = meets (auction P) (inv_end P L) (none_live P L n)
