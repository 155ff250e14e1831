-- "No bid means no bid" (02, CR 8): what the result's bytes tell of an application without a sealed bid, and the automatic reason of one with. Assumes nothing.
use Prim.Native.Nat.{ℕ, ◌<◌}
use Rattle.std.specs.Prelude.{◌≡◌, refl, true, ◌&&◌, List, [], ◌∷◌, map}
use Rattle.std.proofs.Common.{sym, ◌∙◌}
use Rattle.std.proofs.Math.Path.{ap}
use Rattle.std.proofs.Math.Dec.{eqb}
use borrow.Author.Tests.{eqb-true, eq-eqb}
use Rattle.rules.specs.Names.{administrative, auctioned, too_wide, no_bid, no_reason, because_administrative, because_too_wide, because_silent}
use Rattle.rules.specs.Lists.{memb}
use Rattle.rules.specs.File.{Round, round_of, app_at, bid_at}
use Rattle.rules.specs.Pot.{Pot, winners, auction, outcome, silent, automatic_reason, winners_of}
use Rattle.rules.specs.Round.{tech_of, pot_of}
use Rattle.rules.specs.Result.{told, told_in, app_told, refused_as, clear_of}
use Rattle.laws_pot.specs.Lists.{clash, and_true, not_is_true, In, here, in_memb, in_map, sift_in}
use Rattle.rules.specs.declared.Told.{Told}
use Rattle.laws_pot.specs.Reasons.{by_all, administrative_is, auctioned_is, wide_is}
use Rattle.laws_reading.specs.Reading.{Sound, app_tech, tech_pot, bid_app}
use Rattle.laws_round.specs.Bids.{app_pot, bid_pot, mine_own, app_mine_lem, admin_price_is, silent_none, silent_some}
use Rattle.laws_round.specs.Read.{outcome_at, told_at, Carries}
use Rattle.laws_round.specs.Answers.{filled}
use Rattle.laws_round.specs.Demanded.{carried}

-- "an application without a sealed bid"
abbrev pub Unheard : Round → ℕ → Type 0
Unheard R a = (k : ℕ) → k < R.b → (bid_at R.bids k).app ≡ a → ⊥

-- what the bytes s tell of application a, by the outcome of its pot
pub record SilentTold (R : Round) (s : List ℕ) (a : ℕ) : Type 0 where
  -- "it is lost with automatic reason 8 in outcome 1"
  pub lost : outcome_at R s (app_pot R a) ≡ auctioned → told_at R s a ≡ record { won = 0; bid = no_bid; reason = because_silent; paid = 0 }
  -- "and keeps 7 in outcome 2"
  pub kept : outcome_at R s (app_pot R a) ≡ too_wide → told_at R s a ≡ record { won = 0; bid = no_bid; reason = because_too_wide; paid = 0 }
  -- "and in outcome 0 it wins", at its administrative price
  pub wins : outcome_at R s (app_pot R a) ≡ administrative
      → told_at R s a
      ≡ record { won = 1; bid = no_bid; reason = because_administrative; paid = (tech_of R (app_at R.apps a)).admin (app_at R.apps a).year }

empty : (l : List ℕ) → ((k : ℕ) → In k l → ⊥) → l ≡ []
empty [] h = refl
empty (x ∷ l) h = absurd (h x (here refl))

-- ---- of every pot

module _ (P : Pot) (a : ℕ) (q : silent P a ≡ true) where
  -- no bid of the pot is its own, so none of its bids won
  no_winner : winners_of P a ≡ []
  unfolding winners_of silent
  no_winner =
      empty (winners_of P a) (λ w i.
      let z = sift_in w (λ w. eqb (P.app w) a && memb w (winners (auction P))) P.bids i in
      let e = eqb-true (P.app w) a (and_true (eqb (P.app w) a) (memb w (winners (auction P))) z.1).0 in
      clash (in_memb (rw e at (in_map P.app z.0))) (not_is_true (memb a (map P.app P.bids)) q))

  lost_in : outcome P ≡ auctioned → told_in P a ≡ record { won = 0; bid = no_bid; reason = because_silent; paid = 0 }
  unfolding told_in told automatic_reason
  lost_in o = let A = auctioned_is P o in rw (A.not_administrative, A.not_wide, no_winner, q)

  kept_in : outcome P ≡ too_wide → told_in P a ≡ record { won = 0; bid = no_bid; reason = because_too_wide; paid = 0 }
  unfolding told_in automatic_reason
  kept_in o = let z = wide_is P o in rw (z.0, z.1, q)

  wins_in : outcome P ≡ administrative → told_in P a ≡ record { won = 1; bid = no_bid; reason = because_administrative; paid = P.admin_price a }
  unfolding told_in automatic_reason
  wins_in o = rw (administrative_is P o, q)

-- the automatic reason is told in every outcome
reason_of : (P : Pot) (why : ℕ) (l : List ℕ) → (told P why l).reason ≡ why
unfolding told
reason_of P why [] = refl
reason_of P why (w ∷ l) = refl

reason_in : (P : Pot) (a : ℕ) → (told_in P a).reason ≡ automatic_reason P a
unfolding told_in
reason_in P a = by_all P (λ (x : Told). x.reason ≡ automatic_reason P a) _ _ _ (λ t. refl) (λ t u. reason_of P _ _) refl

-- ---- over the bytes

module _ (R : Round) (S : Sound R) (s : List ℕ) (C : Carries R s) where
  silent_at : (a : ℕ) → a < R.n → Unheard R a → SilentTold R s a
  unfolding app_told
  silent_at a h u = record {
    lost = λ e. C.app a h ∙ lost_in P a q (o ∙ e);
    kept = λ e. C.app a h ∙ kept_in P a q (o ∙ e);
    wins = λ e.
        C.app a h ∙ wins_in P a q (o ∙ e)
        ∙ ap (λ (x : ℕ). record { won = 1; bid = no_bid; reason = because_administrative; paid = x }) (admin_price_is R p a (app_mine_lem R p a h ∙ eq-eqb p p refl));
  }
    where
      p : ℕ
      p = app_pot R a

      P : Pot
      P = pot_of R p

      q : silent P a ≡ true
      q = silent_none R p a u

      o : outcome P ≡ outcome_at R s p
      o = sym (C.outcome p (tech_pot R S _ (app_tech R S a h)))

  -- "0 where it had sealed bids"
  heard_at : (k : ℕ) → k < R.b → (told_at R s (bid_at R.bids k).app).reason ≡ no_reason
  unfolding app_told automatic_reason
  heard_at k h =
      let p = bid_pot R k in
      ap (λ (x : Told). x.reason) (C.app (bid_at R.bids k).app (bid_app R S k h))
      ∙ reason_in (pot_of R p) (bid_at R.bids k).app
      ∙ rw (silent_some R p k (mine_own R p k h ∙ eq-eqb p p refl))

pub silent_told : (file lent : List ℕ) → refused_as (clear_of file lent).answer ≡ 0
    → let R = round_of file in
    let s = (clear_of file lent).exit in
    (a : ℕ) → a < R.n → Unheard R a → SilentTold R s a
silent_told file lent e = silent_at (round_of file) (filled file lent e).sound (clear_of file lent).exit (carried file lent e)

pub heard_told : (file lent : List ℕ) → refused_as (clear_of file lent).answer ≡ 0
    → let R = round_of file in
    let s = (clear_of file lent).exit in
    (k : ℕ) → k < R.b → (told_at R s (bid_at R.bids k).app).reason ≡ no_reason
heard_told file lent e = heard_at (round_of file) (filled file lent e).sound (clear_of file lent).exit (carried file lent e)
