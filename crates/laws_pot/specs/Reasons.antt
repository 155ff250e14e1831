-- What a bid's reason says of the trace, for every pot. Assumes nothing.
use Rattle.std.specs.Prelude.{ℕ, ◌≤◌, ◌≡◌, true, ◌⊎◌, length, ltb}
use Rattle.std.proofs.Math.Path.{refl}
use Rattle.std.proofs.Math.Bool.{false}
use Rattle.std.proofs.Math.Logic.{inl, ⊎_elim}
use Rattle.std.proofs.Common.{inr, arith}
use mathlib.Core.List.{List, [], ◌∷◌, ◌++◌, map}
use Rattle.rules.specs.Names.{administrative, auctioned, too_wide, widest_tie, because_won, down_alone, down_tied, unlooked_won, unlooked_else}
use Rattle.rules.specs.Names.{because_too_wide, because_silent}
use Rattle.rules.specs.Lists.{memb}
use Rattle.rules.specs.Pot.{Pot, Event, Trace, winners, downs, seen, mark, fits, taken, down, follows, remaining, tied, alone, lost, look, auction, wide_end}
use Rattle.rules.specs.Pot.{admin_fits, by, outcome, unlooked_reason, auction_reason, reason, silent, automatic_reason}
use Rattle.laws_pot.specs.Lists.{case, clash, In, memb_in, in_memb, in_none, in_left, in_right, in_cases}
use Rattle.laws_pot.specs.Runs.{next, auction_keeps}

-- "2 turned down alone; 3 turned down in a tie", "4 not looked at, its application won; 5 not looked at, otherwise"
abbrev pub TurnedDown : ℕ → Type 0
TurnedDown n = (n ≡ down_alone) ⊎ (n ≡ down_tied)

abbrev pub Unlooked : ℕ → Type 0
Unlooked n = (n ≡ unlooked_won) ⊎ (n ≡ unlooked_else)

-- what a reason of an auction says of a bid: it won, it was turned down, or it was not looked at
pub data Fate (n : ℕ) : Type 0 where
  winner : n ≡ because_won → Fate n
  loser : TurnedDown n → Fate n
  passed : Unlooked n → Fate n

-- no reason says two of these
pub one_fate : {n : ℕ} → (n ≡ because_won → TurnedDown n → ⊥) × (n ≡ because_won → Unlooked n → ⊥) × (TurnedDown n → Unlooked n → ⊥)
one_fate = (
  λ e t. ⊎_elim (λ x. omega arith) (λ x. omega arith) t,
  λ e t. ⊎_elim (λ x. omega arith) (λ x. omega arith) t,
  λ t u. ⊎_elim (λ x. ⊎_elim (λ y. omega arith) (λ y. omega arith) u) (λ x. ⊎_elim (λ y. omega arith) (λ y. omega arith) u) t,
)

module _ (P : Pot) where
  -- ---- the mark of a bid that was looked at

  tied_why : (s : Trace) (l : List ℕ) → TurnedDown (tied P s l).why
  unfolding tied
  tied_why s l = case (ltb widest_tie (length (remaining P (winners s) l))) (λ t. rw t (inr refl)) (λ t. rw t (inr refl))

  alone_why : (s : Trace) (b : ℕ) → TurnedDown (alone P s b).why
  unfolding alone
  alone_why s b = case (follows P b (taken P (down P b [] [] ∷ s))) (λ t. rw t (inl refl)) (λ t. rw t (inl refl))

  lost_why : (s : Trace) (l : List ℕ) → TurnedDown (lost P s l).why
  unfolding lost
  lost_why s [] = inl refl
  lost_why s (b ∷ []) = alone_why s b
  lost_why s (b ∷ c ∷ l) = tied_why s (b ∷ c ∷ l)

  look_why : (s : Trace) (l : List ℕ) → TurnedDown (look P s l).why
  unfolding look
  look_why s l = case (fits P (l ++ winners s)) (λ t. rw t (inl refl)) (λ t. rw t (lost_why s l))

  pub data Marked (s : Trace) (k n : ℕ) : Type 0 where
    won : In k (winners s) → n ≡ because_won → Marked s k n
    turned : In k (downs s) → TurnedDown n → Marked s k n

  mark_next : (e : Event) (s : Trace) → TurnedDown e.why → ((k : ℕ) → In k (seen s) → Marked s k (mark s k))
      → (k : ℕ) → In k (seen (e ∷ s)) → Marked (e ∷ s) k (mark (e ∷ s) k)
  unfolding seen winners downs mark
  mark_next e s w h k i =
      case (memb k e.wins) (λ t. rw t (won (in_left (winners s) (memb_in k e.wins t)) refl))
      (λ t. case (memb k e.downs) (λ u. rw (t, u) (turned (in_left (downs s) (memb_in k e.downs u)) w))
      (λ u. rw (t, u) (older (h k (earlier t u)))))
    where
      earlier : memb k e.wins ≡ false → memb k e.downs ≡ false → In k (seen s)
      earlier t u =
          ⊎_elim (λ j. ⊎_elim (λ x. clash (in_memb x) t) (λ x. clash (in_memb x) u) (in_cases e.wins e.downs j))
          (λ j. j) (in_cases (e.wins ++ e.downs) (seen s) i)

      older : {n : ℕ} → Marked s k n → Marked (e ∷ s) k n
      older (won j q) = won (in_right e.wins j) q
      older (turned j q) = turned (in_right e.downs j) q

  marked : (k : ℕ) → In k (seen (auction P)) → Marked (auction P) k (mark (auction P) k)
  unfolding seen
  marked = auction_keeps P (λ (s : Trace). (k : ℕ) → In k (seen s) → Marked s k (mark s k))
      (λ s h. mark_next (next P s) s (look_why s (taken P s)) h) (λ k i. in_none i)

  -- ---- the three kinds of reason in an auction

  pub data Why (k n : ℕ) : Type 0 where
    wins : In k (winners (auction P)) → n ≡ because_won → Why k n
    falls : In k (downs (auction P)) → TurnedDown n → Why k n
    rests : memb k (seen (auction P)) ≡ false → Unlooked n → Why k n

  why : (k : ℕ) → Why k (auction_reason P (auction P) k)
  unfolding auction_reason unlooked_reason
  why k =
      case (memb k (seen (auction P))) (λ t. rw t (go (marked k (memb_in k (seen (auction P)) t))))
      (λ t. rw t (case (memb (P.app k) (map P.app (winners (auction P)))) (λ u. rw u (rests t (inl refl))) (λ u. rw u (rests t (inr refl)))))
    where
      go : {n : ℕ} → Marked (auction P) k n → Why k n
      go (won i e) = wins i e
      go (turned i t) = falls i t

  pub fate : (k n : ℕ) → Why k n → Fate n
  fate k n (wins i e) = winner e
  fate k n (falls i t) = loser t
  fate k n (rests f t) = passed t

  pub won_so : (k n : ℕ) → Why k n → n ≡ because_won → In k (winners (auction P))
  won_so k n (wins i e) q = i
  won_so k n (falls i t) q = absurd (one_fate.0 q t)
  won_so k n (rests f t) q = absurd (one_fate.1 q t)

  pub fell : (k n : ℕ) → Why k n → TurnedDown n → In k (downs (auction P))
  fell k n (wins i e) t = absurd (one_fate.0 e t)
  fell k n (falls i x) t = i
  fell k n (rests f x) t = absurd (one_fate.2 t x)

  pub rested : (k n : ℕ) → Why k n → Unlooked n → memb k (seen (auction P)) ≡ false
  rested k n (wins i e) t = absurd (one_fate.1 e t)
  rested k n (falls i x) t = absurd (one_fate.2 x t)
  rested k n (rests f x) t = f

  -- ---- by the outcome

  -- what holds of each of three holds of the one taken by the outcome
  pub by_all : {A : Type 0} (Q : A → Type 0) (x y z : A) → (admin_fits P ≡ true → Q x)
      → (admin_fits P ≡ false → wide_end (auction P) ≡ false → Q y) → Q z → Q (by P x y z)
  by_all Q x y z a b c = case (admin_fits P) (λ t. rw t (a t)) (λ t. case (wide_end (auction P)) (λ u. rw (t, u) c) (λ u. rw (t, u) (b t u)))

  pub outcome_most : outcome P ≤ too_wide
  unfolding outcome
  outcome_most = by_all (λ (n : ℕ). n ≤ too_wide) _ _ _ (λ t. omega arith) (λ t u. omega arith) (omega arith)

  -- an auction cleared the pot
  pub record Auctioned : Type 0 where
    pub not_administrative : admin_fits P ≡ false
    pub not_wide : wide_end (auction P) ≡ false

  pub auctioned_is : outcome P ≡ auctioned → Auctioned
  unfolding outcome
  auctioned_is =
      case (admin_fits P) (λ t. rw t (λ e. absurd (omega arith)))
      (λ t. case (wide_end (auction P)) (λ u. rw (t, u) (λ e. absurd (omega arith))) (λ u. rw (t, u) (λ e. record { not_administrative = t; not_wide = u })))

  -- and of the other two outcomes
  pub administrative_is : outcome P ≡ administrative → admin_fits P ≡ true
  unfolding outcome
  administrative_is =
      case (admin_fits P) (λ t e. t)
      (λ t. case (wide_end (auction P)) (λ u. rw (t, u) (λ e. absurd (omega arith))) (λ u. rw (t, u) (λ e. absurd (omega arith))))

  pub wide_is : outcome P ≡ too_wide → (admin_fits P ≡ false) × (wide_end (auction P) ≡ true)
  unfolding outcome
  wide_is =
      case (admin_fits P) (λ t. rw t (λ e. absurd (omega arith)))
      (λ t. case (wide_end (auction P)) (λ u e. (t, u)) (λ u. rw (t, u) (λ e. absurd (omega arith))))

  pub by_auction : Auctioned → {A : Type 0} (x y z : A) → by P x y z ≡ y
  by_auction A x y z = rw (A.not_administrative, A.not_wide)

  pub reason_why : Auctioned → (k : ℕ) → Why k (reason P k)
  unfolding reason
  reason_why A k = rw (by_auction A _ (auction_reason P (auction P) k) _) (why k)

  why_most : (k n : ℕ) → Why k n → n ≤ unlooked_else
  why_most k n (wins i e) = omega arith
  why_most k n (falls i x) = ⊎_elim (λ a. omega arith) (λ a. omega arith) x
  why_most k n (rests f x) = ⊎_elim (λ a. omega arith) (λ a. omega arith) x

  pub reason_most : (k : ℕ) → reason P k ≤ because_too_wide
  unfolding reason
  reason_most k = by_all (λ (n : ℕ). n ≤ because_too_wide) _ _ _ (λ t. omega arith) (λ t u. omega (arith, why_most k _ (why k))) (omega arith)

  pub automatic_most : (a : ℕ) → automatic_reason P a ≤ because_silent
  unfolding automatic_reason
  automatic_most a =
      case (silent P a) (λ t. rw t (by_all (λ (n : ℕ). n ≤ because_silent) _ _ _ (λ u. omega arith) (λ u v. omega arith) (omega arith)))
      (λ t. rw t (omega arith))
