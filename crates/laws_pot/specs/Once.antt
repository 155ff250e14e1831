-- No bid is looked at twice, so none wins twice; and an application wins once at the most. Assumes nothing.
use Prim.Native.Nat.{ℕ, zero, suc, ◌+◌, ◌≤◌}
use Rattle.std.specs.Prelude.{◌≡◌, Bool, true, not, length, ltb}
use Rattle.std.proofs.Math.Path.{refl, sym}
use Rattle.std.proofs.Common.{ap, ◌∙◌}
use Rattle.std.proofs.Math.Bool.{false}
use Rattle.std.proofs.Math.Logic.{⊎_elim}
use mathlib.Core.List.{List, [], ◌∷◌, ◌++◌, map}
use Rattle.std.proofs.Math.Option.{Option}
use native.Mathlib.Omega.{arith}
use Rattle.std.proofs.Math.Nat.{le_trans}
use Rattle.std.proofs.Math.Dec.{eqb}
use borrow.Author.Tests.{eqb-true, eq-eqb, ne_eqb}
use Rattle.rules.specs.Names.{widest_tie}
use Rattle.rules.specs.Lists.{pick, memb, sift, below}
use Rattle.rules.specs.Pot.{Pot, Event, Trace, winners, downs, seen, live, least, lowest, taken, down, follows, combination, remaining, chosen, choose}
use Rattle.rules.specs.Pot.{drawn_after, others, tied, alone, lost, look, auction, fits}
use Rattle.laws_pot.specs.Lists.{case, clash, In, here, there, memb_in, in_memb, in_none, in_left, in_map, map_in, in_cases}
use Rattle.laws_pot.specs.Taken.{live_is}
use Rattle.laws_pot.specs.Steps.{Step}
use Rattle.laws_pot.specs.Mono.{Lawful}
use Rattle.laws_pot.specs.Runs.{auction_keeps, holds_at_the_end, Inv}

-- how often k stands in a list
unfoldable pub often : ℕ → List ℕ → ℕ
often k [] = 0
often k (x ∷ l) = pick (eqb k x) 1 0 + often k l

-- no number stands in the list twice
abbrev pub NoneTwice : List ℕ → Type 0
NoneTwice l = (k : ℕ) → often k l ≤ 1

module _ (k : ℕ) where
  pub often_joined : (a b : List ℕ) → often k (a ++ b) ≡ often k a + often k b
  unfolding often
  often_joined [] b = omega arith
  often_joined (x ∷ a) b = omega (arith, often_joined a b)

  pub often_none : (l : List ℕ) → memb k l ≡ false → often k l ≡ 0
  unfolding often
  often_none [] f = refl
  often_none (x ∷ l) f = case (eqb k x) (λ t. clash (in_memb {k = k} {l = x ∷ l} (here (eqb-true k x t))) f)
      (λ u. rw u (case (memb k l) (λ t. clash (in_memb {k = k} {l = x ∷ l} (there (memb_in k l t))) f) (λ g. omega (arith, often_none l g))))

  pub often_some : {l : List ℕ} → In k l → 1 ≤ often k l
  unfolding often
  often_some (here {x} e) = rw (eq-eqb k x e) (omega arith)
  often_some (there i) = omega (arith, often_some i)

  pub often_sift : (f : ℕ → Bool) (l : List ℕ) → often k (sift f l) ≤ often k l
  unfolding often
  often_sift f [] = omega arith
  often_sift f (x ∷ l) = let h = often_sift f l in case (f x) (λ t. rw t (omega arith)) (λ t. rw t (omega arith))

  often_sifted : (f : ℕ → Bool) (l : List ℕ) → f k ≡ false → often k (sift f l) ≡ 0
  unfolding often
  often_sifted f [] u = refl
  often_sifted f (x ∷ l) u =
      let h = often_sifted f l u in
      case (f x) (λ t. rw (t, ne_eqb k x (λ e. clash t (ap f (sym e) ∙ u))) (omega arith)) (λ t. rw t h)

  often_above : (n : ℕ) → n ≤ k → often k (below n) ≡ 0
  unfolding often
  often_above zero h = refl
  often_above (suc n) h = rw (ne_eqb k n (λ e. omega arith)) (omega (arith, often_above n (omega arith)))

  pub often_below : (n : ℕ) → often k (below n) ≤ 1
  unfolding often
  often_below zero = omega arith
  often_below (suc n) = case (eqb k n) (λ t. rw t (omega (arith, often_above n (omega (arith, eqb-true k n t))))) (λ t. rw t (omega (arith, often_below n)))

  module _ (P : Pot) where
    often_chosen : (n : Option ℕ) (ws l : List ℕ) → often k (choose P n ws l) ≤ often k l
    unfolding choose chosen combination remaining
    often_chosen n ws l = le_trans (often_sift _ (remaining P ws l)) (often_sift (λ c. fits P (c ∷ ws)) l)

    -- a choice and the others
    often_parts : (ch l : List ℕ) → often k ch ≤ often k l → often k (ch ++ others P l ch) ≤ often k l
    often_parts ch l h =
        let j = often_joined ch (others P l ch) in
        case (memb k ch)
        (λ t. omega (arith, j, often_sifted (λ b. not (memb b ch)) l (rw t)))
        (λ f. omega (arith, j, often_none ch f, often_sift (λ b. not (memb b ch)) l))

    often_tied : (s : Trace) (l : List ℕ) → often k ((tied P s l).wins ++ (tied P s l).downs) ≤ often k l
    unfolding tied often
    often_tied s l =
        case (ltb widest_tie (length (remaining P (winners s) l))) (λ t. rw t (omega arith))
        (λ t. rw t (often_parts (choose P (drawn_after P s) (winners s) l) l (often_chosen (drawn_after P s) (winners s) l)))

    often_lost : (s : Trace) (l : List ℕ) → often k ((lost P s l).wins ++ (lost P s l).downs) ≤ often k l
    unfolding lost alone often
    often_lost s [] = omega arith
    often_lost s (b ∷ []) = case (follows P b (taken P (down P b [] [] ∷ s))) (λ t. rw t (omega arith)) (λ t. rw t (omega arith))
    often_lost s (b ∷ c ∷ l) = often_tied s (b ∷ c ∷ l)

    often_look : (s : Trace) (l : List ℕ) → often k ((look P s l).wins ++ (look P s l).downs) ≤ often k l
    unfolding look often
    often_look s l =
        case (fits P (l ++ winners s)) (λ t. rw t (omega (arith, often_joined l []))) (λ t. rw t (often_lost s l))

    often_lowest : (l : List ℕ) → often k (lowest P l) ≤ often k l
    unfolding lowest
    often_lowest [] = omega arith
    often_lowest (x ∷ l) = often_sift (λ b. eqb (P.price b) (least P x l)) (x ∷ l)

    often_taken : (s : Trace) → often k (taken P s) ≤ often k P.bids
    unfolding taken
    often_taken s = omega (arith, often_lowest (sift (live P s) P.bids), often_sift (live P s) P.bids)

    -- what was looked at is not taken again
    often_again : (s : Trace) → memb k (seen s) ≡ true → often k (taken P s) ≡ 0
    unfolding taken
    often_again s t =
        let u : live P s k ≡ false = case (live P s k) (λ v. clash t (live_is P s k v).fresh) (λ v. v) in
        omega (arith, often_lowest (sift (live P s) P.bids), often_sifted (live P s) P.bids u)

    module _ (h : often k P.bids ≤ 1) where
      once_step : (s : Trace) → often k (seen s) ≤ 1 → often k (seen (look P s (taken P s) ∷ s)) ≤ 1
      unfolding seen
      once_step s o =
          let e = look P s (taken P s) in
          let j = often_joined (e.wins ++ e.downs) (seen s) in
          let m = often_look s (taken P s) in
          case (memb k (seen s)) (λ t. omega (arith, j, m, often_again s t)) (λ f. omega (arith, j, m, often_none (seen s) f, often_taken s))

      once : often k (seen (auction P)) ≤ 1
      unfolding seen often
      once = auction_keeps P (λ (s : Trace). often k (seen s) ≤ 1) once_step (omega arith)

    often_won : (s : Trace) → often k (winners s) + often k (downs s) ≡ often k (seen s)
    unfolding winners downs seen often
    often_won [] = refl
    often_won (e ∷ s) =
        omega (
          arith,
          often_won s,
          often_joined e.wins (winners s),
          often_joined e.downs (downs s),
          often_joined (e.wins ++ e.downs) (seen s),
          often_joined e.wins e.downs,
        )

    module _ (h : often k P.bids ≤ 1) where
      won_once : often k (winners (auction P)) ≤ 1
      won_once = omega (arith, often_won (auction P), once h)

      down_once : often k (downs (auction P)) ≤ 1
      down_once = omega (arith, often_won (auction P), once h)

      -- what won was not turned down
      pub not_both : In k (winners (auction P)) → In k (downs (auction P)) → ⊥
      not_both i j = omega (arith, often_some i, often_some j, often_won (auction P), once h)

-- different numbers that f keeps apart
map_once : (f : ℕ → ℕ) (l : List ℕ) → NoneTwice l → ((w v : ℕ) → In w l → In v l → f w ≡ f v → w ≡ v) → NoneTwice (map f l)
unfolding often
map_once f [] h s k = omega arith
map_once f (x ∷ l) h s k =
    let r = map_once f l (λ j. omega (arith, h j)) (λ w v i j. s w v (there i) (there j)) in
    case (eqb k (f x))
    (λ t. case (memb k (map f l)) (λ u. twice (map_in f l (memb_in k (map f l) u)) (eqb-true k (f x) t)) (λ u. rw t (omega (arith, often_none k (map f l) u))))
    (λ t. rw t (omega (arith, r k)))
  where
    twice : {A : Type 0} → (v : ℕ) × In v l × (k ≡ f v) → k ≡ f x → A
    twice m e =
        let q : x ≡ m.0 = s x m.0 (here refl) (there m.1) (sym e ∙ m.2) in
        let i : In x l = rw q m.1 in
        absurd (omega (arith, rw (eq-eqb x x refl) at (h x), often_some x i))

-- no number stands twice among the winners, where none does among the bids
pub winners_once : (P : Pot) → NoneTwice P.bids → NoneTwice (winners (auction P))
winners_once P h k = won_once k P (h k)

-- and none among those turned down: the step that turned a bid down is one
pub downs_once : (P : Pot) → NoneTwice P.bids → NoneTwice (downs (auction P))
downs_once P h k = down_once k P (h k)

module _ (P : Pot) (L : Lawful P) where
  -- what was looked at are bids of the pot
  pub seen_mine : (k : ℕ) → In k (seen (auction P)) → In k P.bids
  unfolding seen
  seen_mine =
      holds_at_the_end P L (λ (s : Trace). (k : ℕ) → In k (seen s) → In k P.bids)
      (λ s e I S h k i. ⊎_elim (λ j. (S.sound k j).0) (h k) (in_cases (e.wins ++ e.downs) (seen s) i))
      (λ s h. h) (λ k i. in_none i)

  -- where the bids of an application differ in price (refusal 8)
  module _ (differ : (c d : ℕ) → In c P.bids → In d P.bids → P.app c ≡ P.app d → P.price c ≡ P.price d → c ≡ d) where
    abbrev Single : Trace → Type 0
    Single s = (w v : ℕ) → In w (winners s) → In v (winners s) → P.app w ≡ P.app v → w ≡ v

    single_step : (s : Trace) (e : Event) → Inv P s → Step P s e → Single s → Single (e ∷ s)
    unfolding winners
    single_step s e I S h w v i j q =
        ⊎_elim
        (λ a. ⊎_elim (λ b. differ w v (z w a).0 (z v b).0 q ((z w a).2 ∙ sym (z v b).2)) (λ b. spent w v a b q) (in_cases e.wins (winners s) j))
        (λ a. ⊎_elim (λ b. sym (spent v w b a (sym q))) (λ b. h w v a b q) (in_cases e.wins (winners s) j))
        (in_cases e.wins (winners s) i)
      where
        z : (k : ℕ) → In k e.wins → In k P.bids × (live P s k ≡ true) × (P.price k ≡ S.low)
        z k a = S.sound k (in_left e.downs a)

        -- a bid that was live is of no application that has won
        spent : (w v : ℕ) → In w e.wins → In v (winners s) → P.app w ≡ P.app v → w ≡ v
        spent w v a b q = clash (rw q (in_memb (in_map P.app b))) (live_is P s w (z w a).1).free

    -- two winning bids of one application are one
    pub single : Single (auction P)
    unfolding winners
    single = holds_at_the_end P L Single single_step (λ s h. h) (λ w v i j e. in_none i)

    -- no application wins twice
    pub apps_once : NoneTwice P.bids → NoneTwice (map P.app (winners (auction P)))
    apps_once h = map_once P.app (winners (auction P)) (winners_once P h) single
