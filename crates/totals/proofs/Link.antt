-- From the sheet to the pot that it shows: its bids, and what their totals are in the words of the rules. Assumes nothing.
use Prim.Native.Nat.{ℕ, zero, suc, ◌+◌, ◌≤◌, ◌<◌}
use mathlib.Core.Path.{◌≡◌, refl, sym, ap, ap₂, ◌∙◌}
use mathlib.Core.Bool.{Bool, true, false, ◌&&◌}
use mathlib.Core.List.{List, [], ◌∷◌}
use native.Mathlib.Omega.{arith}
use lib.ListN.{length, get_or}
use native.Mathlib.Decide.{dec_lt}
use lib.Dec.{eqb, leb, ltb}
use borrow.Author.Tests.{lt-ltb, le-ltb}
use Rattle.rules.specs.Names.{most_bids, because_won}
use Rattle.rules.specs.Lists.{pick, memb, sift, below, sum}
use Rattle.rules.specs.Pot.{Pot, at_most, value, clearing, tally, summed, total, summed_capacity, within, fitting, fits, admin_total, admin_capacity, admin_fits}
use Rattle.rules.specs.Value.{ceil_div}
use Rattle.laws_pot.specs.Lists.{case, clash, In, memb_in, in_sift, sift_in, in_below, below_in}
use Rattle.laws_pot.specs.Sums.{sum_same}
use Rattle.arrays.proofs.Arrays.{fill_at}
use Rattle.sheet.specs.declared.Size.{Size}
use Rattle.sheet.specs.Sheet.{columns, pot_in, Ready, limit_at, in_auction, in_test, row_year, sheet_cost}
use Rattle.sheet.proofs.Columns.{columns_few}
use Rattle.totals.specs.Totals.{counts, worth_of, cost_of, total_of, no_row, filled, fits_to, row_fits, admin_worth, admin_total_of}

-- the marks say that of the pot's bids those of ws have won, and no other bid
pub record Marked (P : Pot) (ws marks : List ℕ) : Type 0 where
  pub one : (k : ℕ) → In k P.bids → eqb (get_or marks k 0) because_won ≡ memb k ws
  pub other : (k : ℕ) → k < most_bids → memb k P.bids ≡ false → eqb (get_or marks k 0) because_won ≡ false

-- what column c counts of a bid at a clearing price: in a year its value, in the column after the years its capacity; and the total of the winners ws there
unfoldable pub column_of : (P : Pot) (b p c : ℕ) → ℕ
column_of P b p c = pick (ltb c P.years) (value P b p c) (P.capacity b)

abbrev pub column_total : (P : Pot) → List ℕ → ℕ → ℕ
column_total P ws c = summed P (column_of P) ws c

module _ (P : Pot) where
  tally_alike : (f g : ℕ → ℕ → ℕ → ℕ) (on : ℕ → Bool) (at : ℕ → ℕ) (c d : ℕ) (bs : List ℕ) → ((b p : ℕ) → f b p c ≡ g b p d)
      → tally P f on at c bs ≡ tally P g on at d bs
  unfolding tally
  tally_alike f g on at c d [] h = refl
  tally_alike f g on at c d (b ∷ bs) h = rw (h b (at (P.yr b)), tally_alike f g on at c d bs h)

  -- in a year the year's total, after the years the summed capacity
  pub total_column : (ws : List ℕ) (y : ℕ) → y < P.years → column_total P ws y ≡ total P ws y
  unfolding column_of
  total_column ws y h = tally_alike (column_of P) (value P) (λ b. memb b ws) (clearing P ws) y y P.bids (λ b p. rw (lt-ltb y P.years h))

  pub capacity_column : (ws : List ℕ) → column_total P ws P.years ≡ summed_capacity P ws
  unfolding column_of
  capacity_column ws =
      tally_alike (column_of P) (λ b p y. P.capacity b) (λ b. memb b ws) (clearing P ws) P.years 0 P.bids
      (λ b p. rw (le-ltb P.years P.years (omega arith)))

and_sym : (a b : Bool) → (a && b) ≡ (b && a)
and_sym true true = refl
and_sym true false = refl
and_sym false true = refl
and_sym false false = refl

module _ (sheet : List ℕ) (of : Size) (ok : Ready sheet of) where
  abbrev pub P : Pot
  P = pot_in sheet of

  -- ---- the pot's bids
  pub bid : (k : ℕ) → k < of.bids → in_auction sheet k ≡ true → In k P.bids
  unfolding pot_in
  bid k h t = in_sift (in_auction sheet) (in_below k of.bids h) t

  pub bid_lt : (k : ℕ) → In k P.bids → k < of.bids
  unfolding pot_in
  bid_lt k i = below_in k of.bids (sift_in k (in_auction sheet) (below of.bids) i).0

  pub bid_in : (k : ℕ) → In k P.bids → in_auction sheet k ≡ true
  unfolding pot_in
  bid_in k i = (sift_in k (in_auction sheet) (below of.bids) i).1

  pub not_bid : (k : ℕ) → in_auction sheet k ≡ false → memb k P.bids ≡ false
  not_bid k f = case (memb k P.bids) (λ t. clash (bid_in k (memb_in k P.bids t)) f) (λ g. g)

  pub small : (k : ℕ) → k < of.bids → k < most_bids
  small k h = omega (arith, ok.few)

  -- ---- values and totals
  pub column_is : (k p c : ℕ) → in_auction sheet k ≡ true → column_of P k p c ≡ worth_of sheet of k p c
  unfolding column_of value worth_of counts sheet_cost pot_in
  column_is k p c t = case (ltb c of.years) (λ u. rw u) (λ u. rw (u, t))

  -- the marked bids at a row of prices, which agrees with the prices `at` in the years of the winners
  module _ (ws marks prices : List ℕ) (M : Marked P ws marks) (at : ℕ → ℕ)
      (same : (k : ℕ) → In k P.bids → memb k ws ≡ true → get_or prices (row_year sheet k) 0 ≡ at (row_year sheet k)) (c : ℕ) where
    mine : (k : ℕ) → k < of.bids → in_auction sheet k ≡ true
        → pick (eqb (get_or marks k 0) because_won) (cost_of sheet of prices c k) 0 ≡ pick (memb k ws) (column_of P k (at (P.yr k)) c) 0
    unfolding cost_of
    mine k g e =
        rw (M.one k (bid k g e)) (case (memb k ws)
        (λ t. rw t (ap (λ (p : ℕ). worth_of sheet of k p c) (same k (bid k g e) t) ∙ sym (column_is k (at (row_year sheet k)) c e) ∙ opened))
        (λ f. rw f))
      where
        opened : column_of P k (at (row_year sheet k)) c ≡ column_of P k (at (P.yr k)) c
        opened = unfold pot_in in refl

    tally_is : (n : ℕ) → n ≤ of.bids → total_of sheet of marks prices c n ≡ tally P (column_of P) (λ k. memb k ws) at c (sift (in_auction sheet) (below n))
    unfolding total_of tally
    tally_is zero g = refl
    tally_is (suc n) g =
        case (in_auction sheet n) (λ e. rw e (ap₂ ◌+◌ (tally_is n (omega arith)) (mine n g e)))
        (λ f. rw (f, M.other n (small n g) (not_bid n f)) (omega (arith, tally_is n (omega arith))))

    pub total_at_lem : total_of sheet of marks prices c of.bids ≡ tally P (column_of P) (λ k. memb k ws) at c P.bids
    total_at_lem = tally_is of.bids (omega arith) ∙ opened
      where
        opened : tally P (column_of P) (λ k. memb k ws) at c (sift (in_auction sheet) (below of.bids)) ≡ tally P (column_of P) (λ k. memb k ws) at c P.bids
        opened = unfold pot_in in refl

  -- ---- whether a row of totals fits
  within_is : (f tot : ℕ → ℕ) (n : ℕ) → n ≤ of.years → ((y : ℕ) → y < n → f y ≡ tot y) → fits_to f sheet n ≡ within P tot n
  unfolding fits_to within pot_in
  within_is f tot zero h e = refl
  within_is f tot (suc n) h e = rw (lt-ltb n of.years h, e n (omega arith), within_is f tot n (omega arith) (λ y g. e y (omega arith)))

  -- the years' budgets, and the cap where there is a column for it
  pub fitting_is : (f tot : ℕ → ℕ) (capacity : ℕ) → ((y : ℕ) → y < of.years → f y ≡ tot y) → (of.years < of.columns → f of.years ≡ capacity)
      → fits_to f sheet of.columns ≡ fitting P tot capacity
  unfolding fits_to
  fitting_is f tot capacity e g =
      elim (dec_lt of.years of.columns) [
        | yes h ↦
            let last : of.columns ≡ suc of.years = omega (arith, ok.columns_most) in
            ap (fits_to f sheet) last ∙ and_sym (leb (f of.years) (limit_at sheet of.years)) (fits_to f sheet of.years) ∙ ap₂ ◌&&◌ money (at_cap h)
        | no z ↦
            let last : of.columns ≡ of.years = omega (arith, ok.columns_least, z) in
            ap (fits_to f sheet) last ∙ and_sym true (fits_to f sheet of.years) ∙ ap₂ ◌&&◌ money (no_cap_lem (omega (arith, z)))
      ]
    where
      money : fits_to f sheet of.years ≡ within P tot P.years
      money = within_is f tot of.years (omega arith) e ∙ opened
        where
          opened : within P tot of.years ≡ within P tot P.years
          opened = unfold pot_in in refl

      at_cap : of.years < of.columns → leb (f of.years) (limit_at sheet of.years) ≡ at_most P.cap capacity
      at_cap h = unfold at_most pot_in in rw (lt-ltb of.years of.columns h, g h)

      no_cap_lem : of.columns ≤ of.years → true ≡ at_most P.cap capacity
      no_cap_lem h = unfold at_most pot_in in rw (le-ltb of.years of.columns h)

  -- the winners ws, by the totals of every column
  pub fits_is : (f : ℕ → ℕ) (ws : List ℕ) → ((c : ℕ) → c < of.columns → f c ≡ column_total P ws c) → fits_to f sheet of.columns ≡ fits P ws
  fits_is f ws e =
      fitting_is f (total P ws) (summed_capacity P ws)
      (λ y h. e y (omega (arith, ok.columns_least)) ∙ total_column P ws y (year h))
      (λ h. e of.years h ∙ capacity)
    where
      year : {y : ℕ} → y < of.years → y < P.years
      year h = unfold pot_in in h

      capacity : column_total P ws of.years ≡ summed_capacity P ws
      capacity = opened ∙ capacity_column P ws
        where
          opened : column_total P ws of.years ≡ column_total P ws P.years
          opened = unfold pot_in in refl

  -- a row that was filled
  pub row_at : (f : ℕ → ℕ) (c : ℕ) → c < of.columns → get_or (filled f of.columns) c 0 ≡ f c
  row_at f c h = fill_at no_row f of.columns c 0 (size (columns_few ok)) h
    where
      size : of.columns ≤ columns → of.columns ≤ length no_row
      size g = unfold no_row in g

  -- ---- the first test
  abbrev tested : List ℕ
  tested = sift (in_test sheet) (below of.applications)

  in_tested : (a : ℕ) → In a tested → (a < of.applications) × (in_test sheet a ≡ true)
  in_tested a i = let s = sift_in a (in_test sheet) (below of.applications) i in (below_in a of.applications s.0, s.1)

  pub admin_total_is : (y : ℕ) → y < of.years → admin_total_of sheet of y of.applications ≡ admin_total P y
  unfolding admin_total_of admin_total
  admin_total_is y h =
      sum_same (λ a. admin_worth sheet of a y) (λ a. ceil_div (P.admin_cost a y) P.scale) tested (λ a i. worth a (in_tested a i).0) ∙ opened
    where
      worth : (a : ℕ) → a < of.applications → admin_worth sheet of a y ≡ ceil_div (P.admin_cost a y) P.scale
      worth a g = unfold admin_worth counts pot_in in rw (lt-ltb y of.years h, lt-ltb a of.applications g)

      opened : sum (λ a. ceil_div (P.admin_cost a y) P.scale) tested ≡ sum (λ a. ceil_div (P.admin_cost a y) P.scale) P.apps
      opened = unfold pot_in in refl

  admin_capacity_is : admin_total_of sheet of of.years of.applications ≡ admin_capacity P
  unfolding admin_total_of admin_capacity
  admin_capacity_is =
      sum_same (λ a. admin_worth sheet of a of.years) P.app_capacity tested (λ a i. worth a (in_tested a i)) ∙ opened
    where
      worth : (a : ℕ) → (a < of.applications) × (in_test sheet a ≡ true) → admin_worth sheet of a of.years ≡ P.app_capacity a
      worth a g = unfold admin_worth counts pot_in in rw (le-ltb of.years of.years (omega arith), lt-ltb a of.applications g.0, g.1)

      opened : sum P.app_capacity tested ≡ sum P.app_capacity P.apps
      opened = unfold pot_in in refl

  pub admin_fits_lem : {row : List ℕ} {t : Bool} → row ≡ filled (λ c. admin_total_of sheet of c of.applications) of.columns
      → t ≡ row_fits sheet row of.columns → t ≡ admin_fits P
  unfolding admin_fits
  admin_fits_lem er et =
      et ∙ ap (λ (r : List ℕ). row_fits sheet r of.columns) er
      ∙ fitting_is (λ c. get_or (filled first of.columns) c 0) (admin_total P) (admin_capacity P)
      (λ y h. row_at first y (omega (arith, ok.columns_least)) ∙ admin_total_is y h)
      (λ h. row_at first of.years h ∙ admin_capacity_is)
    where
      first : ℕ → ℕ
      first c = admin_total_of sheet of c of.applications
