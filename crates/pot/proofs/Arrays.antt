-- What marking does to the arrays, place by place. Assumes nothing.
use Prim.Native.Nat.{ℕ, ◌<◌}
use mathlib.Core.Path.{◌≡◌, refl, ap, ◌∙◌}
use mathlib.Core.Bool.{true, false, not, ◌&&◌, ◌||◌}
use mathlib.Core.List.{List, [], ◌∷◌, ◌++◌, map}
use native.Mathlib.Omega.{arith}
use lib.ListN.{get_or, length-set}
use lib.Dec.{eqb}
use Rattle.rules.specs.Names.{most_bids}
use Rattle.rules.specs.Lists.{pick, memb}
use Rattle.rules.specs.Pot.{Pot, price_from}
use Rattle.laws_pot.specs.Lists.{case, In, here, there}
use Rattle.arrays.proofs.Arrays.{put_is, pick_or}
use Rattle.sheet.specs.Sheet.{row_app, row_year}
use Rattle.pot.specs.declared.PotState.{PotState}
use Rattle.pot.specs.Marks.{win_of, turn_of, win_all, turn_all}
use Rattle.pot.specs.Rep.{Sizes}

-- the clearing price after more winners, from what it was before them
pub price_join : (P : Pot) (y : ℕ) (a b : List ℕ) (d : ℕ) → price_from P y (a ++ b) d ≡ price_from P (price_from P y b d) a d
unfolding price_from
price_join P y [] b d = refl
price_join P y (w ∷ a) b d = rw (price_join P y a b d)

module _ (sheet : List ℕ) (p : ℕ) (s : PotState) (S : Sizes s) where
  pub win_sizes : (l : List ℕ) → Sizes (win_all sheet p s l)
  unfolding win_all win_of
  win_sizes [] = S
  win_sizes (i ∷ l) =
      let t = win_sizes l in
      record {
        marks = length-set (win_all sheet p s l).marks i 1 ∙ t.marks;
        won = length-set (win_all sheet p s l).won (row_app sheet i) true ∙ t.won;
        opened = t.opened;
        prices = length-set (win_all sheet p s l).prices (row_year sheet i) p ∙ t.prices;
      }

  pub win_marks : (l : List ℕ) (b : ℕ) → ((i : ℕ) → In i l → i < most_bids) → get_or (win_all sheet p s l).marks b 0 ≡ pick (memb b l) 1 (get_or s.marks b 0)
  unfolding win_all win_of
  win_marks [] b h = refl
  win_marks (i ∷ l) b h =
      put_is (win_all sheet p s l).marks i b 1 0 (omega (arith, (win_sizes l).marks, h i (here refl)))
      ∙ ap (pick (eqb b i) 1) (win_marks l b (λ k j. h k (there j))) ∙ pick_or (eqb b i) (memb b l) 1 (get_or s.marks b 0)

  pub win_won : (l : List ℕ) (k : ℕ) → ((i : ℕ) → In i l → row_app sheet i < 64)
      → get_or (win_all sheet p s l).won k false ≡ (memb k (map (row_app sheet) l) || get_or s.won k false)
  unfolding win_all win_of
  win_won [] k h = refl
  win_won (i ∷ l) k h =
      put_is (win_all sheet p s l).won (row_app sheet i) k true false (omega (arith, (win_sizes l).won, h i (here refl)))
      ∙ case (eqb k (row_app sheet i)) (λ t. rw t) (λ f. rw f (win_won l k (λ k j. h k (there j))))

  pub win_opened : (l : List ℕ) → (win_all sheet p s l).opened ≡ s.opened
  unfolding win_all win_of
  win_opened [] = refl
  win_opened (i ∷ l) = win_opened l

  pub win_hang : (l : List ℕ) → (win_all sheet p s l).hang ≡ s.hang
  unfolding win_all win_of
  win_hang [] = refl
  win_hang (i ∷ l) = win_hang l

  pub win_wide : (l : List ℕ) → (win_all sheet p s l).wide ≡ s.wide
  unfolding win_all win_of
  win_wide [] = refl
  win_wide (i ∷ l) = win_wide l

  pub win_drawn : (l : List ℕ) → (win_all sheet p s l).drawn ≡ s.drawn
  unfolding win_all win_of
  win_drawn [] = refl
  win_drawn (i ∷ l) = win_drawn l

module _ (sheet : List ℕ) (v : ℕ) (s : PotState) (S : Sizes s) where
  pub turn_sizes : (l : List ℕ) → Sizes (turn_all sheet v s l)
  unfolding turn_all turn_of
  turn_sizes [] = S
  turn_sizes (i ∷ l) =
      let t = turn_sizes l in
      record {
        marks = length-set (turn_all sheet v s l).marks i v ∙ t.marks;
        won = t.won;
        opened = length-set (turn_all sheet v s l).opened (row_year sheet i) false ∙ t.opened;
        prices = t.prices;
      }

  pub turn_marks : (l : List ℕ) (b : ℕ) → ((i : ℕ) → In i l → i < most_bids) → get_or (turn_all sheet v s l).marks b 0 ≡ pick (memb b l) v (get_or s.marks b 0)
  unfolding turn_all turn_of
  turn_marks [] b h = refl
  turn_marks (i ∷ l) b h =
      put_is (turn_all sheet v s l).marks i b v 0 (omega (arith, (turn_sizes l).marks, h i (here refl)))
      ∙ ap (pick (eqb b i) v) (turn_marks l b (λ k j. h k (there j))) ∙ pick_or (eqb b i) (memb b l) v (get_or s.marks b 0)

  pub turn_opened : (l : List ℕ) (d : ℕ) → ((i : ℕ) → In i l → row_year sheet i < 4)
      → get_or (turn_all sheet v s l).opened d false ≡ (not (memb d (map (row_year sheet) l)) && get_or s.opened d false)
  unfolding turn_all turn_of
  turn_opened [] d h = refl
  turn_opened (i ∷ l) d h =
      put_is (turn_all sheet v s l).opened (row_year sheet i) d false false (omega (arith, (turn_sizes l).opened, h i (here refl)))
      ∙ case (eqb d (row_year sheet i)) (λ t. rw t) (λ f. rw f (turn_opened l d (λ k j. h k (there j))))

  pub turn_won : (l : List ℕ) → (turn_all sheet v s l).won ≡ s.won
  unfolding turn_all turn_of
  turn_won [] = refl
  turn_won (i ∷ l) = turn_won l

  pub turn_prices : (l : List ℕ) → (turn_all sheet v s l).prices ≡ s.prices
  unfolding turn_all turn_of
  turn_prices [] = refl
  turn_prices (i ∷ l) = turn_prices l

  pub turn_hang : (l : List ℕ) → (turn_all sheet v s l).hang ≡ s.hang
  unfolding turn_all turn_of
  turn_hang [] = refl
  turn_hang (i ∷ l) = turn_hang l

  pub turn_wide : (l : List ℕ) → (turn_all sheet v s l).wide ≡ s.wide
  unfolding turn_all turn_of
  turn_wide [] = refl
  turn_wide (i ∷ l) = turn_wide l
