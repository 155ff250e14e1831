-- The ways that a look goes: the arrays follow the trace. Assumes nothing.
use Prim.Native.Nat.{ℕ, ◌<◌}
use mathlib.Core.Path.{◌≡◌, refl, sym, ap, ◌∙◌, subst}
use mathlib.Core.Bool.{Bool, true, false, not, ◌&&◌}
use Rattle.std.specs.Prelude.{Option, None, Some}
use mathlib.Core.List.{List, [], ◌∷◌, ◌++◌}
use native.Mathlib.Omega.{arith}
use lib.ListN.{length, get_or, set, length-set}
use lib.Dec.{eqb, ltb}
use borrow.Author.Tests.{ne_eqb, ltb-true, ltb-false}
use Rattle.rules.specs.Names.{most_bids, because_won, down_alone}
use Rattle.rules.specs.Lists.{pick, memb}
use Rattle.rules.specs.Pot.{Pot, Trace, winners, price_from, live, taken, fits, won, down, follows, alone}
use Rattle.laws_pot.specs.Lists.{case, clash, In, memb_in, in_memb, in_none, in_one}
use Rattle.laws_pot.specs.Taken as taken
use Rattle.laws_pot.specs.Runs.{won_seen}
use Rattle.arrays.specs.Sets.{members, head_or}
use Rattle.arrays.proofs.Arrays.{put_is}
use Rattle.sheet.specs.declared.Size.{Size}
use Rattle.sheet.specs.Sheet.{pot_in, Ready, in_auction, row_app, row_year, row_price}
use Rattle.totals.specs.Totals.{total_of, fits_to}
use Rattle.totals.proofs.Link.{not_bid}
use Rattle.pot.specs.declared.PotState.{PotState}
use Rattle.pot.specs.Marks.{lowest_of, win_all, turned_of, hung_of, shut_of, shut_in, settled_of, taken_of, sole_of, follows_of, alone_of}
use Rattle.pot.specs.Rep.{hangs, Sizes, Rep}
use Rattle.pot.proofs.Arrays.{win_sizes, win_marks, win_won, win_opened, win_hang, win_wide, win_drawn}
use Rattle.pot.proofs.Link as link
use Rattle.pot.proofs.Link.{Did, same_number, rep_did, Holds, holds_rep}

-- `follows` by length and head
follows_is : (P : Pot) (i : ℕ) (l : List ℕ) → follows P i l ≡ (eqb (length l) 1 && (eqb (P.app (head_or 0 l)) (P.app i) && eqb (P.yr (head_or 0 l)) (P.yr i)))
unfolding follows
follows_is P i [] = refl
follows_is P i (c ∷ []) = refl
follows_is P i (c ∷ d ∷ l) = rw (ne_eqb (Prim.Native.Nat.suc (Prim.Native.Nat.suc (length l))) 1 (λ e. let no : ⊥ = omega arith in no))

-- what is live has not won
pub not_won : (P : Pot) (t : Trace) (b : ℕ) → live P t b ≡ true → memb b (winners t) ≡ false
not_won P t b v = case (memb b (winners t)) (λ u. clash (in_memb (won_seen b t (memb_in b (winners t) u))) (taken.live_is P t b v).fresh) (λ f. f)

module _ (sheet : List ℕ) (of : Size) (ok : Ready sheet of) where
  abbrev P : Pot
  P = pot_in sheet of

  module _ (t : Trace) (s : PotState) (R : Rep P t s) where
    abbrev l : List ℕ
    l = taken P t

    abbrev p : ℕ
    p = lowest_of sheet s of.bids

    abbrev a : List Bool
    a = taken_of sheet of s

    pub sound : (i : ℕ) → In i l → (i < of.bids) × (live P t i ≡ true) × (row_price sheet i ≡ p) × In i P.bids
    sound = link.taken_sound sheet of ok t s R refl

    pub of_set : members a of.bids ≡ l
    unfolding taken_of
    of_set = link.taken_is sheet of ok t s R refl refl

    pub few : (i : ℕ) → In i l → i < most_bids
    few i h = link.small sheet of ok i (sound i h).0

    -- ---- 1: all that were taken are tried
    abbrev u : PotState
    u = win_all sheet p s l

    su : Sizes u
    su = win_sizes sheet p s R.sizes l

    won_by : Holds P (l ++ winners t) u
    won_by = link.holds_win sheet of ok (winners t) s R.sizes p l (λ i j. let f = sound i j in (f.0, f.2, f.3)) (holds_rep R)

    -- the winners are all of the pot
    pub trial_others : (i : ℕ) → i < of.bids → in_auction sheet i ≡ false → eqb (get_or u.marks i 0) because_won ≡ false
    trial_others i h f = won_by.marked.other i (link.small sheet of ok i h) (not_bid sheet of ok i f)

    pub trial_fits : (f : ℕ → ℕ) → ((c : ℕ) → c < of.columns → f c ≡ total_of sheet of u.marks u.prices c of.bids)
        → fits_to f sheet of.columns ≡ fits P (l ++ winners t)
    trial_fits = link.fits_is sheet of ok (l ++ winners t) u won_by

    -- all win, and the year that hangs closes
    won_with : (r : PotState) → r.marks ≡ u.marks → r.won ≡ u.won → r.prices ≡ u.prices → r.drawn ≡ u.drawn → Sizes r
        → ((d : ℕ) → d < 4 → get_or r.opened d false ≡ (not (memb d (hangs s.hang)) && get_or s.opened d false)) → r.hang ≡ None → Did P (won P t l) s r
    unfolding hangs pot_in
    won_with r er ew eq ed sz op hg = record {
      sizes = sz;
      marks = λ i. ap (λ (x : List ℕ). get_or x i 0) er ∙ win_marks sheet p s R.sizes l i few;
      won = λ y j. ap (λ (x : List Bool). get_or x y false) ew ∙ win_won sheet p s R.sizes l y (λ i h. ok.app i (sound i h).0);
      opened = λ d j. op d j ∙ ap (λ (x : List ℕ). not (memb d x) && get_or s.opened d false) (sym R.hang);
      prices =
          λ d j. ap (λ (x : List ℕ). get_or x d 0) eq ∙ link.win_prices sheet of ok (winners t) s R.sizes p l d (λ i h. let f = sound i h in (f.0, f.2));
      hang = rw hg;
      drawn = same_number (ed ∙ win_drawn sheet p s R.sizes l);
    }

    won_did : Did P (won P t l) s (settled_of u)
    unfolding settled_of shut_in shut_of hung_of hangs
    won_did = subst (λ (year : Option ℕ). Did P (won P t l) s (shut_in year u)) (sym (win_hang sheet p s R.sizes l)) (go s.hang refl)
      where
        -- those of the years that were open, without a year that hung
        left : (year : Option ℕ) → s.hang ≡ year → (d : ℕ) → (not (memb d (hangs year)) && get_or s.opened d false) ≡ (not (memb d (hangs s.hang)) && get_or s.opened d false)
        left year e d = ap (λ (x : Option ℕ). not (memb d (hangs x)) && get_or s.opened d false) (sym e)

        none : (year : Option ℕ) → s.hang ≡ year → ((d : ℕ) → d < 4 → memb d (hangs year) ≡ false)
            → Did P (won P t l) s (hung_of None u)
        none year e h =
            won_with (hung_of None u) refl refl refl refl
            (record { marks = su.marks; won = su.won; opened = su.opened; prices = su.prices })
            (λ d j. ap (λ (x : List Bool). get_or x d false) (win_opened sheet p s R.sizes l)
            ∙ sym (ap (λ (b : Bool). not b && get_or s.opened d false) (h d j)) ∙ left year e d)
            refl

        go : (year : Option ℕ) → s.hang ≡ year → Did P (won P t l) s (shut_in year u)
        go None e = none None e (λ d j. refl)
        go (Some y) e =
            case (ltb y 4)
            (λ h. rw h
            (won_with (shut_of y u) refl refl refl refl
            (record { marks = su.marks; won = su.won; opened = length-set u.opened y false ∙ su.opened; prices = su.prices })
            (λ d j. put_is u.opened y d false false (omega (arith, su.opened, ltb-true y 4 h))
            ∙ rw (win_opened sheet p s R.sizes l) (case (eqb d y) (λ q. rw q) (λ q. rw q)) ∙ left (Some y) e d)
            refl))
            (λ h. rw h (none (Some y) e (λ d j. rw (ne_eqb d y (λ q. let no : ⊥ = omega (arith, ltb-false y 4 h) in no)))))

    pub won_rep : Rep P (won P t l ∷ t) (settled_of u)
    won_rep = rep_did P t (won P t l) s (settled_of u) refl refl (λ i j. in_none j) (λ i j. (sound i j).3) (λ i j. in_none j) R won_did

    pub won_wide : (settled_of u).wide ≡ s.wide
    unfolding settled_of shut_in shut_of hung_of
    won_wide = go u.hang ∙ win_wide sheet p s R.sizes l
      where
        go : (year : Option ℕ) → (shut_in year u).wide ≡ u.wide
        go None = refl
        go (Some d) = case (ltb d 4) (λ h. rw h) (λ h. rw h)

    -- ---- 2: one bid alone
    module _ (i : ℕ) (h : In i l) where
      -- turned down, with the years that close and hang
      down_did : (r : PotState) (sh ha : List ℕ) → r.marks ≡ set s.marks i down_alone → r.won ≡ s.won → r.prices ≡ s.prices
          → r.drawn ≡ s.drawn → Sizes r → ((d : ℕ) → d < 4 → get_or r.opened d false ≡ (not (memb d sh) && get_or s.opened d false)) → ha ≡ hangs r.hang
          → Did P (down P i sh ha) s r
      unfolding price_from
      down_did r sh ha er ew ep ed sz op hg = record {
        sizes = sz;
        marks =
            λ k. ap (λ (x : List ℕ). get_or x k 0) er ∙ put_is s.marks i k down_alone 0 (omega (arith, R.sizes.marks, few i h))
            ∙ case (eqb k i) (λ t. rw t) (λ f. rw f);
        won = λ y j. ap (λ (x : List Bool). get_or x y false) ew;
        opened = op;
        prices = λ d j. ap (λ (x : List ℕ). get_or x d 0) ep;
        hang = hg;
        drawn = same_number ed;
      }

      down_rep : (r : PotState) (sh ha : List ℕ) → Did P (down P i sh ha) s r → Rep P (down P i sh ha ∷ t) r
      down_rep r sh ha D =
          rep_did P t (down P i sh ha) s r refl refl (λ k j. rw (in_one j) (not_won P t i (sound i h).1)) (λ k j. in_none j)
          (λ k j. rw (in_one j) (sound i h).3) R D

      sizes : Sizes (turned_of i s)
      unfolding turned_of
      sizes = record { marks = length-set s.marks i down_alone ∙ R.sizes.marks; won = R.sizes.won; opened = R.sizes.opened; prices = R.sizes.prices }

      -- with no year that closes or hangs
      turned_rep : Rep P (down P i [] [] ∷ t) (turned_of i s)
      unfolding turned_of hangs
      turned_rep = down_rep (turned_of i s) [] [] (down_did (turned_of i s) [] [] refl refl refl refl sizes (λ d j. refl) refl)

      hung_rep : Rep P (down P i [] (P.yr i ∷ []) ∷ t) (hung_of (Some (row_year sheet i)) (turned_of i s))
      unfolding turned_of hung_of hangs pot_in
      hung_rep = down_rep r [] (row_year sheet i ∷ []) (down_did r [] (row_year sheet i ∷ []) refl refl refl refl
          (record { marks = sizes.marks; won = sizes.won; opened = sizes.opened; prices = sizes.prices }) (λ d j. refl) refl)
        where
          r : PotState
          r = hung_of (Some (row_year sheet i)) (turned_of i s)

      shut_rep : Rep P (down P i (P.yr i ∷ []) [] ∷ t) (shut_of (row_year sheet i) (turned_of i s))
      unfolding turned_of shut_of hangs pot_in
      shut_rep =
          down_rep r (row_year sheet i ∷ []) [] (down_did r (row_year sheet i ∷ []) [] refl refl refl refl
          (record {
            marks = sizes.marks;
            won = sizes.won;
            opened = length-set s.opened (row_year sheet i) false ∙ R.sizes.opened;
            prices = sizes.prices;
          })
          (λ d j. put_is s.opened (row_year sheet i) d false false (omega (arith, R.sizes.opened, ok.year i (sound i h).0))
          ∙ case (eqb d (row_year sheet i)) (λ t. rw t) (λ f. rw f))
          refl)
        where
          r : PotState
          r = shut_of (row_year sheet i) (turned_of i s)

  -- whether the next look is at the same application's next bid
  sole_is : (i : ℕ) (t : Trace) (s : PotState) → Rep P t s → follows_of sheet of i s ≡ follows P i (taken P t)
  unfolding follows_of sole_of
  sole_is i t s R = rw (of_set t s R) (sym (follows_is P i (taken P t) ∙ opened (taken P t)))
    where
      opened : (l : List ℕ) → (eqb (length l) 1 && (eqb (P.app (head_or 0 l)) (P.app i) && eqb (P.yr (head_or 0 l)) (P.yr i)))
          ≡ (eqb (length l) 1 && (eqb (row_app sheet (head_or 0 l)) (row_app sheet i) && eqb (row_year sheet (head_or 0 l)) (row_year sheet i)))
      opened l = unfold pot_in in refl

  module _ (t : Trace) (s : PotState) (R : Rep P t s) where
    pub alone_rep : (i : ℕ) → In i (taken P t) → Rep P (alone P t i ∷ t) (alone_of sheet of i s)
    unfolding alone alone_of
    alone_rep i h =
        rw (sole_is i (down P i [] [] ∷ t) (turned_of i s) (turned_rep t s R i h))
        (case (follows P i (taken P (down P i [] [] ∷ t))) (λ e. rw e (hung_rep t s R i h)) (λ e. rw e (shut_rep t s R i h)))

    pub alone_wide : (i : ℕ) → (alone_of sheet of i s).wide ≡ s.wide
    unfolding alone_of hung_of shut_of turned_of
    alone_wide i = go (follows_of sheet of i (turned_of i s))
      where
        go : (g : Bool) → (pick g (hung_of (Some (row_year sheet i)) (turned_of i s)) (shut_of (row_year sheet i) (turned_of i s))).wide ≡ s.wide
        go true = refl
        go false = refl
