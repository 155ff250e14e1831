-- Several bids taken that do not fit together: the arrays follow the trace. Assumes nothing.
use Prim.Native.Nat.{ℕ, ◌≤◌, ◌<◌}
use mathlib.Core.Path.{◌≡◌, refl, sym, ap, ◌∙◌, subst}
use mathlib.Core.Bool.{Bool, true, false, not, ◌&&◌}
use Rattle.std.specs.Prelude.{None}
use mathlib.Core.List.{List, ◌∷◌, map}
use lib.ListN.{length, get_or}
use lib.Dec.{ltb}
use borrow.Author.Tests.{ltb-false}
use Rattle.rules.specs.Names.{most_bids, because_won, down_tied, widest_tie}
use Rattle.rules.specs.Lists.{pick, memb, sift, below}
use Rattle.rules.specs.Pot.{Pot, Trace, winners, wide_end, divided, live, taken, remaining, choose, ways_of, drawn_after, others, shared, tied}
use Rattle.laws_pot.specs.Lists.{case, clash, not_is_true, In, memb_in, sift_in, sift_same, sift_both}
use Rattle.arrays.specs.Sets.{built, members, without}
use Rattle.arrays.proofs.Arrays.{members_built}
use Rattle.sheet.specs.declared.Size.{Size}
use Rattle.sheet.specs.Sheet.{number_in, one_more, pot_in, Ready, row_year, row_price}
use Rattle.ties.specs.declared.Choice.{Choice}
use Rattle.combinations.specs.Combinations.{bases_of, tied_of}
use Rattle.ties.specs.Ties.{keeps_of, choice_of}
use Rattle.ties.proofs.Link as tie
use Rattle.pot.specs.declared.PotState.{PotState}
use Rattle.pot.specs.Marks.{lowest_of, win_all, turn_all, hung_of, widened, taken_of, numbered_of, shared_of, rest_of, choice_in, tie_of}
use Rattle.pot.specs.Rep.{hangs, Sizes, Rep, Stands}
use Rattle.pot.proofs.Arrays.{win_sizes, win_marks, win_won, win_opened, win_wide, turn_sizes, turn_marks, turn_opened, turn_won, turn_prices, turn_wide}
use Rattle.pot.proofs.Link as link
use Rattle.pot.proofs.Link.{Did, rep_did, holds_rep}
use Rattle.pot.proofs.Looks as looks
use Rattle.pot.proofs.Looks.{not_won}
use Rattle.pot.proofs.Sums.{revalued_sums, stands_sums}

module _ (sheet : List ℕ) (of : Size) (ok : Ready sheet of) where
  abbrev P : Pot
  P = pot_in sheet of

  module _ (t : Trace) (s : PotState) (R : Rep P t s) where
    abbrev ws : List ℕ
    ws = winners t

    abbrev l : List ℕ
    l = taken P t

    abbrev p : ℕ
    p = lowest_of sheet s of.bids

    abbrev a : List Bool
    a = taken_of sheet of s

    abbrev base : List ℕ
    base = bases_of sheet of s.marks s.prices p

    abbrev rest : List Bool
    rest = rest_of sheet of a p s

    abbrev k : ℕ
    k = length (members rest of.bids)

    sound : (i : ℕ) → In i l → (i < of.bids) × (live P t i ≡ true) × (row_price sheet i ≡ p) × In i P.bids
    sound = looks.sound sheet of ok t s R

    few : (i : ℕ) → In i l → i < most_bids
    few = looks.few sheet of ok t s R

    of_set : members a of.bids ≡ l
    of_set = looks.of_set sheet of ok t s R

    at_price : (i : ℕ) → In i l → P.price i ≡ p
    unfolding pot_in
    at_price i h = (sound i h).2

    new : (i : ℕ) → In i l → memb i ws ≡ false
    new i h = not_won P t i (sound i h).1

    rest_is : rest ≡ built (keeps_of sheet of base p a) of.bids
    unfolding rest_of
    rest_is = refl

    pub of_rest : members rest of.bids ≡ remaining P ws l
    of_rest =
        tie.of_rest sheet of ok ws s.marks s.prices (holds_rep R).marked R.sizes.prices R.price p refl a l (of_set)
        (link.taken_part sheet of ok t) at_price new rest rest_is

    module _ (h : k ≤ widest_tie) where
      abbrev ch : List ℕ
      ch = choose P (drawn_after P t) ws l

      abbrev choice : Choice
      choice = choice_in sheet of a p s

      abbrev w : List Bool
      w = choice.wins

      choice_is : choice ≡ choice_of sheet of base (tied_of sheet of rest k) p s.drawn
      unfolding choice_in
      choice_is = refl

      of_choice : members w of.bids ≡ ch
      of_choice =
          tie.of_choice sheet of ok ws s.marks s.prices (holds_rep R).marked R.sizes.prices R.price p refl a l (of_set)
          (link.taken_part sheet of ok t) at_price new rest rest_is refl h s.drawn R.drawn choice_is

      number_left : number_in (one_more choice.drawn) ≡ divided (number_in (one_more s.drawn)) (ways_of P ws l)
      number_left =
          tie.number_left sheet of ok ws s.marks s.prices (holds_rep R).marked R.sizes.prices R.price p refl a l (of_set)
          (link.taken_part sheet of ok t) at_price new rest rest_is refl h s.drawn refl choice_is

      in_w : (i : ℕ) → In i l → get_or w i false ≡ memb i ch
      in_w i j =
          tie.choice_at sheet of ok ws s.marks s.prices (holds_rep R).marked R.sizes.prices R.price p refl a l (of_set)
          (link.taken_part sheet of ok t) at_price new rest rest_is refl h s.drawn R.drawn choice_is i (sound i j).0

      in_choice : (i : ℕ) → In i ch → In i l
      in_choice =
          tie.chosen_among sheet of ok ws s.marks s.prices (holds_rep R).marked R.sizes.prices R.price p refl a l (of_set)
          (link.taken_part sheet of ok t) at_price new rest rest_is refl h (drawn_after P t)

      abbrev out : List ℕ
      out = others P l ch

      of_others : members (built (without a w) of.bids) of.bids ≡ out
      unfolding without
      of_others =
          members_built (without a w) of.bids ok.few
          ∙ sym (sift_both (λ i. not (get_or w i false)) (λ i. get_or a i false) (below of.bids))
          ∙ ap (sift (λ i. not (get_or w i false))) (opened ∙ of_set)
          ∙ sift_same (λ i. not (get_or w i false)) (λ i. not (memb i ch)) l (λ i j. ap not (in_w i j))
        where
          opened : sift (λ i. get_or a i false) (below of.bids) ≡ members a of.bids
          opened = unfold members in refl

      in_out : (i : ℕ) → In i out → In i l × (memb i ch ≡ false)
      in_out i j = let f = sift_in i (λ c. not (memb c ch)) l j in (f.0, not_is_true (memb i ch) f.1)

      abbrev v : PotState
      v = win_all sheet p s ch

      abbrev x : PotState
      x = numbered_of choice.drawn (hung_of None (turn_all sheet down_tied v out))

      sv : Sizes v
      sv = win_sizes sheet p s R.sizes ch

      shared_did : Did P (shared P t l) s x
      unfolding numbered_of hung_of hangs pot_in
      shared_did = record {
        sizes = let f = turn_sizes sheet down_tied v sv out in record { marks = f.marks; won = f.won; opened = f.opened; prices = f.prices };
        marks = λ i.
            turn_marks sheet down_tied v sv out i (λ c j. few c (in_out c j).0)
            ∙ ap (pick (memb i out) down_tied) (win_marks sheet p s R.sizes ch i (λ c j. few c (in_choice c j)))
            ∙ swap i;
        won =
            λ y j. ap (λ (q : List Bool). get_or q y false) (turn_won sheet down_tied v sv out)
            ∙ win_won sheet p s R.sizes ch y (λ c g. ok.app c (sound c (in_choice c g)).0);
        opened = λ d j.
            turn_opened sheet down_tied v sv out d (λ c g. ok.year c (sound c (in_out c g).0).0)
            ∙ ap (λ (q : List Bool). not (memb d (map (row_year sheet) out)) && get_or q d false) (win_opened sheet p s R.sizes ch);
        prices = λ d j.
            ap (λ (q : List ℕ). get_or q d 0) (turn_prices sheet down_tied v sv out)
            ∙ link.win_prices sheet of ok ws s R.sizes p ch d (λ c g. let f = sound c (in_choice c g) in (f.0, f.2));
        hang = refl;
        drawn = number_left;
      }
        where
          swap : (i : ℕ) → pick (memb i out) down_tied (pick (memb i ch) because_won (get_or s.marks i 0))
              ≡ pick (memb i ch) because_won (pick (memb i out) down_tied (get_or s.marks i 0))
          swap i = case (memb i out) (λ e. rw (e, (in_out i (memb_in i out e)).1)) (λ e. rw e)

      -- the arrays after a tie that is not too wide
      shared_rep : Rep P (shared P t l ∷ t) (shared_of sheet of a choice p s)
      unfolding shared_of
      shared_rep =
          rw (of_choice, of_others)
          (rep_did P t (shared P t l) s x refl refl (λ i j. new i (in_out i j).0) (λ i j. (sound i (in_choice i j)).3)
          (λ i j. (sound i (in_out i j).0).3) R shared_did)

      shared_wide : (shared_of sheet of a choice p s).wide ≡ s.wide
      unfolding shared_of numbered_of hung_of
      shared_wide = rw (of_choice) (turn_wide sheet down_tied v sv (members (built (without a w) of.bids) of.bids) ∙ win_wide sheet p s R.sizes ch)

    -- the arrays after any tie
    pub tied_stands : s.wide ≡ false → Stands P (tied P t l ∷ t) (tie_of sheet of a p s)
    unfolding tied tie_of widened wide_end
    tied_stands n =
        rw (← (ap length of_rest))
        (case (ltb widest_tie k)
        (λ e. rw e (record { wide = refl; rep = λ f. clash refl f }))
        (λ e. rw e (subst (Stands P (shared P t l ∷ t)) (sym (revalued_sums sheet of (shared_of sheet of a (choice_in sheet of a p s) p s)))
        (stands_sums _ _ (record { wide = shared_wide (ltb-false widest_tie k e) ∙ n; rep = λ f. shared_rep (ltb-false widest_tie k e) })))))
