-- One pot more is told. Assumes nothing.
use Prim.Native.Nat.{ℕ, ◌+◌, ◌<◌}
use mathlib.Core.Path.{◌≡◌, refl, sym, ap, ◌∙◌}
use mathlib.Core.Bool.{Bool, true, false, ◌&&◌}
use mathlib.Core.List.{List}
use native.Mathlib.Omega.{arith}
use lib.ListN.{get_or, set, replicate, length-set}
use lib.Dec.{eqb, ltb}
use borrow.Author.Tests.{eq-eqb, lt-ltb, le-ltb}
use Rattle.rules.specs.Names.{most_pots, most_deliveries, most_years, most_apps, most_bids, no_reason}
use Rattle.rules.specs.Lists.{pick, memb, sift, below}
use Rattle.rules.specs.File.{Round}
use Rattle.rules.specs.Pot.{Pot, outcome, price_in, total_in, reason}
use Rattle.rules.specs.Round.{mine, app_mine, assemble, pot_of}
use Rattle.rules.specs.Result.{app_told, pot_at}
use Rattle.rules.specs.declared.Told.{Told}
use Rattle.laws_pot.specs.Lists.{case}
use Rattle.laws_reading.specs.Reading.{Sound}
use Rattle.laws_round.specs.Bids.{app_pot, bid_pot, mine_own, app_mine_lem}
use Rattle.sheet.specs.declared.Size.{Size}
use Rattle.sheet.specs.Sheet.{in_auction, in_test, pot_in}
use Rattle.arrays.proofs.Arrays.{put_is, memb_sift, same_at}
use Rattle.fill.specs.Fill.{size_of}
use Rattle.auction.specs.declared.Cleared.{Cleared}
use Rattle.auction.specs.Cleared.{ClearedAs}
use Rattle.result.specs.declared.PotTold.{PotTold}
use Rattle.result.specs.declared.Tellings.{Tellings}
use Rattle.auction.specs.Outcomes.{number_of}
use Rattle.result.specs.Tells.{untold, no_pot}
use Rattle.tell.specs.ToldTo.{ToldTo, told_with}
use Rattle.tell.proofs.Laws.{merged_length, told_more, column_more}

-- ---- the sheet of pot p tells which applications and bids are its own

module _ (R : Round) (p : ℕ) where
  own_bid : (k : ℕ) → k < R.b → memb k (pot_of R p).bids ≡ eqb (bid_pot R k) p
  own_bid k h = ap (memb k) meant ∙ memb_sift (mine R p) k R.b h ∙ mine_own R p k h
    where
      meant : (pot_of R p).bids ≡ sift (mine R p) (below R.b)
      meant = unfold pot_of assemble in refl

  own_app : (a : ℕ) → a < R.n → memb a (pot_of R p).apps ≡ eqb (app_pot R a) p
  own_app a h = ap (memb a) meant ∙ memb_sift (app_mine R p) a R.n h ∙ app_mine_lem R p a h
    where
      meant : (pot_of R p).apps ≡ sift (app_mine R p) (below R.n)
      meant = unfold pot_of assemble in refl

  module _ (sheet : List ℕ) (m n : ℕ) (E : pot_in sheet (size_of R m n) ≡ pot_of R p) where
    shown_bid : (k : ℕ) → k < R.b → in_auction sheet k ≡ eqb (bid_pot R k) p
    shown_bid k h = sym (memb_sift (in_auction sheet) k R.b h) ∙ ap (memb k) (shown ∙ ap (λ (Q : Pot). Q.bids) E) ∙ own_bid k h
      where
        shown : sift (in_auction sheet) (below R.b) ≡ (pot_in sheet (size_of R m n)).bids
        shown = unfold pot_in in refl

    shown_app : (a : ℕ) → a < R.n → in_test sheet a ≡ eqb (app_pot R a) p
    shown_app a h = sym (memb_sift (in_test sheet) a R.n h) ∙ ap (memb a) (shown ∙ ap (λ (Q : Pot). Q.apps) E) ∙ own_app a h
      where
        shown : sift (in_test sheet) (below R.n) ≡ (pot_in sheet (size_of R m n)).apps
        shown = unfold pot_in in refl

    module _ (S : Sound R) (h : p < R.p) (c : Cleared) (C : ClearedAs (size_of R m n) (pot_of R p) c) where
      -- what is told now of an application, and of a bid, of the pot
      app_now : (a : ℕ) → a < R.n → app_pot R a ≡ p → get_or c.apps a untold ≡ app_told R a
      app_now a l e = C.app a ∙ rw (lt-ltb a R.n l) (unfold app_told in rw e)

      reason_now : (k : ℕ) → k < R.b → bid_pot R k ≡ p → get_or c.reasons k 0 ≡ reason (pot_at R k) k
      reason_now k l e =
          C.reason k ∙ rw (own_bid k l ∙ eq-eqb (bid_pot R k) p e) (ap (λ (q : ℕ). reason (pot_of R q) k) (sym e))

      -- and of the pot
      abbrev pot_now : PotTold
      pot_now = record { outcome = number_of c.outcome; prices = c.prices; totals = c.totals }

      pub tell_pot : (t : Tellings) → ToldTo R p t → ToldTo R (p + 1) (told_with sheet (size_of R m n) p c t)
      unfolding told_with
      tell_pot t T = record {
        sizes = record {
          pots = length-set t.pots p _ ∙ T.sizes.pots;
          apps = merged_length (in_test sheet) c.apps t.apps untold R.n ∙ T.sizes.apps;
          reasons = merged_length (in_auction sheet) c.reasons t.reasons no_reason R.b ∙ T.sizes.reasons;
        };
        outcome = λ q. pot_at_lem q (λ (x : PotTold). x.outcome) ∙ told_more q p (outcome (pot_of R q)) 0 (λ e. rw e C.outcome) (T.outcome q);
        price =
            λ q d l. pot_at_lem q (λ (x : PotTold). get_or x.prices d 0) ∙ told_more q p (price_in (pot_of R q) d) 0 (λ e. rw e (C.price d l)) (T.price q d l);
        total =
            λ q y. pot_at_lem q (λ (x : PotTold). get_or x.totals y 0)
            ∙ told_more q p (pick (ltb y R.y) (total_in (pot_of R q) y) 0) 0 (λ e. rw e (C.total y)) (T.total q y);
        app = column_more p R.n (in_test sheet) (app_pot R) (app_told R) c.apps t.apps untold
            (omega (arith, T.sizes.apps, S.apps_few)) shown_app app_now T.app;
        reason = column_more p R.b (in_auction sheet) (bid_pot R) (λ k. reason (pot_at R k) k) c.reasons t.reasons no_reason
            (omega (arith, T.sizes.reasons, S.bids_few)) shown_bid reason_now T.reason;
      }
        where
          pot_at_lem : (q : ℕ) (f : PotTold → ℕ) → f (get_or (set t.pots p pot_now) q no_pot) ≡ pick (eqb q p) (f pot_now) (f (get_or t.pots q no_pot))
          pot_at_lem q f =
              ap f (put_is t.pots p q pot_now no_pot (omega (arith, T.sizes.pots, S.pots_few)))
              ∙ case (eqb q p) (λ y. rw y) (λ z. rw z)

-- ---- one law for each return

-- nothing is told
pub told_none : (R : Round) → ToldTo R 0 (record {
  pots = replicate most_pots (record { outcome = 0; prices = replicate most_deliveries 0; totals = replicate most_years 0 });
  apps = replicate most_apps untold;
  reasons = replicate most_bids no_reason;
})
told_none R = record {
  sizes = record { pots = refl; apps = refl; reasons = refl };
  outcome = λ q. rw (le-ltb q 0 (omega arith)) (same_at (λ (x : PotTold). x.outcome) most_pots q _ no_pot refl);
  price =
      λ q d l. rw (le-ltb q 0 (omega arith)) (same_at (λ (x : PotTold). get_or x.prices d 0) most_pots q _ no_pot
      (same_at (λ (x : ℕ). x) most_deliveries d 0 0 refl));
  total =
      λ q y. rw (le-ltb q 0 (omega arith)) (same_at (λ (x : PotTold). get_or x.totals y 0) most_pots q _ no_pot
      (same_at (λ (x : ℕ). x) most_years y 0 0 refl));
  app = λ a. same_at (λ (x : Told). x) most_apps a untold untold refl ∙ none (app_told R a) untold (ltb a R.n) (app_pot R a);
  reason = λ k. same_at (λ (x : ℕ). x) most_bids k 0 0 refl ∙ none (reason (pot_at R k) k) no_reason (ltb k R.b) (bid_pot R k);
}
  where
    none : {A : Type 0} (x d : A) (s : Bool) (q : ℕ) → d ≡ pick (s && ltb q 0) x d
    none x d true q = rw (le-ltb q 0 (omega arith))
    none x d false q = refl

-- the pot told is the next of the round
pub told_next : (R : Round) (p : ℕ) (sheet : List ℕ) (of : Size) {m n : ℕ} → of ≡ size_of R m n → pot_in sheet of ≡ pot_of R p → Sound R → p < R.p
    → (c : Cleared) → ClearedAs of (pot_in sheet of) c → (t : Tellings) {r : Tellings} → r ≡ told_with sheet of p c t
    → ToldTo R p t → ToldTo R (p + 1) r
told_next R p sheet of {m} {n} eo E S h c C t e T =
    let F : pot_in sheet (size_of R m n) ≡ pot_of R p = rw eo at E in
    let D : ClearedAs (size_of R m n) (pot_of R p) c = rw eo at (rw E at C) in
    rw (e, eo) (tell_pot R p sheet m n F S h c D t T)
