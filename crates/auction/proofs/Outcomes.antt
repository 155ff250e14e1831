-- However a pot ended, what is told from its arrays is what the rules tell of it. Assumes nothing.
use Prim.Native.Nat.{ℕ, ◌≤◌, ◌<◌, min}
use mathlib.Core.Path.{◌≡◌, refl, sym, ap, ap₂, ◌∙◌}
use mathlib.Core.Bool.{Bool, true, false, not, ◌&&◌}
use mathlib.Core.List.{List, [], ◌∷◌, map}
use native.Mathlib.Omega.{arith}
use lib.ListN.{length, get_or, replicate}
use lib.Dec.{eqb, ltb}
use borrow.Author.Tests.{lt-ltb, ne_eqb}
use Rattle.rules.specs.Names.{most_bids, most_apps, most_deliveries, no_price, no_reason, because_won, because_administrative, because_too_wide}
use Rattle.rules.specs.Names.{because_silent}
use Rattle.rules.specs.Lists.{pick, memb, sift, below}
use Rattle.rules.specs.Pot.{Pot, winners, seen, price_from, clearing, total, auction, wide_end, admin_fits, winners_of}
use Rattle.rules.specs.Pot.{by, outcome, price_in, total_in, paid, unlooked_reason, auction_reason, reason, silent, automatic_reason}
use Rattle.rules.specs.Result.{told, told_in}
use Rattle.auction.specs.declared.Outcome.TheVariants.{Administrative, TooWide}
use Rattle.result.specs.Tells.{untold}
use Rattle.rules.specs.declared.Told.{Told}
use Rattle.laws_pot.specs.Lists.{case, clash, In, here, memb_in, sift_in, sift_same, sift_both, below_in}
use Rattle.sheet.specs.declared.Size.{Size}
use Rattle.sheet.specs.Sheet.{columns, row_app, row_year, row_admin, in_auction, entrant_at, entrants, pot_in, Ready}
use Rattle.sheet.proofs.Entrants.{entrant_small}
use Rattle.arrays.proofs.Arrays.{at_start, fill_each, repeated}
use Rattle.totals.specs.Totals.{filled, row_fits, admin_total_of, column_sum}
use Rattle.totals.proofs.Link as link
use Rattle.ties.proofs.Sums.{price_won}
use Rattle.pot.specs.declared.PotState.{PotState}
use Rattle.pot.specs.Marks.{Summed}
use Rattle.pot.specs.Rep.{Rep, Stands}
use Rattle.pot.proofs.Sums.{sum_total}
use Rattle.pot.proofs.Link as held
use Rattle.auction.specs.declared.End.{End}
use Rattle.auction.specs.declared.Winning.{Winning}
use Rattle.auction.specs.declared.Winning.TheVariants.{Lost, AtAdmin}
use Rattle.auction.specs.Cleared.{ClearedAs, EndedAs}
use Rattle.auction.specs.Numbers.{reason_by, reason_at, reasons_of, automatics_of, winning_of, told_by, no_apps, apps_of, flat_of, sold_of, money_of}
use Rattle.auction.proofs.Places.{money_each, reasons_at, automatics_at, bid_or, won_for, winning_at, winning_known, known_flat}

module _ (sheet : List ℕ) (of : Size) (ok : Ready sheet of) where
  abbrev P : Pot
  P = pot_in sheet of

  bid : (k : ℕ) → k < of.bids → in_auction sheet k ≡ true → In k P.bids
  bid = link.bid sheet of ok

  bid_lt : (k : ℕ) → In k P.bids → k < of.bids
  bid_lt = link.bid_lt sheet of ok

  -- ---- outcome 1
  module _ (s : PotState) (R : Rep P (auction P) s) where
    abbrev marks : List ℕ
    marks = s.marks

    abbrev ws : List ℕ
    ws = winners (auction P)

    marked_won : (a k : ℕ) → k < of.bids → won_for sheet marks a k ≡ (in_auction sheet k && (eqb (row_app sheet k) a && memb k ws))
    marked_won a k h =
        case (in_auction sheet k)
        (λ t. rw (t, R.one k (bid k h t)))
        (λ f. rw (f, R.other k (link.small sheet of ok k h) (link.not_bid sheet of ok k f)) (no (eqb (row_app sheet k) a)))
      where
        no : (x : Bool) → (x && false) ≡ false
        no true = refl
        no false = refl

    -- the winners of an application, as the arrays have them
    its_winners : (a : ℕ) → sift (won_for sheet marks a) (below of.bids) ≡ winners_of P a
    its_winners a =
        sift_same (won_for sheet marks a) (λ k. in_auction sheet k && (eqb (row_app sheet k) a && memb k ws)) (below of.bids)
        (λ k i. marked_won a k (below_in k of.bids i))
        ∙ sym (sift_both (λ k. eqb (row_app sheet k) a && memb k ws) (in_auction sheet) (below of.bids)) ∙ opened
      where
        opened : sift (λ k. eqb (row_app sheet k) a && memb k ws) (sift (in_auction sheet) (below of.bids)) ≡ winners_of P a
        opened = unfold pot_in winners_of in refl

    winning_told : (a : ℕ) → a < most_apps → get_or (winning_of sheet marks of.bids) a Lost ≡ bid_or (winners_of P a)
    winning_told a h = winning_at sheet marks of.bids a ok.app h ∙ ap bid_or (its_winners a)

    -- what a winner is paid
    won_price : (w : ℕ) → In w ws → price_from P no_price ws (row_year sheet w) ≡ clearing P ws (row_year sheet w)
    won_price w i = started (price_won P no_price w ws i)
      where
        started : price_from P no_price ws (P.yr w) ≡ clearing P ws (P.yr w) → price_from P no_price ws (row_year sheet w) ≡ clearing P ws (row_year sheet w)
        started e = unfold pot_in in e

    paid_told : (w : ℕ) → In w P.bids → In w ws → min (get_or s.prices (row_year sheet w) 0) (row_admin sheet w) ≡ paid P w
    paid_told w i j = ap (λ (x : ℕ). min x (row_admin sheet w)) (R.price (row_year sheet w) (ok.year w (bid_lt w i)) ∙ won_price w j) ∙ opened
      where
        opened : min (clearing P ws (row_year sheet w)) (row_admin sheet w) ≡ paid P w
        opened = unfold paid pot_in in refl

    -- what is told of an application whose winners are listed
    told_by_lem : (a why : ℕ) (l : List ℕ) → winners_of P a ≡ l → told_by sheet s.prices a (bid_or l) why ≡ told P why l
    unfolding told_by told
    told_by_lem a why [] e = refl
    told_by_lem a why (w ∷ l) e =
        let z = its w l e in
        rw (paid_told w z.0 z.1)
      where
        its : (w : ℕ) (l : List ℕ) → winners_of P a ≡ w ∷ l → In w P.bids × In w ws
        its w l e =
            let i : In w (winners_of P a) = rw e (here refl) in
            let z = sift_in w (λ w. eqb (P.app w) a && memb w ws) P.bids (listed i) in
            (z.0, memb_in w ws (second (eqb (P.app w) a) (memb w ws) z.1))
          where
            listed : In w (winners_of P a) → In w (sift (λ w. eqb (P.app w) a && memb w ws) P.bids)
            listed i = unfold winners_of in i

            second : (x v : Bool) → (x && v) ≡ true → v ≡ true
            second true v e = e
            second false v e = clash e refl

    -- the reason of a bid
    reason_told : (k : ℕ) → In k P.bids → reason_at sheet marks s.won k ≡ auction_reason P (auction P) k
    unfolding reason_at reason_by auction_reason unlooked_reason
    reason_told k i =
        case (memb k (seen (auction P)))
        (λ t. rw (t, R.fresh k i) (rw t (R.why k i)))
        (λ f. rw (f, R.fresh k i) (rw f (app_won (R.has (row_app sheet k) (ok.app k (bid_lt k i))))))
      where
        app_won : get_or s.won (row_app sheet k) false ≡ memb (row_app sheet k) (map P.app ws)
            → ◌≡◌ {A = ℕ} (pick (get_or s.won (row_app sheet k) false) 4 5) (pick (memb (P.app k) (map P.app ws)) 4 5)
        app_won e = unfold pot_in in ap (λ (x : Bool). pick x 4 5) e

    -- the row of totals
    total_told : Summed sheet of s → (y : ℕ) → y < of.years → get_or s.totals y 0 ≡ total P ws y
    total_told Q y g =
        let c : y < of.columns = omega (arith, ok.columns_least) in
        ap (λ (l : List ℕ). get_or l y 0) Q.row ∙ link.row_at sheet of ok (column_sum s.sums) y c ∙ sum_total Q.parts y c ok others
        ∙ held.total_is sheet of ok ws s (held.holds_rep R) y ∙ link.total_column P ws y (year g)
      where
        year : {y : ℕ} → y < of.years → y < P.years
        year h = unfold pot_in in h

        others : (k : ℕ) → k < of.bids → in_auction sheet k ≡ false → eqb (get_or marks k 0) because_won ≡ false
        others k h f = rw (R.other k (link.small sheet of ok k h) (link.not_bid sheet of ok k f))

    -- all of it
    sold : admin_fits P ≡ false → wide_end (auction P) ≡ false → Summed sheet of s → EndedAs sheet of (sold_of sheet of s)
    unfolding sold_of
    sold t u Q = record {
      outcome = unfold outcome in rw (t, u);
      price = λ d h. R.price d h ∙ (unfold price_in in rw (t, u));
      total = λ y g. total_told Q y g ∙ (unfold total_in in rw (t, u));
      reason = λ k i. reason_told k i ∙ (unfold reason in rw (t, u));
      app = λ a h.
          ap (λ (w : Winning). told_by sheet s.prices a w (automatic_reason P a)) (winning_told a (omega (arith, ok.apps)))
          ∙ told_by_lem a (automatic_reason P a) (winners_of P a) refl
          ∙ (unfold told_in in rw (t, u));
      known = winning_known sheet marks of of.bids (omega arith) ok.app;
      automatic = rw (t, u);
    }

  -- ---- outcomes 0 and 2
  abbrev none : List ℕ
  none = replicate most_deliveries no_price

  -- all bids have one mark, which is a reason
  flat_reason : (mark k : ℕ) → (mark ≡ no_reason → ⊥) → In k P.bids
      → reason_at sheet (replicate most_bids mark) (replicate most_apps false) k ≡ mark
  unfolding reason_at reason_by
  flat_reason mark k n i = rw (at_start most_bids k mark 0 (link.small sheet of ok k (bid_lt k i)), ne_eqb mark no_reason n)

  -- what all applications won with stands at each place
  told_flat : (a why : ℕ) (w : Winning) → a < of.applications → told_by sheet none a (get_or (replicate most_apps w) a Lost) why ≡ told_by sheet none a w why
  told_flat a why w h = ap (λ (v : Winning). told_by sheet none a v why) (at_start most_apps a w Lost (omega (arith, ok.apps)))

  admin : admin_fits P ≡ true → {totals : List ℕ} → totals ≡ filled (λ c. admin_total_of sheet of c of.applications) of.columns
      → EndedAs sheet of (flat_of Administrative totals because_administrative AtAdmin)
  unfolding flat_of
  admin t {totals} e = record {
    outcome = unfold outcome in rw t;
    price = λ d h. at_start most_deliveries d no_price 0 h ∙ (unfold price_in in rw t);
    total = λ y g.
        ap (λ (l : List ℕ). get_or l y 0) e ∙ link.row_at sheet of ok (λ c. admin_total_of sheet of c of.applications) y (omega (arith, ok.columns_least))
        ∙ link.admin_total_is sheet of ok y g ∙ (unfold total_in in rw t);
    reason = λ k i. flat_reason because_administrative k (λ e. omega arith) i ∙ (unfold reason in rw t);
    app = λ a h.
        told_flat a (automatic_reason P a) AtAdmin h ∙ (unfold told_by told_in pot_in in rw (t, lt-ltb a of.applications h));
    known = λ a. known_flat of AtAdmin most_apps a tt;
    automatic = rw t;
  }

  wide : admin_fits P ≡ false → wide_end (auction P) ≡ true → EndedAs sheet of (flat_of TooWide (replicate columns 0) because_too_wide Lost)
  unfolding flat_of
  wide t u = record {
    outcome = unfold outcome in rw (t, u);
    price = λ d h. at_start most_deliveries d no_price 0 h ∙ (unfold price_in in rw (t, u));
    total = λ y g. repeated columns y 0 ∙ (unfold total_in in rw (t, u));
    reason = λ k i. flat_reason because_too_wide k (λ e. omega arith) i ∙ (unfold reason in rw (t, u));
    app = λ a h.
        told_flat a (automatic_reason P a) Lost h ∙ (unfold told_by told_in in rw (t, u));
    known = λ a. known_flat of Lost most_apps a tt;
    automatic = rw (t, u);
  }

  -- ---- one law for each return of `ended`: t is the answer of the first test, whose totals are `first`
  module _ {first : List ℕ} {t : Bool} (ef : first ≡ filled (λ c. admin_total_of sheet of c of.applications) of.columns)
      (et : t ≡ row_fits sheet first of.columns) where
    fits_first : t ≡ admin_fits P
    fits_first = link.admin_fits_lem sheet of ok ef et

    pub ended_admin : {r : End} → t ≡ true → r ≡ flat_of Administrative first because_administrative AtAdmin → EndedAs sheet of r
    ended_admin h e = rw e (admin (sym fits_first ∙ h) ef)

    module _ (s : PotState) (S : Stands P (auction P) s × Summed sheet of s) (h : t ≡ false) where
      pub ended_wide_lem : {r : End} → s.wide ≡ true → r ≡ flat_of TooWide (replicate columns 0) because_too_wide Lost → EndedAs sheet of r
      ended_wide_lem w e = rw e (wide (sym fits_first ∙ h) (sym S.0.wide ∙ w))

      pub ended_sold : {r : End} → s.wide ≡ false → r ≡ sold_of sheet of s → EndedAs sheet of r
      ended_sold w e = let u = sym S.0.wide ∙ w in rw e (sold s (S.0.rep u) (sym fits_first ∙ h) u S.1)

  -- ---- and of `clear_pot`: what is told from how the pot ended
  in_auction_lem : (k : ℕ) → memb k (entrants sheet of.entered) ≡ memb k P.bids
  in_auction_lem k = unfold pot_in in ap (memb k) ok.listed

  -- an application has an automatic reason where none of the bids that enter is its own
  automatic_told : (why a : ℕ) → a < most_apps → why ≡ by P because_administrative because_silent because_too_wide
      → get_or (automatics_of sheet why of.entered) a 0 ≡ automatic_reason P a
  automatic_told why a h e =
      automatics_at sheet why of.entered a (λ i l. ok.app (entrant_at sheet i) (entrant_small ok i l)) h
      ∙ ap₂ (λ (l : List ℕ) (x : ℕ). pick (not (memb a (map (row_app sheet) l))) x no_reason) ok.listed e
      ∙ (unfold automatic_reason silent pot_in in refl)

  pub cleared : {e : End} → EndedAs sheet of e → {reasons automatics : List ℕ} {apps : List Told}
      → reasons ≡ reasons_of sheet e.marks e.won of.entered
      → automatics ≡ automatics_of sheet e.automatic of.entered
      → apps ≡ apps_of sheet e.prices e.winning automatics of.applications
      → {totals : List ℕ} → totals ≡ money_of e.totals of.years
      → ClearedAs of P (record { outcome = e.outcome; prices = e.prices; totals = totals; apps = apps; reasons = reasons })
  cleared {e} E {reasons} {automatics} {apps} er em ea et = record {
    outcome = E.outcome;
    price = E.price;
    total = λ y. ap (λ (l : List ℕ). get_or l y 0) et ∙ money_each e.totals (total_in P) of.years ok.years E.total y;
    app = λ a. ap (λ (l : List Told). get_or l a untold) ea ∙ each_app a;
    reason = told;
  }
    where
      told : (k : ℕ) → get_or reasons k 0 ≡ pick (memb k P.bids) (reason P k) no_reason
      told k =
          ap (λ (l : List ℕ). get_or l k 0) er
          ∙ reasons_at sheet e.marks e.won of.entered k (λ i l. omega (arith, entrant_small ok i l, ok.few))
          ∙ rw (in_auction_lem k) (case (memb k P.bids) (λ t. rw t (E.reason k (memb_in k P.bids t))) (λ f. rw f))

      each_app : (a : ℕ) → get_or (apps_of sheet e.prices e.winning automatics of.applications) a untold
          ≡ pick (ltb a of.applications) (told_in P a) untold
      each_app =
          fill_each no_apps (λ a. told_by sheet e.prices a (get_or e.winning a Lost) (get_or automatics a 0)) (told_in P) of.applications untold long blank
          (λ a h. ap (told_by sheet e.prices a (get_or e.winning a Lost))
          (ap (λ (l : List ℕ). get_or l a 0) em ∙ automatic_told e.automatic a (omega (arith, ok.apps)) E.automatic)
          ∙ E.app a h)
        where
          long : of.applications ≤ length no_apps
          long = unfold no_apps in ok.apps

          blank : (a : ℕ) → get_or no_apps a untold ≡ untold
          blank a = unfold no_apps in repeated most_apps a untold
