-- "Two accepted files with equal counts that differ only in declared costs, and in budgets, technologies, applications and bids of other pots, each pot's
-- records at the same places, give one pot the same outcome, prices, totals and reasons"; and so where they differ in other pots' caps (02, CR 5) and drawn
-- numbers: "The independence of pots reads the drawn number as that pot's own" (02, CR 6). Assumes nothing.
use Rattle.std.specs.Prelude.{ℕ, ◌+◌, ◌*◌, ◌≤◌, ◌<◌, ◌≡◌, ◌↔◌, eqb, ltb}
use Rattle.std.proofs.Common.{sym, ap₂, ◌∙◌, arith, eqb-true, eq-eqb, ne_eqb, ltb-true}
use Rattle.std.proofs.Math.Path.{ap}
use Rattle.std.proofs.Math.Option.{Option, none, some}
use Rattle.std.proofs.Math.Decide.{dec_lt}
use Rattle.std.proofs.lemmas.Bool.{eqb-false}
use Rattle.rules.specs.Names.{pence_per_pound, no_cap, cap_width, pot_width, tech_width, app_width, bid_width}
use Rattle.rules.specs.Lists.{pick, sift, below}
use Rattle.rules.specs.Bytes.{le}
use Rattle.rules.specs.File.{Round, App, Bid, budget_at, cap_at, drawn_at, tech_at, app_at, bid_at}
use Rattle.rules.specs.Pot.{Pot, outcome, price_in, total_in, reason}
use Rattle.rules.specs.Round.{blank, tech_of, at_admin_price, mine, app_mine, row_for, assemble, budget_of, cap_of, drawn_of, pot_of}
use Rattle.rules.specs.Result.{pot_at, told_in, app_told}
use Rattle.laws_pot.specs.Lists.{case, sift_same}
use Rattle.laws_reading.specs.Alike.{Same, le_same}
use Rattle.laws_reading.specs.Reading.{Sound, whole_gained, whole_drawn, app_tech, app_year}
use Rattle.laws_round.specs.Bids.{app_pot, bid_pot, mine_own, mine_out, mine_in, app_mine_lem, app_out, app_in, Mine, mine_is, app_mine_is}

-- the bytes of an application before its declared cost
abbrev pub undeclared : ℕ
undeclared = 12

-- the two files differ elsewhere than in pot p
pub record DifferElsewhere (p : ℕ) (f g : Round) : Type 0 where
  -- "equal counts": that of the pots tells of caps in both or in neither, and of drawn numbers
  pub count_y : f.y ≡ g.y
  pub count_c : f.c ≡ g.c
  pub count_p : f.p ≡ g.p
  pub count_t : f.t ≡ g.t
  pub count_n : f.n ≡ g.n
  pub count_b : f.b ≡ g.b
  -- what the files may not differ in: the years; this pot's own record, its budgets, its cap and its drawn number; its technologies; its applications, but for
  -- their declared cost, the last 8 of an application's bytes; and its bids
  pub years : f.years ≡ g.years
  pub pot : Same f.pots g.pots (p * pot_width f.y f.c) (pot_width f.y f.c)
  pub techs : (i : ℕ) → i < f.t → (tech_at f.y f.techs i).pot ≡ p → Same f.techs g.techs (i * tech_width f.y) (tech_width f.y)
  pub apps : (i : ℕ) → i < f.n → app_pot f i ≡ p → Same f.apps g.apps (i * app_width) undeclared
  pub bids : (i : ℕ) → i < f.b → bid_pot f i ≡ p → Same f.bids g.bids (i * bid_width) bid_width
  -- "each pot's records at the same places"
  pub app_places : (i : ℕ) → i < f.n → (app_pot f i ≡ p) ↔ (app_pot g i ≡ p)
  pub bid_places : (i : ℕ) → i < f.b → (bid_pot f i ≡ p) ↔ (bid_pot g i ≡ p)

eqb_same : (a b p : ℕ) → (a ≡ p) ↔ (b ≡ p) → eqb a p ≡ eqb b p
eqb_same a b p h =
    case (eqb a p) (λ t. t ∙ sym (eq-eqb b p (h.0 (eqb-true a p t)))) (λ t. t ∙ sym (ne_eqb b p (λ e. eqb-false a p t (h.1 e))))

module _ (p : ℕ) (f g : Round) (F : Sound f) (A : DifferElsewhere p f g) where
  -- ---- one application of the pot
  module _ (a : ℕ) (h : a < f.n) (m : app_pot f a ≡ p) where
    app_le : (k x : ℕ) → x + k ≤ undeclared → le k f.apps (a * app_width + x) ≡ le k g.apps (a * app_width + x)
    app_le k x l = le_same k f.apps g.apps (a * app_width) undeclared (a * app_width + x) (A.apps a h m) (omega arith) (omega arith)

    app_same : app_at f.apps a ≡ app_at g.apps a
    app_same = λ i.
        record {
          tech = first i;
          year = app_le 2 2 (omega arith) i;
          days = app_le 2 4 (omega arith) i;
          draw =
              app_le 2 6 (omega arith) i;
          capacity = app_le 4 8 (omega arith) i;
        }
      where
        first : le 2 f.apps (a * app_width) ≡ le 2 g.apps (a * app_width)
        first = le_same 2 f.apps g.apps (a * app_width) undeclared (a * app_width) (A.apps a h m) (omega arith) (omega arith)

    abbrev t : ℕ
    t = (app_at f.apps a).tech

    -- a number of its technology's record, x bytes from the start
    tech_le : (k x : ℕ) → x + k ≤ tech_width f.y
        → le k f.techs (t * tech_width f.y + x) ≡ le k g.techs ((app_at g.apps a).tech * tech_width g.y + x)
    tech_le k x l =
        le_same k f.techs g.techs (t * tech_width f.y) (tech_width f.y) (t * tech_width f.y + x)
        (A.techs t (app_tech f F a h) m) (omega arith) (omega arith)
        ∙ ap₂ (λ (u : App) (y : ℕ). le k g.techs (u.tech * tech_width y + x)) app_same A.count_y

    -- and one of a year's figures, where the file has the year
    figure : (k x y : ℕ) → x + 10 * y + k ≤ 14 + 10 * y
        → pick (ltb y f.y) (le k f.techs (t * tech_width f.y + (x + 10 * y))) 0
        ≡ pick (ltb y g.y) (le k g.techs ((app_at g.apps a).tech * tech_width g.y + (x + 10 * y))) 0
    figure k x y l =
        let e : ltb y g.y ≡ ltb y f.y = ap (λ (z : ℕ). ltb y z) (sym A.count_y) in
        case (ltb y f.y) (λ u. rw (e, u) (tech_le k (x + 10 * y) (omega (arith, ltb-true y f.y u)))) (λ u. rw (e, u))

    admin_same : (y : ℕ) → y < f.y → (tech_of f (app_at f.apps a)).admin y ≡ (tech_of g (app_at g.apps a)).admin y
    admin_same y l = tech_le 4 (4 + 10 * y) (omega arith)

    -- what the first test needs of it
    at_admin_price_same : at_admin_price f a ≡ at_admin_price g a
    unfolding at_admin_price
    at_admin_price_same =
        let e = app_same in
        let q = admin_same (app_at f.apps a).year (omega (arith, app_year f F a h, F.few))
        ∙ ap (λ (x : App). (tech_of g (app_at g.apps a)).admin x.year) e in
        λ i. record { app = a; year = (e i).year; days = (e i).days; capacity = (e i).capacity; price = q i }

  -- the row of a bid of the pot, or of an application at its administrative price
  row_same : (x : Bid) → Mine f p x → row_for f x ≡ row_for g x
  unfolding row_for
  row_same x M =
      let h = M.app in
      let m = M.pot in
      let e = app_same x.app h m in
      let c = admin_same x.app h m x.year (omega (arith, M.year, F.few)) in
      let r = tech_le x.app h m 2 2 (omega arith) in
      λ i. record {
        bid = x;
        draw = (e i).draw;
        admin = c i;
        rqm = r i;
        reference = λ y. figure x.app h m 4 8 y (omega arith) i;
        load = λ y. figure x.app h m 2 12 y (omega arith) i;
      }

  -- ---- the bids, and the applications
  bid_same : (k : ℕ) → k < f.b → bid_pot f k ≡ p → bid_at f.bids k ≡ bid_at g.bids k
  bid_same k h m =
      λ i. record {
        app = first i;
        year = bid_le 2 2 (omega arith) i;
        days = bid_le 2 4 (omega arith) i;
        capacity =
            bid_le 4 6 (omega arith) i;
        price = bid_le 4 10 (omega arith) i;
      }
    where
      bid_le : (w x : ℕ) → x + w ≤ bid_width → le w f.bids (k * bid_width + x) ≡ le w g.bids (k * bid_width + x)
      bid_le w x l = le_same w f.bids g.bids (k * bid_width) bid_width (k * bid_width + x) (A.bids k h m) (omega arith) (omega arith)

      first : le 2 f.bids (k * bid_width) ≡ le 2 g.bids (k * bid_width)
      first = le_same 2 f.bids g.bids (k * bid_width) bid_width (k * bid_width) (A.bids k h m) (omega arith) (omega arith)

  mine_same : (k : ℕ) → mine f p k ≡ mine g p k
  mine_same k = go (dec_lt k f.b)
    where
      go : Dec (k < f.b) → mine f p k ≡ mine g p k
      go (yes h) = mine_own f p k h ∙ eqb_same _ _ p (A.bid_places k h) ∙ sym (mine_own g p k (omega (arith, A.count_b)))
      go (no h) = mine_out f p k (omega arith) ∙ sym (mine_out g p k (omega (arith, A.count_b)))

  app_mine_same : (a : ℕ) → app_mine f p a ≡ app_mine g p a
  app_mine_same a = go (dec_lt a f.n)
    where
      go : Dec (a < f.n) → app_mine f p a ≡ app_mine g p a
      go (yes h) = app_mine_lem f p a h ∙ eqb_same _ _ p (A.app_places a h) ∙ sym (app_mine_lem g p a (omega (arith, A.count_n)))
      go (no h) = app_out f p a (omega arith) ∙ sym (app_out g p a (omega (arith, A.count_n)))

  -- ---- the pot
  pub pot_same : pot_of f p ≡ pot_of g p
  unfolding pot_of cap_of drawn_of
  pot_same = λ i. assemble (A.years i) (A.count_y i) (bids i) (apps i) (λ k. rows k i) (λ a. own a i) (λ y. budget y i) (cap i) (drawn i)
    where
      bids : sift (mine f p) (below f.b) ≡ sift (mine g p) (below g.b)
      bids = sift_same (mine f p) (mine g p) (below f.b) (λ k i. mine_same k) ∙ ap (λ (n : ℕ). sift (mine g p) (below n)) A.count_b

      apps : sift (app_mine f p) (below f.n) ≡ sift (app_mine g p) (below g.n)
      apps = sift_same (app_mine f p) (app_mine g p) (below f.n) (λ a i. app_mine_same a) ∙ ap (λ (n : ℕ). sift (app_mine g p) (below n)) A.count_n

      rows : (k : ℕ) → pick (mine f p k) (row_for f (bid_at f.bids k)) blank ≡ pick (mine g p k) (row_for g (bid_at g.bids k)) blank
      rows k =
          case (mine f p k)
          (λ t.
          let z = mine_in f p k t in
          rw (sym (mine_same k) ∙ t, t) (row_same (bid_at f.bids k) (mine_is f F p k t) ∙ ap (row_for g) (bid_same k z.0 z.1)))
          (λ t. rw (sym (mine_same k) ∙ t, t))

      own : (a : ℕ) → pick (app_mine f p a) (row_for f (at_admin_price f a)) blank ≡ pick (app_mine g p a) (row_for g (at_admin_price g a)) blank
      own a =
          case (app_mine f p a)
          (λ t.
          let z = app_in f p a t in
          rw (sym (app_mine_same a) ∙ t, t) (row_same (at_admin_price f a) (app_mine_is f F p a t) ∙ ap (row_for g) (at_admin_price_same a z.0 z.1)))
          (λ t. rw (sym (app_mine_same a) ∙ t, t))

      -- a number of its record, x bytes from the start
      pot_le : (w x : ℕ) → x + w ≤ pot_width f.y f.c
          → le w f.pots (p * pot_width f.y f.c + x) ≡ le w g.pots (p * pot_width g.y g.c + x)
      pot_le w x l =
          le_same w f.pots g.pots (p * pot_width f.y f.c) (pot_width f.y f.c) (p * pot_width f.y f.c + x) A.pot (omega arith)
          (omega arith)
          ∙ ap₂ (λ (y c : ℕ). le w g.pots (p * pot_width y c + x)) A.count_y A.count_c

      budget : (y : ℕ) → budget_of f p y ≡ budget_of g p y
      budget y =
          let e : ltb y g.y ≡ ltb y f.y = ap (λ (z : ℕ). ltb y z) (sym A.count_y) in
          case (ltb y f.y)
          (λ u. rw (e, u) (ap (λ (z : ℕ). pence_per_pound * z) (pot_le 8 (8 * y) (omega (arith, ltb-true y f.y u)))))
          (λ u. rw (e, u))

      cap : cap_of f p ≡ cap_of g p
      cap =
          let e : ltb 0 g.c ≡ ltb 0 f.c = ap (λ (z : ℕ). ltb 0 z) (sym A.count_c) in
          case (ltb 0 f.c)
          (λ u. rw (e, u)
          (ap (λ (n : ℕ). pick (eqb n no_cap) none (some n))
          (pot_le 4 (8 * f.y) (omega (arith, whole_gained F.gained_told_lem (λ z. omega (arith, ltb-true 0 f.c u))))
          ∙ ap (λ (y : ℕ). le 4 g.pots (p * pot_width g.y g.c + 8 * y)) A.count_y)))
          (λ u. rw (e, u))

      drawn : drawn_of f p ≡ drawn_of g p
      drawn =
          let e : ltb cap_width g.c ≡ ltb cap_width f.c = ap (λ (z : ℕ). ltb cap_width z) (sym A.count_c) in
          case (ltb cap_width f.c)
          (λ u. rw (e, u)
          (ap (λ (n : ℕ). some n)
          (pot_le 4 (8 * f.y + cap_width) (omega (arith, whole_drawn F.gained_told_lem (ltb-true cap_width f.c u)))
          ∙ ap (λ (y : ℕ). le 4 g.pots (p * pot_width g.y g.c + (8 * y + cap_width))) A.count_y)))
          (λ u. rw (e, u))

-- What the result tells of pot p is the same
pub record SameTold (p : ℕ) (f g : Round) : Type 0 where
  pub outcome : outcome (pot_of f p) ≡ outcome (pot_of g p)
  pub prices : (d : ℕ) → price_in (pot_of f p) d ≡ price_in (pot_of g p) d
  pub totals : (y : ℕ) → total_in (pot_of f p) y ≡ total_in (pot_of g p) y
  pub apps : (a : ℕ) → a < f.n → app_pot f a ≡ p → app_told f a ≡ app_told g a
  pub bids : (k : ℕ) → k < f.b → bid_pot f k ≡ p → reason (pot_at f k) k ≡ reason (pot_at g k) k

pub apart : (p : ℕ) (f g : Round) → Sound f → DifferElsewhere p f g → SameTold p f g
unfolding app_told
apart p f g F A =
    let P = pot_same p f g F A in
    record {
      outcome = ap outcome P;
      prices = λ d. ap (λ (x : Pot). price_in x d) P;
      totals = λ y. ap (λ (x : Pot). total_in x y) P;
      apps = λ a h m. ap (λ (q : Pot). told_in q a) (ap (pot_of f) m ∙ P ∙ ap (pot_of g) (sym ((A.app_places a h).0 m)));
      bids = λ k h m. ap (λ (q : Pot). reason q k) (ap (pot_of f) m ∙ P ∙ ap (pot_of g) (sym ((A.bid_places k h).0 m)));
    }
