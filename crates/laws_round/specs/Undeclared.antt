-- "No declared cost enters any of them": two files of the same bytes but for declared costs get the same answer and the same bytes, refused or cleared. Assumes
-- nothing.
use Rattle.std.specs.Prelude.{ℕ, ◌+◌, ◌-◌, ◌*◌, ◌≤◌, ◌<◌, min, ◌≡◌, ◌&&◌, length, get_or}
use Rattle.std.proofs.Math.Path.{refl, ap, ap₂}
use Rattle.std.proofs.Common.{sym, ◌∙◌, arith}
use mathlib.Core.List.{List, ◌++◌}
use Rattle.std.proofs.Math.Decide.{dec_le, dec_lt, ℕ_discrete}
use Rattle.std.proofs.Math.Dec.{eqb, ltb}
use Rattle.rules.specs.Names.{count_width, app_width, bid_width, bytes_after, largest_capacity}
use Rattle.rules.specs.Names.{count_outside, app_broken, bid_broken, ends_early}
use Rattle.rules.specs.Lists.{pick, given, both, when, never, every, sift, below}
use Rattle.rules.specs.Bytes.{le, part, bytes, each, onto}
use Rattle.rules.specs.File.{Round, Bid, sections, round_of, sections_of, deliveries, year_at, pots_told, gained_told, tech_at, app_at, bid_at, pots_at, techs_at, apps_at}
use Rattle.rules.specs.File.{bids_at, end_at}
use Rattle.rules.specs.Refusals.{or_else, or_fault, scan, count_fault, record_fault, section, app_fault, seven_of, eight_of, nine_of}
use Rattle.rules.specs.Refusals.{bid_fault, eleven_of, judged, reading}
use Rattle.rules.specs.Pot.{reason}
use Rattle.rules.specs.Round.{blank, assemble, at_admin_price, mine, app_mine, row_for, budget_of, cap_of, drawn_of, pot_of}
use Rattle.rules.specs.Result.{told_in, app_told, app_bytes, pot_bytes, bid_bytes, pots_part, apps_part, bids_part, result_bytes, needed, answer_to, answer_of, after}
use Rattle.rules.specs.Result.{clear_of}
use Rattle.rules.specs.Reading.{Reading, Accepted}
use Rattle.rules.specs.Answer.{Answer, Cleared, Refused}
use Rattle.laws_round.specs.Apart.{undeclared}
use Rattle.laws_reading.specs.Alike.{le_same, get_d_past, part_same, part_byte, part_size_lem}

-- where the declared cost of application a stands in a file of y years, p pots that have gained c bytes each and t technologies: the last 8 of its bytes
abbrev pub cost_at : (y c p t a : ℕ) → ℕ
cost_at y c p t a = apps_at y c p t + count_width + a * app_width + undeclared

-- does byte i of a file stand in a declared cost?
pub record Declared (R : Round) (i : ℕ) : Type 0 where
  pub app : ℕ
  pub in_file : app < R.n
  pub from : cost_at R.y R.c R.p R.t app ≤ i
  pub to : i < cost_at R.y R.c R.p R.t app + 8

-- two files of the same bytes but for declared costs
pub record SaveCosts (s t : List ℕ) : Type 0 where
  pub length : length s ≡ length t
  pub bytes : (i : ℕ) → (Declared (round_of s) i → ⊥) → get_or s i 0 ≡ get_or t i 0

-- a round with other bytes for its applications
abbrev with_apps : Round → List ℕ → Round
with_apps R m = record {
  years = R.years;
  pots = R.pots;
  techs = R.techs;
  apps = m;
  bids = R.bids;
  y = R.y;
  d = R.d;
  c = R.c;
  p = R.p;
  t = R.t;
  n = R.n;
  b = R.b;
}

-- ---- all that is asked of a round asks its applications' bytes for their fields alone

module _ (R : Round) (m : List ℕ) (e : (a : ℕ) → app_at R.apps a ≡ app_at m a) where
  abbrev Q : Round
  Q = with_apps R m

  app_fault_lem : (years : List ℕ) (d t i : ℕ) → app_fault years d t R.apps i ≡ app_fault years d t m i
  unfolding app_fault
  app_fault_lem years d t i = λ j.
      given
      (both (dec_lt (e i j).tech t)
      (both (dec_lt (e i j).year d)
      (both (dec_lt 0 (e i j).days)
      (both (dec_le (e i j).days (year_at years (e i j).year).days)
      (both (dec_lt 0 (e i j).capacity)
      (both (dec_le (e i j).capacity largest_capacity) (every i (λ k. never (ℕ_discrete (e k j).draw (e i j).draw)))))))))
      0
      app_broken

  seven : (i : ℕ) → seven_of R i ≡ seven_of Q i
  unfolding seven_of
  seven i = λ j.
      let b = bid_at R.bids i in
      let a = e b.app j in
      given
      (both (dec_lt b.app R.n)
      (both (dec_lt b.year R.d)
      (both (dec_lt 0 b.days)
      (both (dec_le b.days (year_at R.years b.year).days)
      (both (dec_lt 0 b.capacity)
      (both (dec_le b.capacity a.capacity)
      (both (dec_le a.year b.year)
      (both (when (ℕ_discrete a.year b.year) (dec_le b.days a.days)) (dec_le b.price ((tech_at R.y R.techs a.tech).admin b.year))))))))))
      0
      bid_broken

  bid_fault_lem : (i : ℕ) → bid_fault R i ≡ bid_fault Q i
  unfolding bid_fault eight_of nine_of
  bid_fault_lem i = ap (λ (x : ℕ). or_fault x (or_fault (eight_of R i) (nine_of R i))) (seven i)

  at_admin_price_lem : (a : ℕ) → at_admin_price R a ≡ at_admin_price Q a
  unfolding at_admin_price
  at_admin_price_lem a = λ j. record {
    app = a;
    year = (e a j).year;
    days = (e a j).days;
    capacity = (e a j).capacity;
    price = (tech_at R.y R.techs (e a j).tech).admin (e a j).year;
  }

  row : (x : Bid) → row_for R x ≡ row_for Q x
  unfolding row_for
  row x = λ j.
      let t = tech_at R.y R.techs (e x.app j).tech in
      record {
        bid = x;
        draw = (e x.app j).draw;
        admin = t.admin x.year;
        rqm = t.rqm;
        reference = λ y. pick (ltb y R.y) (t.reference y) 0;
        load = λ y. pick (ltb y R.y) (t.load y) 0;
      }

  its : (p k : ℕ) → mine R p k ≡ mine Q p k
  unfolding mine
  its p k = λ j. ltb k R.b && eqb (tech_at R.y R.techs (e (bid_at R.bids k).app j).tech).pot p

  its_app : (p a : ℕ) → app_mine R p a ≡ app_mine Q p a
  unfolding app_mine
  its_app p a = λ j. ltb a R.n && eqb (tech_at R.y R.techs (e a j).tech).pot p

  pot : (p : ℕ) → pot_of R p ≡ pot_of Q p
  unfolding pot_of cap_of drawn_of
  pot p = λ j.
      assemble R.years R.y (sift (λ k. its p k j) (below R.b)) (sift (λ a. its_app p a j) (below R.n))
      (λ k. pick (its p k j) (row (bid_at R.bids k) j) blank)
      (λ a. pick (its_app p a j) (own a j) blank)
      (budget_of R p) (cap_of R p) (drawn_of R p)
    where
      own : (a : ℕ) → row_for R (at_admin_price R a) ≡ row_for Q (at_admin_price Q a)
      own a = row (at_admin_price R a) ∙ ap (row_for Q) (at_admin_price_lem a)

  -- the pot of application a
  its_pot : (a : ℕ) → pot_of R (tech_at R.y R.techs (app_at R.apps a).tech).pot ≡ pot_of Q (tech_at R.y R.techs (app_at m a).tech).pot
  its_pot a = λ j. pot (tech_at R.y R.techs (e a j).tech).pot j

  result : result_bytes R ≡ result_bytes Q
  unfolding result_bytes pots_part apps_part bids_part app_told bid_bytes
  result = λ j.
      ((bytes count_width R.p ++ each (λ p. pot_bytes R.d R.y (pot p j)) R.p)
      ++ (bytes count_width R.n ++ each (λ a. app_bytes (told_in (its_pot a j) a)) R.n))
      ++ (bytes count_width R.b ++ each (λ k. bytes 2 (reason (its_pot (bid_at R.bids k).app j) k)) R.b)

-- a section is the same where its count, the room of its records and what is wrong with each are
section_same : (told : ℕ → ℕ) (s t : List ℕ) (at low high w : ℕ) (l m : List ℕ) (f g : ℕ → ℕ) (q r : Reading) → length s ≡ length t
    → le count_width s at ≡ le count_width t at → length l ≡ length m → ((i : ℕ) → f i ≡ g i) → q ≡ r
    → section told s at low high w l f q ≡ section told t at low high w m g r
unfolding section count_fault record_fault
section_same told s t at low high w l m f g q r long c room h e = λ j.
    or_else (given (dec_le (at + count_width) (long j)) (given (both (dec_le low (told (c j))) (dec_le (told (c j)) high)) 0 count_outside) ends_early) at
    (scan (λ i. given (dec_le (i * w + w) (room j)) (h i j) ends_early) w (at + count_width) 0 (told (c j)) (e j))

module _ (s t : List ℕ) (D : SaveCosts s t) where
  abbrev R : Round
  R = round_of s

  abbrev y : ℕ
  y = le count_width s 0

  abbrev c : ℕ
  c = gained_told (le count_width s (pots_at y))

  abbrev p : ℕ
  p = pots_told (le count_width s (pots_at y))

  abbrev k : ℕ
  k = le count_width s (techs_at y c p)

  abbrev n : ℕ
  n = le count_width s (apps_at y c p k)

  abbrev b : ℕ
  b = le count_width s (bids_at y c p k n)

  -- bytes before the first declared cost, after the last, and of an application before its own
  byte : (i : ℕ) → ((a : ℕ) → a < n → cost_at y c p k a ≤ i → i < cost_at y c p k a + 8 → ⊥) → get_or s i 0 ≡ get_or t i 0
  unfolding round_of sections
  byte i h = D.bytes i (λ c. h c.app c.in_file c.from c.to)

  early : (i : ℕ) → i < apps_at y c p k + count_width → get_or s i 0 ≡ get_or t i 0
  early i l = byte i (λ a x u v. omega arith)

  late : (i : ℕ) → bids_at y c p k n ≤ i → get_or s i 0 ≡ get_or t i 0
  late i l = byte i (λ a x u v. omega arith)

  count : (at : ℕ) → at ≤ apps_at y c p k → le count_width s at ≡ le count_width t at
  count at l = le_same count_width s t at count_width at (λ j h. early (at + j) (omega arith)) (omega arith) (omega arith)

  last : b ≡ le count_width t (bids_at y c p k n)
  last = le_same count_width s t (bids_at y c p k n) count_width (bids_at y c p k n) (λ j h. late (bids_at y c p k n + j) (omega arith)) (omega arith) (omega arith)

  up_to : (a e : ℕ) → e ≤ apps_at y c p k → part s a e ≡ part t a e
  up_to a e l = part_same s t a e (ap (min e) D.length) (λ i x z. early i (omega arith))

  from : (a e : ℕ) → bids_at y c p k n ≤ a → part s a e ≡ part t a e
  from a e l = part_same s t a e (ap (min e) D.length) (λ i x z. late i (omega arith))

  -- the applications' bytes in each, and their fields
  abbrev mine_s : List ℕ
  mine_s = part s (apps_at y c p k + count_width) (bids_at y c p k n)

  abbrev mine_t : List ℕ
  mine_t = part t (apps_at y c p k + count_width) (bids_at y c p k n)

  room : length mine_s ≡ length mine_t
  room = part_size_lem s _ _ ∙ ap (λ (l : ℕ). min (bids_at y c p k n) l - (apps_at y c p k + count_width)) D.length ∙ sym (part_size_lem t _ _)

  field : (a x : ℕ) → x < undeclared → get_or mine_s (a * app_width + x) 0 ≡ get_or mine_t (a * app_width + x) 0
  field a x h = go (dec_lt a n)
    where
      go : Dec (a < n) → get_or mine_s (a * app_width + x) 0 ≡ get_or mine_t (a * app_width + x) 0
      go (yes l) =
          part_byte s (apps_at y c p k + count_width) (bids_at y c p k n) (a * app_width + x) (omega arith)
          ∙ byte (apps_at y c p k + count_width + (a * app_width + x)) (λ c i u v. omega arith)
          ∙ sym (part_byte t (apps_at y c p k + count_width) (bids_at y c p k n) (a * app_width + x) (omega arith))
      go (no l) =
          get_d_past mine_s (a * app_width + x) (omega (arith, part_size_lem s (apps_at y c p k + count_width) (bids_at y c p k n)))
          ∙ sym (get_d_past mine_t (a * app_width + x) (omega (arith, part_size_lem t (apps_at y c p k + count_width) (bids_at y c p k n))))

  number : (w a x : ℕ) → x + w ≤ undeclared → le w mine_s (a * app_width + x) ≡ le w mine_t (a * app_width + x)
  number w a x l = le_same w mine_s mine_t (a * app_width) undeclared (a * app_width + x) (field a) (omega arith) (omega arith)

  app_same : (a : ℕ) → app_at mine_s a ≡ app_at mine_t a
  app_same a = λ i. record {
    tech = le_same 2 mine_s mine_t (a * app_width) undeclared (a * app_width) (field a) (omega arith) (omega arith) i;
    year = number 2 a 2 (omega arith) i;
    days = number 2 a 4 (omega arith) i;
    draw = number 2 a 6 (omega arith) i;
    capacity = number 4 a 8 (omega arith) i;
  }

  -- the round of the other file is this one, with its own bytes for the applications
  other : with_apps R mine_t ≡ round_of t
  unfolding round_of sections
  other =
      (λ j. record {
        years = up_to count_width (pots_at y) (omega arith) j;
        pots = up_to (pots_at y + count_width) (techs_at y c p) (omega arith) j;
        techs = up_to (techs_at y c p + count_width) (apps_at y c p k) (omega arith) j;
        apps = mine_t;
        bids = from (bids_at y c p k n + count_width) (end_at y c p k n b) (omega arith) j;
        y = y;
        d = deliveries (up_to count_width (pots_at y) (omega arith) j) y;
        c = c;
        p = p;
        t = k;
        n = n;
        b = b;
      })
      ∙ (λ j. sections t (ey j) (ec j) (ep j) (ek j) (en j) (eb j))
    where
      ey : y ≡ le count_width t 0
      ey = count 0 (omega arith)

      eq : le count_width s (pots_at y) ≡ le count_width t (pots_at (le count_width t 0))
      eq = count (pots_at y) (omega arith) ∙ ap (λ (x : ℕ). le count_width t (pots_at x)) ey

      ec : c ≡ (round_of t).c
      ec = ap gained_told eq

      ep : p ≡ (round_of t).p
      ep = ap pots_told eq

      ek : k ≡ (round_of t).t
      ek = count (techs_at y c p) (omega arith) ∙ (λ j. le count_width t (techs_at (ey j) (ec j) (ep j)))

      en : n ≡ (round_of t).n
      en = count (apps_at y c p k) (omega arith) ∙ (λ j. le count_width t (apps_at (ey j) (ec j) (ep j) (ek j)))

      eb : b ≡ (round_of t).b
      eb = last ∙ (λ j. le count_width t (bids_at (ey j) (ec j) (ep j) (ek j) (en j)))

  fields : (a : ℕ) → app_at R.apps a ≡ app_at mine_t a
  unfolding round_of sections
  fields = app_same

  read_alike : judged R s (Accepted (sections_of R)) ≡ judged (with_apps R mine_t) t (Accepted (sections_of (with_apps R mine_t)))
  unfolding judged sections_of eleven_of round_of sections
  read_alike =
      section_same _ s t _ _ _ _ _ _ _ _ _ _ D.length (count 0 (omega arith)) refl (λ i. refl)
      (section_same _ s t _ _ _ _ _ _ _ _ _ _ D.length (count (pots_at y) (omega arith)) refl (λ i. refl)
      (section_same _ s t _ _ _ _ _ _ _ _ _ _ D.length (count (techs_at y c p) (omega arith)) refl (λ i. refl)
      (section_same _ s t _ _ _ _ _ _ _ _ _ _ D.length (count (apps_at y c p k) (omega arith)) room (app_fault_lem R mine_t fields R.years R.d R.t)
      (section_same _ s t _ _ _ _ _ _ _ _ _ _ D.length last refl (bid_fault_lem R mine_t fields)
      (ap (λ (l : ℕ). or_else (given (dec_le l (end_at y c p k n b)) 0 bytes_after) (end_at y c p k n b)
      (scan (eleven_of R) bid_width (bids_at y c p k n + count_width) 0 b (Accepted (sections_of R)))) D.length)))))

  pub same_reading : reading s ≡ reading t
  unfolding reading
  same_reading = read_alike ∙ ap (λ (x : Round). judged x t (Accepted (sections_of x))) other

  after_same : (r : Answer) (lent : List ℕ) → after r R lent ≡ after r (round_of t) lent
  unfolding after
  after_same (Cleared l) lent = ap (λ (x : List ℕ). onto x lent) (result R mine_t fields ∙ ap result_bytes other)
  after_same (Refused number at) lent = refl

  pub same_clearing : (lent : List ℕ) → clear_of s lent ≡ clear_of t lent
  unfolding clear_of answer_of needed
  same_clearing lent = λ j. record { answer = answer j; exit = exit j }
    where
      answer : answer_of s (length lent) ≡ answer_of t (length lent)
      answer = ap₂ (λ (r : Reading) (x : Round). answer_to r (needed x) (length lent)) same_reading other

      exit : after (answer_of s (length lent)) R lent ≡ after (answer_of t (length lent)) (round_of t) lent
      exit = after_same (answer_of s (length lent)) lent ∙ ap (λ (r : Answer). after r (round_of t) lent) answer
