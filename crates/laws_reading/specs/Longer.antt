-- A file longer than the longest round is refused for its first bytes alone: no reading goes past the end of the largest round, and one byte after it. Assumes
-- nothing.
use Rattle.std.specs.Prelude.{ℕ, zero, suc, ◌+◌, ◌*◌, ◌≤◌, ◌<◌, ◌≡◌, get_or, take}
use Rattle.std.proofs.Math.Path.{refl, sym, ap}
use Rattle.std.proofs.Common.{◌∙◌, mul-le-mul, length-take, get_or-take}
use mathlib.Core.List.{List}
use native.Mathlib.Omega.{arith}
use Rattle.std.proofs.Math.Decide.{dec_le}
use Rattle.std.proofs.Math.ListN.{length}
use Rattle.rules.specs.Names.{bytes_after, most_years, most_pots, most_techs, most_apps, most_bids, count_width, year_width, cap_width, drawn_width, pot_width, tech_width}
use Rattle.rules.specs.Names.{app_width, bid_width}
use Rattle.rules.specs.Lists.{given, both}
use Rattle.rules.specs.Bytes.{le, part}
use Rattle.rules.specs.File.{Round, sections, round_of, sections_of, deliveries, pots_told, gained_told, pots_at, techs_at, apps_at, bids_at, end_at}
use Rattle.rules.specs.Refusals.{refusal, or_else, scan, plain, count_fault, record_fault, section, year_fault, pot_fault, tech_fault, app_fault, bid_fault, eleven_of}
use Rattle.rules.specs.Refusals.{judged, reading}
use Rattle.rules.specs.declared.Sections.{Sections}
use Rattle.rules.specs.Reading.{Reading, Accepted}
use Rattle.laws_reading.specs.Walk.{given_yes, given_no}
use Rattle.laws_reading.specs.Alike.{le_same, part_same}
use Rattle.laws_reading.specs.Reading.{holds, gained_told_lem, gained_most}
use Rattle.laws_reading.specs.Fault.{handed_on, ends_there}
use Rattle.laws_reading.specs.Small.{largest}

-- ---- the reading, section by section: each with the counts before it

module _ (s : List ℕ) where
  abbrev years : ℕ → List ℕ
  years y = part s count_width (pots_at y)

  -- what follows the bids
  ending : Round → (at : ℕ) → Reading
  ending R end =
      or_else (given (dec_le (length s) end) 0 bytes_after) end
      (scan (eleven_of R) bid_width (bids_at R.y R.c R.p R.t R.n + count_width) 0 R.b (Accepted (sections_of R)))

  of_bids : (y c p t n b : ℕ) → Reading
  of_bids y c p t n b =
      let R = sections s y c p t n b in
      let bids = part s (bids_at y c p t n + count_width) (end_at y c p t n b) in
      section plain s (bids_at y c p t n) 0 most_bids bid_width bids (bid_fault R) (ending R (end_at y c p t n b))

  of_apps : (y c p t n : ℕ) → Reading
  of_apps y c p t n =
      let apps = part s (apps_at y c p t + count_width) (bids_at y c p t n) in
      section plain s (apps_at y c p t) 0 most_apps app_width apps (app_fault (years y) (deliveries (years y) y) t apps)
      (of_bids y c p t n (le count_width s (bids_at y c p t n)))

  of_techs : (y c p t : ℕ) → Reading
  of_techs y c p t =
      let techs = part s (techs_at y c p + count_width) (apps_at y c p t) in
      section plain s (techs_at y c p) 1 most_techs (tech_width y) techs (tech_fault y (deliveries (years y) y) p techs)
      (of_apps y c p t (le count_width s (apps_at y c p t)))

  -- after a count of pots, which tells of their caps and drawn numbers as well
  of_pots : (y count : ℕ) → Reading
  of_pots y q =
      let c = gained_told q in
      let p = pots_told q in
      let pots = part s (pots_at y + count_width) (techs_at y c p) in
      section pots_told s (pots_at y) 1 most_pots (pot_width y c) pots (pot_fault y c pots) (of_techs y c p (le count_width s (techs_at y c p)))

  of_years : (y : ℕ) → Reading
  of_years y = section plain s 0 1 most_years year_width (years y) (year_fault (years y)) (of_pots y (le count_width s (pots_at y)))

  is_reading : reading s ≡ of_years (le count_width s 0)
  unfolding reading judged round_of sections of_years of_pots of_techs of_apps of_bids ending
  is_reading = refl

-- ---- what is the same in the first bytes

-- a section is the same where its count is, and, if that is in its range, its records and what follows
section_same : (told : ℕ → ℕ) (s t : List ℕ) (at low high w : ℕ) (l m : List ℕ) (f g : ℕ → ℕ) (q r : Reading)
    → count_fault told s at low high ≡ count_fault told t at low high → le count_width s at ≡ le count_width t at
    → (told (le count_width s at) ≤ high → (l ≡ m) × (f ≡ g) × (q ≡ r)) → section told s at low high w l f q ≡ section told t at low high w m g r
unfolding section count_fault or_else
section_same told s t at low high w l m f g q r c e h = go (count_fault told s at low high) refl
  where
    go : (k : ℕ) → count_fault told s at low high ≡ k → section told s at low high w l f q ≡ section told t at low high w m g r
    go zero z =
        let u = h (holds _ _ _ (holds _ _ _ z (λ x. omega arith)).1 (λ x. omega arith)).0.1 in
        λ j. or_else (c j) at (scan (record_fault (u.0 j) w (u.1 j)) w (at + count_width) 0 (told (e j)) (u.2 j))
    go (suc k) z = rw (z, sym c ∙ z) refl

module _ (s : List ℕ) (h : largest < length s) where
  abbrev t : List ℕ
  t = take (largest + 1) s

  long : length t ≡ largest + 1
  long = let e = length-take (largest + 1) s in omega arith

  byte : (i : ℕ) → i ≤ largest → get_or s i 0 ≡ get_or t i 0
  byte i l = sym (get_or-take (largest + 1) s i 0 (omega arith))

  count : (at : ℕ) → at < largest → le count_width s at ≡ le count_width t at
  count at l = le_same count_width s t at count_width at (λ j k. byte (at + j) (omega arith)) (omega arith) (omega arith)

  fault : (told : ℕ → ℕ) (at low high : ℕ) → at < largest → count_fault told s at low high ≡ count_fault told t at low high
  unfolding count_fault
  fault told at low high l =
      given_yes (dec_le (at + count_width) (length s)) _ _ (omega arith)
      ∙ ap (λ (n : ℕ). given (both (dec_le low (told n)) (dec_le (told n) high)) 0 2) (count at l)
      ∙ sym (given_yes (dec_le (at + count_width) (length t)) _ _ (omega (arith, long)))

  same : (a e : ℕ) → e ≤ largest → part s a e ≡ part t a e
  same a e l = part_same s t a e (omega (arith, long)) (λ i x y. byte i (omega arith))

  -- ---- from the last section to the first

  module _ (y c p n k : ℕ) (hy : y ≤ most_years) (hc : c ≤ cap_width + drawn_width) (hp : p ≤ most_pots) (ht : k ≤ most_techs) where
    pots_most : p * pot_width y c ≤ 288
    pots_most = let w : pot_width y c ≤ 72 = omega arith in mul-le-mul hp w

    techs_most : k * tech_width y ≤ 2688
    techs_most = let w : tech_width y ≤ 84 = omega arith in mul-le-mul ht w

    -- the file does not end with its last record
    ending_same : (b : ℕ) → n ≤ most_apps → b ≤ most_bids → (R Q : Round) → ending s R (end_at y c p k n b) ≡ ending t Q (end_at y c p k n b)
    unfolding ending or_else
    ending_same b hn hb R Q =
        let over : (l : List ℕ) → largest < length l → given (dec_le (length l) (end_at y c p k n b)) 0 bytes_after ≡ bytes_after =
        λ l x. given_no (dec_le (length l) (end_at y c p k n b)) 0 bytes_after (λ z. omega (arith, pots_most, techs_most)) in
        rw (over s h, over t (omega (arith, long)))

    round_same : (b : ℕ) → end_at y c p k n b ≤ largest → sections s y c p k n b ≡ sections t y c p k n b
    unfolding sections
    round_same b end = λ j. record {
      years = same count_width (pots_at y) (omega arith) j;
      pots = same (pots_at y + count_width) (techs_at y c p) (omega arith) j;
      techs = same (techs_at y c p + count_width) (apps_at y c p k) (omega arith) j;
      apps = same (apps_at y c p k + count_width) (bids_at y c p k n) (omega arith) j;
      bids = same (bids_at y c p k n + count_width) (end_at y c p k n b) end j;
      y = y;
      d = deliveries (same count_width (pots_at y) (omega arith) j) y;
      c = c;
      p = p;
      t = k;
      n = n;
      b = b;
    }

    bids_same : n ≤ most_apps → of_bids s y c p k n (le count_width s (bids_at y c p k n)) ≡ of_bids t y c p k n (le count_width t (bids_at y c p k n))
    unfolding of_bids
    bids_same hn =
        let at : bids_at y c p k n < largest = omega (arith, pots_most, techs_most) in
        let e = count (bids_at y c p k n) at in
        section_same plain s t _ _ _ _ _ _ _ _ _ _ (fault plain (bids_at y c p k n) 0 most_bids at) e
        (λ hb.
        let b = le count_width s (bids_at y c p k n) in
        let end : end_at y c p k n b ≤ largest = omega (arith, pots_most, techs_most) in
        let l = same (bids_at y c p k n + count_width) (end_at y c p k n b) end in
        let R : sections s y c p k n b ≡ sections t y c p k n b = round_same b end in (
          l ∙ ap (λ (x : ℕ). part t (bids_at y c p k n + count_width) (end_at y c p k n x)) e,
          ap bid_fault R ∙ ap (λ (x : ℕ). bid_fault (sections t y c p k n x)) e,
          ending_same b hn hb (sections s y c p k n b) (sections t y c p k n b) ∙ ap (λ (x : ℕ). ending t (sections t y c p k n x) (end_at y c p k n x)) e,
        ))

  apps_same : (y c p k : ℕ) → y ≤ most_years → c ≤ cap_width + drawn_width → p ≤ most_pots → k ≤ most_techs
      → of_apps s y c p k (le count_width s (apps_at y c p k)) ≡ of_apps t y c p k (le count_width t (apps_at y c p k))
  unfolding of_apps
  apps_same y c p k hy hc hp ht =
      let pots = pots_most y c p 0 k hy hc hp ht in
      let techs = techs_most y c p 0 k hy hc hp ht in
      let at : apps_at y c p k < largest = omega arith in
      let e = count (apps_at y c p k) at in
      section_same plain s t _ _ _ _ _ _ _ _ _ _ (fault plain (apps_at y c p k) 0 most_apps at) e
      (λ hn.
      let n = le count_width s (apps_at y c p k) in
      let l = same (apps_at y c p k + count_width) (bids_at y c p k n) (omega arith)
      ∙ ap (λ (x : ℕ). part t (apps_at y c p k + count_width) (bids_at y c p k x)) e in
      let years = same count_width (pots_at y) (omega arith) in (
        l,
        (λ j. app_fault (years j) (deliveries (years j) y) k (l j)),
        bids_same y c p n k hy hc hp ht hn ∙ ap (λ (x : ℕ). of_bids t y c p k x (le count_width t (bids_at y c p k x))) e,
      ))

  techs_same : (y c p : ℕ) → y ≤ most_years → c ≤ cap_width + drawn_width → p ≤ most_pots
      → of_techs s y c p (le count_width s (techs_at y c p)) ≡ of_techs t y c p (le count_width t (techs_at y c p))
  unfolding of_techs
  techs_same y c p hy hc hp =
      let pots = pots_most y c p 0 0 hy hc hp (omega arith) in
      let at : techs_at y c p < largest = omega arith in
      let e = count (techs_at y c p) at in
      section_same plain s t _ _ _ _ _ _ _ _ _ _ (fault plain (techs_at y c p) 1 most_techs at) e
      (λ ht.
      let k = le count_width s (techs_at y c p) in
      let most = techs_most y c p 0 k hy hc hp ht in
      let l = same (techs_at y c p + count_width) (apps_at y c p k) (omega arith) ∙ ap (λ (x : ℕ). part t (techs_at y c p + count_width) (apps_at y c p x)) e in
      let years = same count_width (pots_at y) (omega arith) in (
        l,
        (λ j. tech_fault y (deliveries (years j) y) p (l j)),
        apps_same y c p k hy hc hp ht ∙ ap (λ (x : ℕ). of_apps t y c p x (le count_width t (apps_at y c p x))) e,
      ))

  pots_same : (y : ℕ) → y ≤ most_years → of_pots s y (le count_width s (pots_at y)) ≡ of_pots t y (le count_width t (pots_at y))
  unfolding of_pots
  pots_same y hy =
      let at : pots_at y < largest = omega arith in
      let e = count (pots_at y) at in
      section_same pots_told s t _ _ _ _ _ _ _ _ _ _ (fault pots_told (pots_at y) 1 most_pots at) e
      (λ hp.
      let q = le count_width s (pots_at y) in
      let c = gained_told q in
      let p = pots_told q in
      let hc = gained_most (gained_told_lem q) in
      let most = pots_most y c p 0 0 hy hc hp (omega arith) in
      let l = same (pots_at y + count_width) (techs_at y c p) (omega arith) in
      (l, ap (pot_fault y c) l, techs_same y c p hy hc hp))
      ∙ ap (of_pots t y) e

  -- every file that is longer than the largest round is read as its first bytes are, up to one after the end of that round
  pub first_bytes : reading s ≡ reading t
  unfolding of_years
  first_bytes =
      is_reading s
      ∙ section_same plain s t _ _ _ _ _ _ _ _ _ _ (fault plain 0 1 most_years (omega arith)) (count 0 (omega arith))
      (λ hy.
      let y = le count_width s 0 in
      let e = count 0 (omega arith) in
      let l = same count_width (pots_at y) (omega arith) ∙ ap (λ (x : ℕ). part t count_width (pots_at x)) e in
      (l, ap year_fault l, pots_same y hy ∙ ap (λ (x : ℕ). of_pots t x (le count_width t (pots_at x))) e))
      ∙ sym (is_reading t)

  -- and it is refused
  pub never_accepted : {g : Sections} → reading s ≡ Accepted g → ⊥
  never_accepted e =
      let R = round_of s in
      let S = (handed_on s e).1 in
      let a = ends_there s (unfold refusal in rw e) in
      let pots = pots_most R.y R.c R.p 0 R.t S.years_most (gained_most S.gained_told_lem) S.pots_few S.techs_few in
      let techs = techs_most R.y R.c R.p 0 R.t S.years_most (gained_most S.gained_told_lem) S.pots_few S.techs_few in
      omega (arith, S.years_most, S.apps_few, S.bids_few)
