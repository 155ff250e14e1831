-- How large a refusal's number and offset are: no file has a fault beyond the end of the largest round. Assumes nothing.
use Rattle.std.specs.Prelude.{ℕ, zero, suc, ◌+◌, ◌*◌, ◌≤◌, ◌<◌, ◌≡◌, refl, List, length}
use native.Mathlib.Omega.{arith}
use Rattle.std.proofs.Common.{mul-le-mul, mul-le-mul_right}
use Rattle.std.proofs.Math.Decide.{dec_le}
use Rattle.rules.specs.Names.{most_years, most_pots, most_techs, most_apps, most_bids, lowest_uneven, count_width, cap_width, drawn_width, pot_width, tech_width}
use Rattle.rules.specs.Names.{bid_width}
use Rattle.rules.specs.Lists.{given}
use Rattle.rules.specs.Bytes.{le}
use Rattle.rules.specs.File.{Round, round_of, sections_of, pots_at, bids_at, end_at}
use Rattle.rules.specs.Refusals.{refusal, place, or_else, or_fault, scan, count_fault, record_fault, section, year_fault, pot_fault, tech_fault, app_fault, seven_of}
use Rattle.rules.specs.Refusals.{eight_of, nine_of, bid_fault, eleven_of, judged, reading}
use Rattle.rules.specs.Reading.{Reading, Accepted}
use Rattle.laws_reading.specs.Reading.{holds, Counts, counts, gained_told_lem, gained_most}

-- the end of the largest round
abbrev pub largest : ℕ
largest = end_at most_years (cap_width + drawn_width) most_pots most_techs most_apps most_bids

-- a refusal that is not large, or none
pub record Small (r : Reading) : Type 0 where
  pub number : refusal r ≤ lowest_uneven
  pub at : place r ≤ largest

given_most : {P : Type 0} (q : Dec P) (a b m : ℕ) → a ≤ m → b ≤ m → given q a b ≤ m
unfolding given
given_most (yes p) a b m h l = h
given_most (no n) a b m h l = l

-- at a fault that is small, or else small
or_small : (m at : ℕ) (r : Reading) → m ≤ lowest_uneven → (0 < m → at ≤ largest) → (m ≡ 0 → Small r) → Small (or_else m at r)
unfolding or_else refusal place
or_small zero at r h l s = s refl
or_small (suc m) at r h l s = record { number = h; at = l (omega arith) }

scan_small : (f : ℕ → ℕ) (w base i k : ℕ) (r : Reading) → ((j : ℕ) → f j ≤ lowest_uneven)
    → base + (i + k) * w ≤ largest + w → Small r → Small (scan f w base i k r)
unfolding scan
scan_small f w base i zero r h l s = s
scan_small f w base i (suc k) r h l s =
    let m : (i + 1) * w ≤ (i + suc k) * w = mul-le-mul_right w (omega arith) in
    let e : base + (i + 1 + k) * w ≤ largest + w = (let z : i + 1 + k ≡ i + suc k = omega arith in rw z l) in
    or_small (f i) (base + i * w) _ (h i) (λ p. omega arith) (λ p. scan_small f w base (i + 1) k r h e s)

record_small : (recs : List ℕ) (w : ℕ) (f : ℕ → ℕ) → ((j : ℕ) → f j ≤ lowest_uneven) → (j : ℕ) → record_fault recs w f j ≤ lowest_uneven
unfolding record_fault
record_small recs w f h j = given_most _ _ _ _ (h j) (omega arith)

section_small : (told : ℕ → ℕ) (s : List ℕ) (at low high w : ℕ) (recs : List ℕ) (f : ℕ → ℕ) (r : Reading) → ((j : ℕ) → f j ≤ lowest_uneven)
    → at ≤ largest → at + count_width + high * w ≤ largest + w → (told (le count_width s at) ≤ high → Small r) → Small (section told s at low high w recs f r)
unfolding section count_fault
section_small told s at low high w recs f r h a l k =
    or_small (count_fault told s at low high) at _ (given_most _ _ _ _ (given_most _ _ _ _ (omega arith) (omega arith)) (omega arith)) (λ p. a)
    (λ e.
    let q = (holds _ _ _ (holds _ _ _ e (λ z. omega arith)).1 (λ z. omega arith)).0.1 in
    let m : (0 + told (le count_width s at)) * w ≤ high * w = mul-le-mul_right w (omega arith) in
    scan_small (record_fault recs w f) w (at + count_width) 0 (told (le count_width s at)) r (record_small recs w f h) (omega arith) (k q))

year_small : (years : List ℕ) (i : ℕ) → year_fault years i ≤ lowest_uneven
unfolding year_fault
year_small years i = given_most _ _ _ _ (omega arith) (omega arith)

pot_small : (y c : ℕ) (pots : List ℕ) (i : ℕ) → pot_fault y c pots i ≤ lowest_uneven
unfolding pot_fault
pot_small y c pots i = given_most _ _ _ _ (omega arith) (omega arith)

tech_small : (y d p : ℕ) (techs : List ℕ) (i : ℕ) → tech_fault y d p techs i ≤ lowest_uneven
unfolding tech_fault
tech_small y d p techs i = given_most _ _ _ _ (omega arith) (omega arith)

app_small : (years : List ℕ) (d t : ℕ) (apps : List ℕ) (i : ℕ) → app_fault years d t apps i ≤ lowest_uneven
unfolding app_fault
app_small years d t apps i = given_most _ _ _ _ (omega arith) (omega arith)

first_small : (m k : ℕ) → m ≤ lowest_uneven → k ≤ lowest_uneven → or_fault m k ≤ lowest_uneven
unfolding or_fault
first_small zero k h l = l
first_small (suc m) k h l = h

bid_small : (R : Round) (i : ℕ) → bid_fault R i ≤ lowest_uneven
unfolding bid_fault seven_of eight_of nine_of
bid_small R i =
    first_small _ _ (given_most _ _ _ _ (omega arith) (omega arith))
    (first_small _ _ (given_most _ _ _ _ (omega arith) (omega arith)) (given_most _ _ _ _ (omega arith) (omega arith)))

uneven_small : (R : Round) (i : ℕ) → eleven_of R i ≤ lowest_uneven
unfolding eleven_of
uneven_small R i = given_most _ _ _ _ (omega arith) (omega arith)

module _ (R : Round) (s : List ℕ) (C : Counts s R) (r : Reading) (S : Small r) where
  gained_few : R.c ≤ cap_width + drawn_width
  gained_few = rw C.c (gained_most (gained_told_lem (le 2 s (pots_at R.y))))

  module _ (y : R.y ≤ most_years) where
    module _ (p : R.p ≤ most_pots) where
      -- where the pots end
      pots_end : R.p * pot_width R.y R.c ≤ 288
      pots_end = let w : pot_width R.y R.c ≤ 72 = omega (arith, gained_few) in mul-le-mul p w

      module _ (t : R.t ≤ most_techs) where
        -- where the technologies end
        techs_end : R.t * tech_width R.y ≤ 2688
        techs_end = let w : tech_width R.y ≤ 84 = omega arith in mul-le-mul t w

        last_small : R.n ≤ most_apps → R.b ≤ most_bids
            → let at = bids_at R.y R.c R.p R.t R.n in
            let end = end_at R.y R.c R.p R.t R.n R.b in
            Small (or_else (given (dec_le (length s) end) 0 10) end (scan (eleven_of R) bid_width (at + count_width) 0 R.b r))
        last_small n b =
            or_small _ _ _ (given_most _ _ _ _ (omega arith) (omega arith)) (λ z. omega (arith, pots_end, techs_end))
            (λ z. scan_small (eleven_of R) bid_width _ 0 R.b r (uneven_small R) (omega (arith, pots_end, techs_end)) S)

  judged_small : Small (judged R s r)
  unfolding judged
  judged_small =
      section_small _ s _ _ _ _ _ _ _ (year_small R.years) (omega arith) (omega arith) (λ y'.
      let y : R.y ≤ most_years = omega (arith, C.y) in
      section_small _ s _ _ _ _ _ _ _ (pot_small R.y R.c R.pots) (omega arith) (omega (arith, gained_few)) (λ p'.
      let p : R.p ≤ most_pots = omega (arith, C.p) in
      section_small _ s _ _ _ _ _ _ _ (tech_small R.y R.d R.p R.techs) (omega (arith, pots_end y p)) (omega (arith, pots_end y p)) (λ t'.
      let t : R.t ≤ most_techs = omega (arith, C.t) in
      section_small _ s _ _ _ _ _ _ _ (app_small R.years R.d R.t R.apps) (omega (arith, pots_end y p, techs_end y p t))
      (omega (arith, pots_end y p, techs_end y p t)) (λ n'.
      let n : R.n ≤ most_apps = omega (arith, C.n) in
      section_small _ s _ _ _ _ _ _ _ (bid_small R) (omega (arith, pots_end y p, techs_end y p t)) (omega (arith, pots_end y p, techs_end y p t)) (λ b'.
      last_small y p t n (omega (arith, C.b)))))))

-- a refusal's number is at most 11, and its offset at most 7,898
pub reading_small : (s : List ℕ) → Small (reading s)
unfolding reading
reading_small s =
    judged_small (round_of s) s (counts s) (Accepted (sections_of (round_of s))) (unfold refusal place in record { number = omega arith; at = omega arith })
