-- "When the file is turned away": refusals 1 to 11. Assumes nothing.
use Rattle.std.specs.Prelude.{ℕ, zero, suc, ◌+◌, ◌*◌, ◌%◌, ◌≤◌, ◌≡◌, List, length}
use Rattle.std.proofs.Math.Decide.{dec_le, dec_lt, ℕ_discrete}
use Rattle.rules.specs.Names.{ends_early, count_outside, year_broken, pot_broken, tech_broken, app_broken, bid_broken, price_twice, bids_too_many, bytes_after}
use Rattle.rules.specs.Names.{lowest_uneven, most_years, most_pots, most_techs, most_apps, most_bids, count_width, year_width, pot_width, tech_width, app_width}
use Rattle.rules.specs.Names.{bid_width, valuation_only, delivery, most_deliveries, short_year, long_year, whole, highest_budget, highest_price, price_step}
use Rattle.rules.specs.Names.{highest_cap, no_cap, largest_capacity, bids_each, bids_a_year}
use Rattle.rules.specs.Lists.{given, both, when, never, every, how_many}
use Rattle.rules.specs.Bytes.{le}
use Rattle.rules.specs.File.{Round, round_of, sections_of, year_at, deliveries, pots_told, budget_at, cap_at, tech_at, app_at, bid_at, pots_at, techs_at, apps_at}
use Rattle.rules.specs.File.{bids_at, end_at}
use Rattle.rules.specs.Reading.{Reading, Accepted, Refused}

-- "Each refusal is a number and the offset of the count or record at fault": the paper's number of a reading, 0 where it is no refusal, and its offset
unfoldable pub refusal : Reading → ℕ
refusal (Accepted sections) = 0
refusal (Refused number at) = number

unfoldable pub place : Reading → ℕ
place (Accepted sections) = 0
place (Refused number at) = at

-- at no fault (0), what follows
unfoldable pub or_else : (number at : ℕ) → Reading → Reading
or_else zero at r = r
or_else (suc m) at r = Refused (suc m) at

-- the first of two faults
unfoldable pub or_fault : ℕ → ℕ → ℕ
or_fault zero m = m
or_fault (suc k) m = suc k

-- "Records are judged in file order": k records from record i on, each `width` bytes, the first of the section at `base`; then what follows
unfoldable pub scan : (fault : ℕ → ℕ) → (width base i k : ℕ) → Reading → Reading
scan fault width base i zero r = r
scan fault width base i (suc k) r = or_else (fault i) (base + i * width) (scan fault width base (i + 1) k r)

-- how many records a count tells: as many as it says, but for the pots', which may tell of caps and drawn numbers as well (`pots_told`)
abbrev pub plain : (count : ℕ) → ℕ
plain n = n

-- 1 and 2 of a count: "the file ends before the end of this count", "count outside its range"
unfoldable pub count_fault : (told : ℕ → ℕ) → List ℕ → (at low high : ℕ) → ℕ
count_fault told s at low high =
    let n = told (le count_width s at) in
    given (dec_le (at + count_width) (length s)) (given (both (dec_le low n) (dec_le n high)) 0 count_outside) ends_early

-- "within one, 1 comes first": record i of those that occupy a part is whole, and then what else is wrong with it
unfoldable pub record_fault : (recs : List ℕ) (width : ℕ) → (ℕ → ℕ) → ℕ → ℕ
record_fault recs width fault i = given (dec_le (i * width + width) (length recs)) (fault i) ends_early

-- a section: its count at `at`, which is to tell from `low` to `high` records, these, then what follows
unfoldable pub section : (told : ℕ → ℕ) → List ℕ → (at low high width : ℕ) → List ℕ → (ℕ → ℕ) → Reading → Reading
section told s at low high width recs fault r =
    or_else (count_fault told s at low high) at (scan (record_fault recs width fault) width (at + count_width) 0 (told (le count_width s at)) r)

-- 3: "days not 365 or 366; kind above 1; TLM above 10,000; year 0 not a delivery year; a delivery year after a valuation-only one; a fifth delivery year"
unfoldable pub year_fault : List ℕ → ℕ → ℕ
year_fault years i =
    let y = year_at years i in
    let d = deliveries years i in
    given
    (both (dec_le short_year y.days)
    (both (dec_le y.days long_year)
    (both (dec_le y.kind delivery)
    (both (dec_le y.tlm whole)
    (both (when (ℕ_discrete y.kind valuation_only) (dec_lt 0 i))
    (when (ℕ_discrete y.kind delivery) (both (ℕ_discrete d i) (dec_lt d most_deliveries))))))))
    0
    year_broken

-- "up to 20,000,000, or 4,294,967,295 for none" (02, CR 5)
abbrev pub cap_right? : (n : ℕ) → Dec ((n ≡ no_cap → ⊥) → n ≤ highest_cap)
cap_right? n = when (never (ℕ_discrete n no_cap)) (dec_le n highest_cap)

-- 4: "a budget above 1,000,000,000,000"; "also covers a cap out of range" (02, CR 5), where a record has gained c bytes
unfoldable pub pot_fault : (y c : ℕ) → List ℕ → ℕ → ℕ
pot_fault y c pots i = given (both (every y (λ k. dec_le (budget_at y c pots i k) highest_budget)) (when (dec_lt 0 c) (cap_right? (cap_at y c pots i)))) 0 pot_broken

-- 5: "pot not in the file; RQM or load factor above 10,000; reference above 500,000; administrative price not a multiple of 10 from 10 to 500,000 in a
-- delivery year, or not 0 in another"
unfoldable pub tech_fault : (y d p : ℕ) → List ℕ → ℕ → ℕ
tech_fault y d p techs i =
    let t = tech_at y techs i in
    given
    (both (dec_lt t.pot p)
    (both (dec_le t.rqm whole)
    (every y (λ k.
    both (dec_le (t.load k) whole)
    (both (dec_le (t.reference k) highest_price)
    (both (when (dec_lt k d) (both (dec_le price_step (t.admin k)) (both (dec_le (t.admin k) highest_price) (ℕ_discrete (t.admin k % price_step) 0))))
    (when (dec_le d k) (ℕ_discrete (t.admin k) 0))))))))
    0
    tech_broken

-- 6: "technology not in the file; year not a delivery year; days 0 or above that year's; capacity 0 or above 300,000; draw used by an earlier application".
-- The delivery years are the first d
unfoldable pub app_fault : (years : List ℕ) (d t : ℕ) → List ℕ → ℕ → ℕ
app_fault years d t apps i =
    let a = app_at apps i in
    given
    (both (dec_lt a.tech t)
    (both (dec_lt a.year d)
    (both (dec_lt 0 a.days)
    (both (dec_le a.days (year_at years a.year).days)
    (both (dec_lt 0 a.capacity)
    (both (dec_le a.capacity largest_capacity) (every i (λ k. never (ℕ_discrete (app_at apps k).draw a.draw)))))))))
    0
    app_broken

module _ (R : Round) where
  -- 7: "application not in the file; year not a delivery year; days 0 or above that year's; capacity 0 or above the application's; start earlier than the
  -- application's; price above the administrative price of its technology and year". "Earlier start means a smaller year, or the same year with more days"
  unfoldable pub seven_of : ℕ → ℕ
  seven_of i =
      let b = bid_at R.bids i in
      let a = app_at R.apps b.app in
      given
      (both (dec_lt b.app R.n)
      (both (dec_lt b.year R.d)
      (both (dec_lt 0 b.days)
      (both (dec_le b.days (year_at R.years b.year).days)
      (both (dec_lt 0 b.capacity)
      (both (dec_le b.capacity a.capacity)
      (both (dec_le a.year b.year)
      (both (when (ℕ_discrete a.year b.year) (dec_le b.days a.days)) (dec_le b.price ((tech_at R.y R.techs a.tech).admin b.year))))))))))
      0
      bid_broken

  abbrev pub same_app? : (k i : ℕ) → Dec ((bid_at R.bids k).app ≡ (bid_at R.bids i).app)
  same_app? k i = ℕ_discrete (bid_at R.bids k).app (bid_at R.bids i).app

  abbrev pub same_year? : (k i : ℕ) → Dec (((bid_at R.bids k).app ≡ (bid_at R.bids i).app) × ((bid_at R.bids k).year ≡ (bid_at R.bids i).year))
  same_year? k i = both (same_app? k i) (ℕ_discrete (bid_at R.bids k).year (bid_at R.bids i).year)

  -- 8: "price of an earlier bid of the same application"
  unfoldable pub eight_of : ℕ → ℕ
  eight_of i = given (every i (λ k. never (both (same_app? k i) (ℕ_discrete (bid_at R.bids k).price (bid_at R.bids i).price)))) 0 price_twice

  -- 9: "eleventh bid of an application, or its fourth in one year"
  unfoldable pub nine_of : ℕ → ℕ
  nine_of i = given (both (dec_lt (how_many i (λ k. same_app? k i)) bids_each) (dec_lt (how_many i (λ k. same_year? k i)) bids_a_year)) 0 bids_too_many

  -- "for bids 7, then 8, then 9"
  unfoldable pub bid_fault : ℕ → ℕ
  bid_fault i = or_fault (seven_of i) (or_fault (eight_of i) (nine_of i))

  -- 11: "the lowest bid of an application in a year is not a multiple of 10"
  unfoldable pub eleven_of : ℕ → ℕ
  eleven_of i =
      given
      (when (every R.b (λ k. when (same_year? k i) (dec_le (bid_at R.bids i).price (bid_at R.bids k).price)))
      (ℕ_discrete ((bid_at R.bids i).price % price_step) 0))
      0
      lowest_uneven

-- "Records are judged in file order .. Then 10, 11 (first such bid in the file)": the refusal of a file, or what follows where there is none
unfoldable pub judged : Round → List ℕ → Reading → Reading
judged R s r =
    let at = bids_at R.y R.c R.p R.t R.n in
    let end = end_at R.y R.c R.p R.t R.n R.b in
    section plain s 0 1 most_years year_width R.years (year_fault R.years)
    (section pots_told s (pots_at R.y) 1 most_pots (pot_width R.y R.c) R.pots (pot_fault R.y R.c R.pots)
    (section plain s (techs_at R.y R.c R.p) 1 most_techs (tech_width R.y) R.techs (tech_fault R.y R.d R.p R.techs)
    (section plain s (apps_at R.y R.c R.p R.t) 0 most_apps app_width R.apps (app_fault R.years R.d R.t R.apps)
    (section plain s at 0 most_bids bid_width R.bids (bid_fault R)
    (or_else (given (dec_le (length s) end) 0 bytes_after) end
    (scan (eleven_of R) bid_width (at + count_width) 0 R.b r))))))

-- the reading of a file: its five sections, or the first fault's number and offset
unfoldable pub reading : List ℕ → Reading
reading s = judged (round_of s) s (Accepted (sections_of (round_of s)))

-- a file that is not turned away
abbrev pub IsAccepted : List ℕ → Type 0
IsAccepted s = refusal (reading s) ≡ 0
