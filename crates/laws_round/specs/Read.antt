-- The result's bytes, read back. Assumes nothing.
use Rattle.std.specs.Prelude.{ℕ, ◌+◌, ◌*◌, ◌≤◌, ◌<◌, ◌≡◌, List, ◌++◌, length}
use native.Mathlib.Omega.{arith}
use Rattle.std.proofs.Common.{zero-add}
use Rattle.rules.specs.Names.{count_width, highest_price, no_bid, because_silent}
use Rattle.rules.specs.Bytes.{le, bytes, each}
use Rattle.rules.specs.File.{Round}
use Rattle.rules.specs.Pot.{Pot, outcome, price_in, total_in, reason}
use Rattle.rules.specs.Round.{pot_of}
use Rattle.rules.specs.Result.{pot_at, app_told, app_bytes, pot_bytes, bid_bytes, pots_part, apps_part, bids_part, result_bytes, needed}
use Rattle.rules.specs.declared.Told.{Told}
use Rattle.laws_reading.specs.Reading.{Sound}
use Rattle.laws_round.specs.Places.{At, at_left, at_right, at_each, length_bytes, length_each, length_joined, read}
use Rattle.laws_pot.specs.Reasons.{outcome_most, reason_most}
use Rattle.laws_round.specs.Bounds.{price_in_most, total_in_most, Small, told_small}

-- ---- where the result's fields stand, by "The result and its listing"

-- the bytes of a pot's record, of an application's and of a bid's
abbrev pub pot_record : Round → ℕ
pot_record R = 2 + 4 * R.d + 8 * R.y

abbrev pub app_record : ℕ
app_record = 10

abbrev pub bid_record : ℕ
bid_record = 2

module _ (R : Round) where
  -- the offsets of the counts of the applications and of the bids
  abbrev pub apps_from : ℕ
  apps_from = count_width + R.p * pot_record R

  abbrev pub bids_from : ℕ
  bids_from = apps_from + (count_width + R.n * app_record)

module _ (R : Round) (s : List ℕ) where
  -- "Pots: outcome 2, clearing price 4 for each delivery year, total 8 for each year"
  abbrev pub outcome_at : (p : ℕ) → ℕ
  outcome_at p = le 2 s (count_width + p * pot_record R)

  abbrev pub price_at : (p d : ℕ) → ℕ
  price_at p d = le 4 s (count_width + p * pot_record R + 2 + d * 4)

  abbrev pub total_at : (p y : ℕ) → ℕ
  total_at p y = le 8 s (count_width + p * pot_record R + (2 + 4 * R.d) + y * 8)

  -- "Applications: won 2, bid 2, automatic bid's reason 2, price paid 4"
  abbrev pub app_place : ℕ → ℕ
  app_place a = apps_from R + count_width + a * app_record

  abbrev pub told_at : ℕ → Told
  told_at a = record { won = le 2 s (app_place a); bid = le 2 s (app_place a + 2); reason = le 2 s (app_place a + 4); paid = le 4 s (app_place a + 6) }

  -- "Bids: reason 2"
  abbrev pub reason_at : ℕ → ℕ
  reason_at k = le 2 s (bids_from R + count_width + k * bid_record)

  -- they are those of the clearing
  pub record Carries : Type 0 where
    pub outcome : (p : ℕ) → p < R.p → outcome_at p ≡ outcome (pot_of R p)
    pub price : (p d : ℕ) → p < R.p → d < R.d → price_at p d ≡ price_in (pot_of R p) d
    pub total : (p y : ℕ) → p < R.p → y < R.y → total_at p y ≡ total_in (pot_of R p) y
    pub app : (a : ℕ) → a < R.n → told_at a ≡ app_told R a
    pub bid : (k : ℕ) → k < R.b → reason_at k ≡ reason (pot_at R k) k

told_read : (s : List ℕ) (at : ℕ) (x : Told) → At s at (app_bytes x) → x.won ≤ 1 → x.bid ≤ no_bid → x.reason ≤ because_silent → x.paid ≤ highest_price
    → record { won = le 2 s at; bid = le 2 s (at + 2); reason = le 2 s (at + 4); paid = le 4 s (at + 6) } ≡ x
unfolding app_bytes
told_read s at x A b0 b1 b2 b3 = λ i. record { won = e0 i; bid = e1 i; reason = e2 i; paid = e3 i }
  where
    A1 : At s at (bytes 2 x.won ++ bytes 2 x.bid)
    A1 = at_left (bytes 2 x.won ++ bytes 2 x.bid) (bytes 2 x.reason)
        (at_left ((bytes 2 x.won ++ bytes 2 x.bid) ++ bytes 2 x.reason) (bytes 4 x.paid) A)

    l4 : length (bytes 2 x.won ++ bytes 2 x.bid) ≡ 4
    l4 = length_joined (bytes 2 x.won) (bytes 2 x.bid) (length_bytes 2 x.won) (length_bytes 2 x.bid)

    e0 : le 2 s at ≡ x.won
    e0 = read 2 s at x.won (at_left (bytes 2 x.won) (bytes 2 x.bid) A1) (omega arith)

    e1 : le 2 s (at + 2) ≡ x.bid
    e1 = read 2 s (at + 2) x.bid (at_right (bytes 2 x.won) (bytes 2 x.bid) 2 (length_bytes 2 x.won) A1) (omega arith)

    e2 : le 2 s (at + 4) ≡ x.reason
    e2 = read 2 s (at + 4) x.reason
        (at_right (bytes 2 x.won ++ bytes 2 x.bid) (bytes 2 x.reason) 4 l4
        (at_left ((bytes 2 x.won ++ bytes 2 x.bid) ++ bytes 2 x.reason) (bytes 4 x.paid) A))
        (omega arith)

    e3 : le 4 s (at + 6) ≡ x.paid
    e3 = read 4 s (at + 6) x.paid
        (at_right ((bytes 2 x.won ++ bytes 2 x.bid) ++ bytes 2 x.reason) (bytes 4 x.paid) 6
        (length_joined (bytes 2 x.won ++ bytes 2 x.bid) (bytes 2 x.reason) l4 (length_bytes 2 x.reason)) A)
        (omega arith)

-- ---- the pieces
module _ (R : Round) where
  abbrev prices : Pot → ℕ → List ℕ
  prices P k = bytes 4 (price_in P k)

  abbrev totals : Pot → ℕ → List ℕ
  totals P k = bytes 8 (total_in P k)

  abbrev front : Pot → List ℕ
  front P = bytes 2 (outcome P) ++ each (prices P) R.d

  abbrev pot_row : ℕ → List ℕ
  pot_row p = pot_bytes R.d R.y (pot_of R p)

  abbrev app_row : ℕ → List ℕ
  app_row a = app_bytes (app_told R a)

  -- ---- their lengths
  front_length : (P : Pot) → length (front P) ≡ 2 + 4 * R.d
  front_length P =
      let e = length_joined (bytes 2 (outcome P)) (each (prices P) R.d) (length_bytes 2 (outcome P))
      (length_each (prices P) 4 (λ k. length_bytes 4 (price_in P k)) R.d) in
      omega arith

  totals_length : (P : Pot) → length (each (totals P) R.y) ≡ 8 * R.y
  totals_length P = let e = length_each (totals P) 8 (λ k. length_bytes 8 (total_in P k)) R.y in omega arith

  pot_length : (p : ℕ) → length (pot_row p) ≡ pot_record R
  unfolding pot_bytes
  pot_length p = length_joined (front (pot_of R p)) (each (totals (pot_of R p)) R.y) (front_length (pot_of R p)) (totals_length (pot_of R p))

  app_length : (a : ℕ) → length (app_row a) ≡ app_record
  unfolding app_bytes
  app_length a =
      let x = app_told R a in
      length_joined ((bytes 2 x.won ++ bytes 2 x.bid) ++ bytes 2 x.reason) (bytes 4 x.paid)
      (length_joined (bytes 2 x.won ++ bytes 2 x.bid) (bytes 2 x.reason)
      (length_joined (bytes 2 x.won) (bytes 2 x.bid) (length_bytes 2 x.won) (length_bytes 2 x.bid)) (length_bytes 2 x.reason))
      (length_bytes 4 x.paid)

  bid_length : (k : ℕ) → length (bid_bytes R k) ≡ bid_record
  unfolding bid_bytes
  bid_length k = length_bytes 2 (reason (pot_at R k) k)

  pub pots_length : length (pots_part R) ≡ apps_from R
  unfolding pots_part
  pots_length =
      length_joined (bytes count_width R.p) (each pot_row R.p) (length_bytes count_width R.p) (length_each pot_row (pot_record R) pot_length R.p)

  pub apps_length : length (apps_part R) ≡ count_width + R.n * app_record
  unfolding apps_part
  apps_length = length_joined (bytes count_width R.n) (each app_row R.n) (length_bytes count_width R.n) (length_each app_row app_record app_length R.n)

  pub bids_length : length (bids_part R) ≡ count_width + R.b * bid_record
  unfolding bids_part
  bids_length =
      length_joined (bytes count_width R.b) (each (bid_bytes R) R.b) (length_bytes count_width R.b) (length_each (bid_bytes R) bid_record bid_length R.b)

  both_length : length (pots_part R ++ apps_part R) ≡ bids_from R
  both_length = length_joined (pots_part R) (apps_part R) pots_length apps_length

  -- the result has as many bytes as it needs
  pub needed_is : length (result_bytes R) ≡ needed R
  unfolding result_bytes needed
  needed_is = let e = length_joined (pots_part R ++ apps_part R) (bids_part R) both_length bids_length in omega arith

  -- ---- a result that stands at the start of s
  module _ (S : Sound R) (s : List ℕ) (A : At s 0 (result_bytes R)) where
    pots_at_lem : At s 0 (pots_part R)
    unfolding result_bytes
    pots_at_lem = at_left (pots_part R) (apps_part R) (at_left (pots_part R ++ apps_part R) (bids_part R) A)

    apps_at_lem : At s (apps_from R) (apps_part R)
    unfolding result_bytes
    apps_at_lem = rw⁻¹ (zero-add (apps_from R)) (at_right (pots_part R) (apps_part R) (apps_from R) pots_length (at_left (pots_part R ++ apps_part R) (bids_part R) A))

    bids_at_lem : At s (bids_from R) (bids_part R)
    unfolding result_bytes
    bids_at_lem = rw⁻¹ (zero-add (bids_from R)) (at_right (pots_part R ++ apps_part R) (bids_part R) (bids_from R) both_length A)

    module _ (p : ℕ) (h : p < R.p) where
      pot_at_lem : At s (count_width + p * pot_record R) (front (pot_of R p) ++ each (totals (pot_of R p)) R.y)
      unfolding pot_bytes pots_part
      pot_at_lem =
          at_each pot_row (pot_record R) pot_length R.p p h
          (at_right (bytes count_width R.p) (each pot_row R.p) count_width (length_bytes count_width R.p) pots_at_lem)

      front_at : At s (count_width + p * pot_record R) (front (pot_of R p))
      front_at = at_left (front (pot_of R p)) (each (totals (pot_of R p)) R.y) pot_at_lem

      outcome_at_lem : outcome_at R s p ≡ outcome (pot_of R p)
      outcome_at_lem =
          read 2 s _ (outcome (pot_of R p)) (at_left (bytes 2 (outcome (pot_of R p))) (each (prices (pot_of R p)) R.d) front_at)
          (omega (arith, outcome_most (pot_of R p)))

      price_at_lem : (d : ℕ) → d < R.d → price_at R s p d ≡ price_in (pot_of R p) d
      price_at_lem d l =
          read 4 s _ (price_in (pot_of R p) d)
          (at_each (prices (pot_of R p)) 4 (λ k. length_bytes 4 (price_in (pot_of R p) k)) R.d d l
          (at_right (bytes 2 (outcome (pot_of R p))) (each (prices (pot_of R p)) R.d) 2 (length_bytes 2 (outcome (pot_of R p))) front_at))
          (omega (arith, price_in_most R S p d))

      total_at_lem : (y : ℕ) → y < R.y → total_at R s p y ≡ total_in (pot_of R p) y
      total_at_lem y l =
          read 8 s _ (total_in (pot_of R p) y)
          (at_each (totals (pot_of R p)) 8 (λ k. length_bytes 8 (total_in (pot_of R p) k)) R.y y l
          (at_right (front (pot_of R p)) (each (totals (pot_of R p)) R.y) (2 + 4 * R.d) (front_length (pot_of R p)) pot_at_lem))
          (omega (arith, total_in_most R S p y h l))

    app_at_lem : (a : ℕ) → a < R.n → told_at R s a ≡ app_told R a
    unfolding apps_part
    app_at_lem a h =
        told_read s (app_place R s a) (app_told R a)
        (at_each app_row app_record app_length R.n a h
        (at_right (bytes count_width R.n) (each app_row R.n) count_width (length_bytes count_width R.n) apps_at_lem))
        B.won B.bid B.reason B.paid
      where
        B : Small R S (app_told R a)
        B = told_small R S a h

    bid_at_lem : (k : ℕ) → k < R.b → reason_at R s k ≡ reason (pot_at R k) k
    unfolding bid_bytes bids_part
    bid_at_lem k h =
        read 2 s _ (reason (pot_at R k) k)
        (at_each (bid_bytes R) bid_record bid_length R.b k h
        (at_right (bytes count_width R.b) (each (bid_bytes R) R.b) count_width (length_bytes count_width R.b) bids_at_lem))
        (omega (arith, reason_most (pot_at R k) k))

    pub carries : Carries R s
    carries = record { outcome = outcome_at_lem; price = λ p d h l. price_at_lem p h d l; total = λ p y h l. total_at_lem p h y l; app = app_at_lem; bid = bid_at_lem }
