-- The lengths of the sections, and what is told of a round is its result. Assumes nothing.
use Prim.Native.Nat.{ℕ, ◌+◌, ◌-◌, ◌*◌, ◌<◌}
use mathlib.Core.Path.{◌≡◌, refl, sym, ap, ◌∙◌}
use mathlib.Core.List.{List}
use native.Mathlib.Omega.{arith}
use lib.ListN.{length, take, drop, get_or, length-append}
use borrow.Rule.Slice.PartMut.{put_mid}
use borrow.Author.Tests.{lt-ltb}
use Rattle.rules.specs.Names.{count_width, most_deliveries}
use Rattle.rules.specs.Bytes.{bytes, each}
use Rattle.rules.specs.File.{Round}
use Rattle.rules.specs.Pot.{outcome, price_in, total_in, reason}
use Rattle.rules.specs.Round.{pot_of}
use Rattle.rules.specs.Result.{app_bytes, pot_bytes, bid_bytes, app_told, pots_part, apps_part, bids_part, result_bytes, needed}
use Rattle.rules.specs.Result as rules
use Rattle.rules.specs.declared.Sections.{Sections}
use Rattle.rules.specs.declared.Told.{Told}
use Rattle.store.specs.Filled.{Filled, numbers}
use Rattle.store.proofs.Laws.{filled_none, filled_part, filled_span, filled_rest, length_bytes, length_each, length_numbers, each_same}
use Rattle.result.specs.declared.PotTold.{PotTold}
use Rattle.result.specs.declared.Tellings.{Tellings}
use Rattle.result.specs.Tells.{untold, InRange, Counted, no_pot, Tells}
use Rattle.result.specs.ToldBytes.{outcome_size, price_size, total_size, reason_size, app_size, pot_size, result_size}
use Rattle.result.specs.ToldBytes.{pot_bytes_told, pot_record, app_record, pots_told, apps_told, bids_told, round_told}

-- ---- the lengths, and the parts filled one after the other

pub length_app : (told : Told) → length (app_bytes told) ≡ app_size
unfolding app_bytes bytes
length_app told = refl

pub length_pot : (sections : Sections) (told : PotTold) → length (pot_bytes_told sections told) ≡ pot_size sections
unfolding pot_bytes_told
length_pot sections told = simp (length-append, length_bytes, length_numbers) (omega arith)

module _ (t : Tellings) (sections : Sections) where
  pub length_pots : length (pots_told t sections) ≡ count_width + sections.pots * pot_size sections
  unfolding pots_told
  length_pots = rw (length-append, length_bytes, length_each (pot_record t sections) (pot_size sections) sections.pots (λ p. length_pot sections _))

  pub length_apps : length (apps_told t sections) ≡ count_width + sections.applications * app_size
  unfolding apps_told
  length_apps = rw (length-append, length_bytes, length_each (app_record t) app_size sections.applications (λ a. length_app _))

  -- the three sections
  pub round_filled : (second third end : ℕ) {s us vs ws : List ℕ} → second ≡ count_width + sections.pots * pot_size sections
      → third ≡ second + (count_width + sections.applications * app_size) → Filled (pots_told t sections) (take second s) us
      → let xs = put_mid 0 second s us in Filled (apps_told t sections) (take (third - second) (drop second xs)) vs
      → let ys = put_mid second (third - second) xs vs in Filled (bids_told t sections) (take (end - third) (drop third ys)) ws
      → Filled (round_told t sections) s (put_mid third (end - third) ys ws)
  unfolding round_told
  round_filled second third end {s} e h f g k =
      let one = filled_part 0 second refl (filled_none s) f in
      let two = filled_span second third (length_pots ∙ sym e) one g in
      filled_span third end (rw (length-append, length_pots, length_apps) (omega (arith, e, h))) two k

-- the fields of a pot, whose totals stand at `at`
pub pot_filled : (sections : Sections) (told : PotTold) (at : ℕ) → at ≡ outcome_size + price_size * sections.deliveries → {s xs ys zs : List ℕ}
    → Filled (bytes outcome_size told.outcome) s xs
    → Filled (numbers price_size told.prices 0 sections.deliveries) (take (length xs - outcome_size) (drop outcome_size xs)) ys
    → let us = put_mid outcome_size (length xs - outcome_size) xs ys in Filled (numbers total_size told.totals 0 sections.years)
    (take (length us - at) (drop at us)) zs
    → Filled (pot_bytes_told sections told) s (put_mid at (length us - at) us zs)
unfolding pot_bytes_told
pot_filled sections told at e f g h =
    filled_rest at (rw (length-append, length_bytes, length_numbers) (omega arith)) (filled_rest outcome_size (length_bytes outcome_size _) f g) h

-- ---- what is told of a round is its result

module _ {R : Round} {t : Tellings} (T : Tells R t) where
  pub outcome_told : (p : ℕ) → p < R.p → (get_or t.pots p no_pot).outcome ≡ outcome (pot_of R p)
  outcome_told p h = T.outcome p ∙ rw (lt-ltb p R.p h)

  pub price_told_lem : (p d : ℕ) → p < R.p → d < most_deliveries → get_or (get_or t.pots p no_pot).prices d 0 ≡ price_in (pot_of R p) d
  price_told_lem p d h l = T.price p d l ∙ rw (lt-ltb p R.p h)

  pub total_told : (p y : ℕ) → p < R.p → y < R.y → get_or (get_or t.pots p no_pot).totals y 0 ≡ total_in (pot_of R p) y
  total_told p y h g = T.total p y ∙ rw (lt-ltb p R.p h, lt-ltb y R.y g)

  pub app_told_lem : (a : ℕ) → a < R.n → get_or t.apps a untold ≡ app_told R a
  app_told_lem a h = T.app a ∙ rw (lt-ltb a R.n h)

  pub reason_told : (k : ℕ) → k < R.b → get_or t.reasons k 0 ≡ reason (rules.pot_at R k) k
  reason_told k h = T.reason k ∙ rw (lt-ltb k R.b h)

-- numbers from the first on, told one by one
numbers_told : (w : ℕ) (xs : List ℕ) (f : ℕ → ℕ) (n : ℕ) → ((k : ℕ) → k < n → get_or xs k 0 ≡ f k) → numbers w xs 0 n ≡ each (λ k. bytes w (f k)) n
unfolding numbers
numbers_told w xs f n h =
    each_same (λ k. bytes w (get_or xs (0 + k) 0)) (λ k. bytes w (f k)) n (λ k l. let z : 0 + k ≡ k = omega arith in rw z (ap (bytes w) (h k l)))

module _ {R : Round} {t : Tellings} {sections : Sections} (ok : InRange sections) (C : Counted R sections) (T : Tells R t) where
  pot_is : (p : ℕ) → p < R.p → pot_record t sections p ≡ pot_bytes R.d R.y (pot_of R p)
  unfolding pot_bytes_told pot_bytes
  pot_is p h =
      rw (
        outcome_told T p h,
        numbers_told price_size (get_or t.pots p no_pot).prices (price_in (pot_of R p)) sections.deliveries
            (λ d l. price_told_lem T p d h (omega (arith, ok.deliveries))),
        numbers_told total_size (get_or t.pots p no_pot).totals (total_in (pot_of R p)) sections.years (λ y l. total_told T p y h (omega (arith, C.years))),
        C.deliveries,
        C.years,
      )

  pub told_is : round_told t sections ≡ result_bytes R
  unfolding round_told pots_told apps_told bids_told result_bytes pots_part apps_part bids_part bid_bytes
  told_is =
      rw (
        each_same (pot_record t sections) (λ p. pot_bytes R.d R.y (pot_of R p)) sections.pots (λ p h. pot_is p (omega (arith, C.pots))),
        each_same (app_record t) (λ a. app_bytes (app_told R a)) sections.applications (λ a h. ap app_bytes (app_told_lem T a (omega (arith, C.apps)))),
        numbers_told reason_size t.reasons (λ k. reason (rules.pot_at R k) k) sections.bids (λ k h. reason_told T k (omega (arith, C.bids))),
        C.pots,
        C.apps,
        C.bids,
      )

pub needed_is : {R : Round} {sections : Sections} → Counted R sections → result_size sections ≡ needed R
unfolding needed
needed_is C = rw (C.years, C.deliveries, C.pots, C.apps, C.bids)
