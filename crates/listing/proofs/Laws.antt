-- What is told of a round is listed as its definition says. Assumes nothing.
use Prim.Native.Nat.{ℕ, ◌<◌}
use mathlib.Core.Path.{◌≡◌, ap, ◌∙◌}
use mathlib.Core.List.{List}
use native.Mathlib.Decide.{dec_lt}
use native.Mathlib.Omega.{arith}
use lib.ListN.{length, get_or}
use borrow.Author.Tests.{lt-ltb, le-ltb}
use Rattle.rules.specs.Bytes.{onto}
use Rattle.rules.specs.File.{Round}
use Rattle.rules.specs.Pot.{total_in, reason}
use Rattle.rules.specs.Round.{pot_of}
use Rattle.rules.specs.Result as rules
use Rattle.rules.specs.Listing.{app_line, year_line, bid_line, price_listed, pot_lines, app_line_of, round_lines}
use Rattle.rules.specs.declared.Sections.{Sections}
use Rattle.rules.specs.declared.Told.{Told}
use Rattle.store.proofs.Laws.{each_same}
use Rattle.result.specs.declared.Tellings.{Tellings}
use Rattle.result.specs.Tells.{InRange, Counted, no_pot, Tells}
use Rattle.result.proofs.Laws.{outcome_told, price_told_lem, total_told, app_told_lem, reason_told}
use Rattle.lines.specs.Printed.{Printed}
use Rattle.listing.specs.ToldLines.{price_told, year_line_told, pot_lines_told, pot_listed, app_line_told, bid_line_told, lines_told}

module _ {R : Round} {t : Tellings} {sections : Sections} (ok : InRange sections) (C : Counted R sections) (T : Tells R t) where
  price_is : (p y : ℕ) → p < R.p → price_told sections (get_or t.pots p no_pot) y ≡ price_listed R.d (pot_of R p) y
  unfolding price_told price_listed
  price_is p y h =
      rw C.deliveries (elim (dec_lt y R.d) [
        | yes q ↦ rw (lt-ltb y R.d q) (price_told_lem T p y h (omega (arith, ok.deliveries, C.deliveries)))
        | no q ↦ rw (le-ltb y R.d (omega (arith, q)))
      ])

  pot_is : (p : ℕ) → p < R.p → pot_listed t sections p ≡ pot_lines R.d R.y p (pot_of R p)
  unfolding pot_lines_told year_line_told pot_lines
  pot_is p h =
      rw (
        outcome_told T p h,
        each_same (year_line_told sections (get_or t.pots p no_pot)) (λ y. year_line y (price_listed R.d (pot_of R p) y) (total_in (pot_of R p) y))
            sections.years
            (λ y l. rw (price_is p y h, total_told T p y h (omega (arith, C.years)))),
        C.years,
      )

  app_is : (a : ℕ) → a < R.n → app_line_told t a ≡ app_line_of R a
  unfolding app_line_told app_line_of
  app_is a h = ap (λ (x : Told). app_line a x.won x.paid x.bid) (app_told_lem T a h)

  bid_is : (k : ℕ) → k < R.b → bid_line_told t k ≡ bid_line k (reason (rules.pot_at R k) k)
  unfolding bid_line_told
  bid_is k h = ap (bid_line k) (reason_told T k h)

  pub lines_are : lines_told t sections ≡ round_lines R
  unfolding lines_told round_lines
  lines_are =
      rw (
        each_same (pot_listed t sections) (λ p. pot_lines R.d R.y p (pot_of R p)) sections.pots (λ p h. pot_is p (omega (arith, C.pots))),
        each_same (app_line_told t) (app_line_of R) sections.applications (λ a h. app_is a (omega (arith, C.apps))),
        each_same (bid_line_told t) (λ k. bid_line k (reason (rules.pot_at R k) k)) sections.bids (λ k h. bid_is k (omega (arith, C.bids))),
        C.pots,
        C.apps,
        C.bids,
      )

-- a text that is printed and is the listing of a round
pub is_listed : (R : Round) {e s t : List ℕ} {m r : ℕ} → Printed e m s t r → e ≡ round_lines R → (r ≡ length (round_lines R)) × (t ≡ onto (round_lines R) s)
is_listed R {e} {s} P h = (P.long ∙ ap length h, P.filled.bytes ∙ ap (λ (l : List ℕ). onto l s) h)
