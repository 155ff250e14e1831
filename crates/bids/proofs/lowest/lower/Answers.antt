-- `bids::lowest::lower` meets its contract.
use native.Mathlib.Omega.{arith}
use Prim.Native.Nat.{suc, ◌≤◌}
use mathlib.Core.Bool.{true}
use mathlib.Core.Logic.{⊎_elim}
use mathlib.Core.Path.{◌≡◌, sym, ◌∙◌}
use Rattle.std.specs.Prelude.{leb}
use Rattle.std.proofs.lemmas.Bool.Decides.{leb_tells}
use Rattle.laws_reading.specs.Walk.{given_yes, given_no}
use Rattle.bids.proofs.Laws.{is_true, not_true}
use Rattle.bids.proofs.lowest.lower.Goals as goal

pub returns-then-same_year : goal.returns-then-same_year
returns-then-same_year c =
    let a = suc c.price.result in
    let b = c.args.price in
    ⊎_elim (λ (e : (leb a b ≡ true) × (a ≤ b)). e.0 ∙ sym (given_yes _ _ _ (is_true _ c.if-same_year.ensures, omega (arith, e.1))))
    (λ e. e.0 ∙ sym (given_no _ _ _ (λ h. omega (arith, e.1, h.1)))) (leb_tells a b)

pub returns-else-same_year : goal.returns-else-same_year
returns-else-same_year c = c.if-same_year.false ∙ sym (given_no _ _ _ (λ h. not_true _ c.if-same_year.ensures h.0))
