-- `ties::alone::fits_alone` meets its contract.
use borrow.Author.Rules.{rules}
use borrow.Author.Tests.{tests}
use native.Mathlib.Omega.{arith}
use Prim.Native.Nat.{◌≤◌, ◌<◌}
use mathlib.Core.Path.{refl}
use Rattle.std.proofs.lemmas.Iterator.{cases_from_all, YieldsList-from_range}
use Rattle.sheet.specs.Sheet.{limit_at}
use Rattle.ties.specs.Ties.{alone_total}
use Rattle.ties.proofs.Ranges.{all_below, fits_by}
use Rattle.ties.proofs.alone.fits_alone.Goals as goal

pub returns : goal.returns
returns c =
    let total = alone_total c.args.sheet.now.cells.now c.args.sheet.now.size c.args.base.now c.args.price c.args.k in
    fits_by _ _ _ _ (all_below c.args.sheet.now.size.columns _ _ _
    (cases_from_all _ _ _ (λ i. total i ≤ limit_at c.args.sheet.now.cells.now i) (λ i. limit_at c.args.sheet.now.cells.now i < total i) c.all.ensures.ran
    (YieldsList-from_range 0 _ _ refl (omega arith)) (λ x q k. search (rules, tests)) (λ x q k. search (rules, tests))))
