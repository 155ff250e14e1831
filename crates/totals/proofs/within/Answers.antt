-- `totals::within` meets its contract.
use borrow.Author.Rules.{rules}
use borrow.Author.Tests.{tests}
use native.Mathlib.Omega.{arith}
use mathlib.Core.Path.{refl, ◌∙◌}
use lib.Dec.{leb}
use lib.ListN.{get_or}
use Rattle.std.proofs.lemmas.Iterator.{YieldsList-from_range}
use Rattle.std.proofs.lemmas.Iterator.Search.{all_from_yields_List}
use Rattle.sheet.specs.Sheet.{limit_at}
use Rattle.totals.proofs.Laws.{fits_all}
use Rattle.totals.proofs.within.Goals as goal

pub returns : goal.returns
returns c =
    let n = c.args.of.columns in
    all_from_yields_List (λ x. leb (get_or c.args.row x 0) (limit_at c.args.cells.now x)) _ _ _ c.all.ensures.ran (YieldsList-from_range 0 n n refl (omega arith))
    (λ x b q k. search (rules, tests))
    ∙ fits_all _ _ n
