-- `records::technologies::technologies` meets its contract: the records are judged in file order.
use mathlib.Core.Path.{ap, ◌∙◌}
use Rattle.std.proofs.Common.{rules}
use Rattle.rules.specs.Names.{tech_width}
use Rattle.rules.specs.Reading.{reading_in}
use Rattle.rules.specs.Refusals.{tech_fault}
use Rattle.laws_reading.specs.Faults.{passed_on}
use Rattle.records.specs.Records.{techs_of}
use Rattle.records.proofs.Laws.{whole_before, all_right, first_wrong}
use Rattle.records.proofs.technologies.technologies.Goals as goal

pub in_order-requires : goal.in_order-requires
in_order-requires c = λ i l N.
    let a = c.args in
    let w = whole_before a.recs.now (tech_width a.done.years) (tech_fault a.done.years a.done.deliveries a.done.pots a.recs.now) (λ j r k. search rules) i N in
    rw c.width.ensures (search rules)

pub returns-in_err-in_order : goal.returns-in_err-in_order
unfolding techs_of
returns-in_err-in_order c =
    ap reading_in (passed_on _ c.from_residual.ensures.1)
    ∙ first_wrong _ (λ j r k. search rules) _ _ _ _ (rw c.width.ensures at c.in_err-in_order.ensures)

pub returns : goal.returns
unfolding techs_of
returns c = all_right _ (λ j r k. search rules) _ _ _ _ (rw c.width.ensures at c.in_ok-in_order.ensures)
