-- `records::pots::pots` meets its contract: the records are judged in file order.
use mathlib.Core.Path.{ap, ◌∙◌}
use Rattle.std.proofs.Common.{rules}
use Rattle.rules.specs.Names.{pot_width}
use Rattle.rules.specs.Reading.{reading_in}
use Rattle.rules.specs.Refusals.{pot_fault}
use Rattle.laws_reading.specs.Faults.{passed_on}
use Rattle.records.specs.Records.{pots_of}
use Rattle.records.proofs.Laws.{whole_before, all_right, first_wrong}
use Rattle.records.proofs.pots.pots.Goals as goal

pub in_order-requires : goal.in_order-requires
in_order-requires c = λ i l N.
    let a = c.args in
    let w = whole_before a.recs.now (pot_width a.done.years a.done.gained) (pot_fault a.done.years a.done.gained a.recs.now) (λ j r k. search rules) i N in
    rw c.width.ensures (search rules)

pub returns-in_err-in_order : goal.returns-in_err-in_order
unfolding pots_of
returns-in_err-in_order c =
    ap reading_in (passed_on _ c.from_residual.ensures.1)
    ∙ first_wrong _ (λ j r k. search rules) _ _ _ _ (rw c.width.ensures at c.in_err-in_order.ensures)

pub returns : goal.returns
unfolding pots_of
returns c = all_right _ (λ j r k. search rules) _ _ _ _ (rw c.width.ensures at c.in_ok-in_order.ensures)
