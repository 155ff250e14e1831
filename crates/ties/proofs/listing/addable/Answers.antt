-- `ties::listing::addable` meets its contract.
use mathlib.Core.Path.{ap, ◌∙◌}
use mathlib.Core.Bool.{not}
use Rattle.ties.proofs.Laws.{addable_in, addable_out, add_low}
use Rattle.ties.proofs.listing.addable.Goals as goal

pub fitting-requires : goal.fitting-requires
fitting-requires c =
    let g = c.requires in
    (g.0, add_low g.1 c.member.ensures c.if-not-member.true g.2 c.power.ensures)

pub returns-then-not-member : goal.returns-then-not-member
returns-then-not-member c = addable_out _ _ _ c.member.ensures c.if-not-member.true c.power.ensures c.fitting.ensures

pub returns-else-not-member : goal.returns-else-not-member
returns-else-not-member c = ap not c.if-not-member.false ∙ addable_in _ _ _ c.member.ensures c.if-not-member.false
