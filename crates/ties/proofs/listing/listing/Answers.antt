-- `ties::listing::listing` meets its contract.
use mathlib.Core.Path.{refl, ap}
use Rattle.sheet.specs.Sheet.{one_more}
use Rattle.combinations.proofs.Lists.{gathered_owned}
use Rattle.ties.proofs.Laws.{drawing, answer_is, answer_top, answer_none, answer_place}
use Rattle.ties.proofs.listing.listing.Goals as goal

pub table-table-requires : goal.table-table-requires
table-table-requires c = gathered_owned _ _ _ c.requires.0.ready c.requires.1 c.owns-own.ensures

pub top-found-requires : goal.top-found-requires
top-found-requires c = ((drawing _ _ _ _ _ c.requires.0 c.requires.1 c.owns-own.ensures c.table-table.ensures).searching, c.requires.1.placed.few)

pub list_kept-first-requires : goal.list_kept-first-requires
list_kept-first-requires c = drawing _ _ _ _ _ c.requires.0 c.requires.1 c.owns-own.ensures c.table-table.ensures

pub returns-in_default : goal.returns-in_default
returns-in_default c = answer_is _ _ _ _ _ _ c.owns-own.ensures c.table-table.ensures (answer_top _ _ _ _ c.top-found.ensures c.list_kept-first.ensures (ap one_more c.in_default.is))

pub returns-then-ways-eq0 : goal.returns-then-ways-eq0
returns-then-ways-eq0 c = answer_is _ _ _ _ _ _ c.owns-own.ensures c.table-table.ensures
    (answer_none _ _ _ _ c.top-found.ensures c.list_kept-first.ensures _ (ap one_more c.in-Some.is) c.if-ways-eq0.true)

pub list_kept-list-requires : goal.list_kept-list-requires
list_kept-list-requires c = drawing _ _ _ _ _ c.requires.0 c.requires.1 c.owns-own.ensures c.table-table.ensures

pub returns : goal.returns
returns c = answer_is _ _ _ _ _ _ c.owns-own.ensures c.table-table.ensures
    (answer_place _ _ _ _ c.top-found.ensures c.list_kept-first.ensures _ (ap one_more c.in-Some.is) _ refl c.list_kept-list.ensures)
