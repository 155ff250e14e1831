-- `search::search` meets its contract.
use mathlib.Core.Path.{refl, ap}
use Rattle.sheet.specs.Sheet.{one_more}
use Rattle.combinations.proofs.Lists.{gathered_owned}
use Rattle.ties.proofs.Laws.{drawing, answer_is}
use Rattle.search.proofs.Ways.{cuts_of, seeking, searched_top, searched_none, searched_place}
use Rattle.search.proofs.search.Goals as goal

pub table-table-requires : goal.table-table-requires
table-table-requires c = gathered_owned _ _ _ c.requires.0.ready c.requires.1 c.owns-own.ensures

pub greatest-found-requires : goal.greatest-found-requires
greatest-found-requires c = ((drawing _ _ _ _ _ c.requires.0 c.requires.1 c.owns-own.ensures c.table-table.ensures).searching, cuts_of _ _ _ _ _ c.requires.0 c.requires.1 (c.sound.ensures c.if-not-sound.false).rising c.owns-own.ensures c.table-table.ensures, c.requires.1.placed.few)

pub idle-requires : goal.idle-requires
idle-requires c = drawing _ _ _ _ _ c.requires.0 c.requires.1 c.owns-own.ensures c.table-table.ensures

pub tally-counts-requires : goal.tally-counts-requires
tally-counts-requires c = let s = c.sound.ensures c.if-not-sound.false in
    seeking _ _ _ _ _ c.requires.0 c.requires.1 s.rising c.owns-own.ensures c.table-table.ensures s.onto c.greatest-found.ensures refl c.idle.ensures

pub returns-in_default : goal.returns-in_default
returns-in_default c = answer_is _ _ _ _ _ _ c.owns-own.ensures c.table-table.ensures
    (searched_top _ _ _ _ c.greatest-found.ensures c.tally-counts.ensures c.requires.1.placed.few refl (ap one_more c.in_default.is))

pub returns-then-ways-eq0 : goal.returns-then-ways-eq0
returns-then-ways-eq0 c = answer_is _ _ _ _ _ _ c.owns-own.ensures c.table-table.ensures
    (searched_none _ _ _ _ c.greatest-found.ensures c.tally-counts.ensures c.requires.1.placed.few refl _ (ap one_more c.in-Some.is) c.if-ways-eq0.true)

pub at_place-mask-requires : goal.at_place-mask-requires
at_place-mask-requires c = let s = c.sound.ensures c.if-not-sound.false in
    (seeking _ _ _ _ _ c.requires.0 c.requires.1 s.rising c.owns-own.ensures c.table-table.ensures s.onto c.greatest-found.ensures refl c.idle.ensures, c.tally-counts.ensures)

pub returns : goal.returns
returns c = answer_is _ _ _ _ _ _ c.owns-own.ensures c.table-table.ensures
    (searched_place _ _ _ _ c.greatest-found.ensures c.tally-counts.ensures c.requires.1.placed.few refl _ (ap one_more c.in-Some.is) c.at_place-mask.ensures)
