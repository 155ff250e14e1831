-- `search::top` meets its contract.
use Rattle.combinations.proofs.Lists.{gathered_owned}
use Rattle.ties.proofs.Laws.{drawing}
use Rattle.search.proofs.Ways.{cuts_of, top_is}
use Rattle.search.proofs.top.Goals as goal

pub table-table-requires : goal.table-table-requires
table-table-requires c = gathered_owned _ _ _ c.requires.0.ready c.requires.1 c.owns-own.ensures

pub greatest-requires : goal.greatest-requires
greatest-requires c = ((drawing _ _ _ _ _ c.requires.0 c.requires.1 c.owns-own.ensures c.table-table.ensures).searching, cuts_of _ _ _ _ _ c.requires.0 c.requires.1 (c.sound.ensures c.if-sound.true).rising c.owns-own.ensures c.table-table.ensures, c.requires.1.placed.few)

pub returns-then-sound : goal.returns-then-sound
returns-then-sound c = top_is _ _ _ _ _ c.owns-own.ensures c.table-table.ensures c.greatest.ensures

pub top-requires : goal.top-requires
top-requires c = ((drawing _ _ _ _ _ c.requires.0 c.requires.1 c.owns-own.ensures c.table-table.ensures).searching, c.requires.1.placed.few)

pub returns-else-sound : goal.returns-else-sound
returns-else-sound c = top_is _ _ _ _ _ c.owns-own.ensures c.table-table.ensures c.top.ensures
