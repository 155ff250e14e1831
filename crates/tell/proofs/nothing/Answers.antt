-- `tell::nothing` meets its contract: no pot is told, and every place is empty.
use Rattle.tell.proofs.Merge.{told_none}
use Rattle.tell.proofs.nothing.Goals as goal

pub returns : goal.returns
returns c = told_none
