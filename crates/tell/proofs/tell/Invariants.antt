-- `tell::tell` meets its contract: the pots passed are told.
use Rattle.rows.specs.Rows.{round_in}
use Rattle.tell.specs.ToldTo.{ToldTo}
use Rattle.tell.proofs.tell.Given as goal

abbrev pub invariant-loop-p : goal.invariant-loop-p
invariant-loop-p l = ToldTo (round_in l.round.file.now l.round.sections) l.p l.t
