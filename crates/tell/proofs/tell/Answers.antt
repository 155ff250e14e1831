-- `tell::tell` meets its contract: the pots passed are told.
use Rattle.tell.proofs.tell.Goals as goal

pub loop-p-init : goal.loop-p-init
loop-p-init c = c.nothing-t.ensures _
