-- `ties::best::last` meets its contract.
use Rattle.ties.proofs.Laws.{last_is}
use Rattle.ties.proofs.best.last.Goals as goal

pub returns : goal.returns
returns c = last_is _ _ _ c.union-t.ensures.0 c.joint.ensures
