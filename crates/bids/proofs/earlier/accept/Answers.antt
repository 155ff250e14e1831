-- `bids::earlier::accept` meets its contract: bid i leads on to the latest before it, and its application leads to it.
use Rattle.bids.proofs.Chains.{latest_next, previous_next}
use Rattle.bids.proofs.earlier.accept.Goals as goal

pub returns : goal.returns
returns c =
    let p = c.requires.latest in
    (latest_next _ _ _ _ p.0 c.application.ensures.0 c.put-2.ensures, previous_next _ _ _ _ p.1 c.start.ensures c.put.ensures)
