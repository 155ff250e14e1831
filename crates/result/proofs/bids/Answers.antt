-- `result::bids` meets its contract: the reasons follow the count. Assumes nothing.
use Rattle.store.proofs.Laws.{filled_rest, length_bytes}
use Rattle.result.specs.ToldBytes.{bids_told}
use Rattle.result.proofs.bids.Goals as goal

pub returns : goal.returns
unfolding bids_told
returns c =
    filled_rest 2 (length_bytes _ _) c.put.ensures c.put_all.ensures
