-- `bids::bids` meets its contract: no bid is chained yet.
use Rattle.bids.proofs.Chains.{latest_blank, previous_blank}
use Rattle.bids.proofs.bids.Goals as goal

pub judged-requires : goal.judged-requires
judged-requires c = record {
  tables_right = c.requires.0;
  recs_bound = (c.requires.1, latest_blank _ 64, previous_blank _ _);
}
