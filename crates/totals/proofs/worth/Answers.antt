-- `totals::worth` meets its contract.
use Rattle.totals.proofs.Laws.{worth_is}
use Rattle.totals.proofs.worth.Goals as goal

pub returns : goal.returns
returns c = record {
  value = worth_is _ _ _ _ _ c.admin.ensures c.capped-strike.ensures c.valued.ensures.0;
  small = c.valued.ensures.1;
}
