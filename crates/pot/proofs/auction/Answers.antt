-- `pot::auction` meets its contract.
use Rattle.sheet.proofs.Columns.{columns_few}
use Rattle.pot.proofs.Sums.{summed_started}
use Rattle.pot.proofs.Runs.{started_stands}
use Rattle.pot.proofs.auction.Goals as goal

pub run-requires : goal.run-requires
run-requires c = (
  summed_started _ _ c.args.sheet.now.ready.few (columns_few c.args.sheet.now.ready) c.started.ensures,
  started_stands _ _ c.args.sheet.now.ready c.started.ensures,
)
