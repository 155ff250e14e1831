-- `auction::clear_pot` meets its contract: what is told from how the pot ended is what the rules tell.
use Rattle.auction.proofs.Outcomes.{cleared}
use Rattle.auction.proofs.clear_pot.Goals as goal

pub returns : goal.returns
returns c =
    cleared _ _ c.args.sheet.now.ready c.ended-outcome.ensures c.reasons-reasons.ensures c.automatics-automatics.ensures c.apps-apps.ensures c.money-totals.ensures
