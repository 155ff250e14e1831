-- `bids::seven::held` meets its contract: equal numbers are judged alike.
use Rattle.bids.proofs.Laws.{held_is}
use Rattle.bids.proofs.seven.held.Goals as goal

pub returns : goal.returns
returns c =
    let years = c.years in
    let applications = c.applications in
    let read = c.read-its in
    let days = c.days-most_days in
    held_is _ c.args.done _ years.ensures c.technologies-technologies.ensures.0 applications.ensures c.judge.ensures read.ensures days.ensures.0
    (rw c.technologies-technologies.ensures.1 at c.admin-admin.ensures.0)
