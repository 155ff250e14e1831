-- `auction::told` meets its contract: one case for each variant.
use Rattle.auction.specs.Numbers.{told_by}
use Rattle.auction.proofs.told.Goals as goal

pub returns-in-Bid : goal.returns-in-Bid
unfolding told_by
returns-in-Bid c = rw (c.in-Bid.is, c.capped.ensures, c.year-d.ensures, c.admin.ensures)

pub returns-in-AtAdmin : goal.returns-in-AtAdmin
unfolding told_by
returns-in-AtAdmin c = rw (c.in-AtAdmin.is, c.admin_price.ensures)

pub returns-in-Lost : goal.returns-in-Lost
unfolding told_by
returns-in-Lost c = rw c.in-Lost.is
