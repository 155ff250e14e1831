-- `auction::sold` meets its contract: the state's own rows, and what each application won with.
use Rattle.auction.specs.Numbers.{sold_of}
use Rattle.auction.proofs.sold.Goals as goal

pub returns : goal.returns
unfolding sold_of
returns c = rw c.winning_bids-winning.ensures
