-- `listing::bids` meets its contract: each line is the one of its bid. Assumes nothing.
use Rattle.std.proofs.Common.{rules}
use Rattle.listing.specs.ToldLines.{bid_line_told}
use Rattle.listing.proofs.bids.Goals as goal

pub returns : goal.returns
unfolding bid_line_told
returns c = c.in_turn.ensures (bid_line_told c.args.t.now) record { printed = λ i r p q h e. search rules }
