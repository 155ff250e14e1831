-- `listing::pots` meets its contract: each pot has its lines. Assumes nothing.
use Rattle.std.proofs.Common.{rules}
use Rattle.listing.specs.ToldLines.{pot_listed}
use Rattle.listing.proofs.pots.Goals as goal

pub returns : goal.returns
returns c = c.in_turn.ensures (pot_listed c.args.t.now c.args.counts.sections) record { printed = λ i r p q h e. search rules }
