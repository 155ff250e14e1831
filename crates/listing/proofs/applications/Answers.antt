-- `listing::applications` meets its contract: each line is the one of its application. Assumes nothing.
use Rattle.std.proofs.Common.{rules}
use Rattle.listing.specs.ToldLines.{app_line_told}
use Rattle.listing.proofs.applications.Goals as goal

pub returns : goal.returns
unfolding app_line_told
returns c = c.in_turn.ensures (app_line_told c.args.t.now) record { printed = λ i r p q h e. search rules }
