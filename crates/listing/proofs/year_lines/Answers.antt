-- `listing::year_lines` meets its contract: each line is the one of its year. Assumes nothing.
use Rattle.std.proofs.Common.{rules}
use Rattle.listing.specs.ToldLines.{year_line_told}
use Rattle.listing.proofs.year_lines.Goals as goal

pub returns : goal.returns
returns c = c.in_turn.ensures (year_line_told c.args.counts.sections c.args.told.now) record { printed = λ i r p q h e. search rules }
