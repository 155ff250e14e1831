-- `listing::pot_lines` meets its contract: the years follow their pot. Assumes nothing.
use native.Mathlib.Omega.{arith}
use Rattle.listing.specs.ToldLines.{longest_pot, pot_lines_told}
use Rattle.lines.proofs.Laws.{printed_then, printed_within}
use Rattle.listing.proofs.pot_lines.Goals as goal

pub returns : goal.returns
unfolding pot_lines_told
returns c = printed_within longest_pot (omega arith) (printed_then c.pot_line-at.ensures c.year_lines.ensures)
