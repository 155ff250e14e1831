-- `listing::write` meets its contract: pots, applications and bids follow each other, and what is told of a round is its listing. Assumes nothing.
use native.Mathlib.Omega.{arith}
use Rattle.listing.specs.ToldLines.{lines_told, longest}
use Rattle.lines.proofs.Laws.{printed_then, printed_within}
use Rattle.listing.proofs.Laws.{lines_are, is_listed}
use Rattle.listing.proofs.write.Goals as goal

pub returns : goal.returns
unfolding lines_told
returns c =
    let f = printed_then (printed_then c.pots-first.ensures c.applications.ensures) c.bids.ensures in
    record { told = printed_within longest (omega arith) f; meant = λ R C T. is_listed R f (lines_are c.requires.ready C T) }
