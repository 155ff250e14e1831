-- `RoundFile::figure` meets its contract: the figures are products of the factors.
use Rattle.rows.proofs.Laws.{figure_is}
use Rattle.rows.proofs.RoundFile.figure.Goals as goal

pub returns : goal.returns
returns c = figure_is _ _ _ _ c.of-of.ensures.0 c.energy.ensures.0 c.share.ensures.0
