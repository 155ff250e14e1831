-- `round::clear` meets its contract: an accepted file is cleared, a refusal carried out.
use mathlib.Core.Path.{sym}
use Rattle.laws_reading.specs.Faults.{passed_on}
use Rattle.round.proofs.Laws.{turned_away}
use Rattle.round.proofs.clear.Goals as goal

pub cleared-requires : goal.cleared-requires
cleared-requires c = sym c.in_ok-sections.ensures

pub returns-in_err-sections : goal.returns-in_err-sections
returns-in_err-sections c = rw (passed_on _ c.from_residual.ensures.1) (turned_away _ _ (sym c.in_err-sections.ensures))
