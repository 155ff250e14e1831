-- `fill::fill_admins` meets its contract. After a turns the prices of the first a applications are right, and those after them are blank yet.
use Rattle.rows.specs.Rows.{round_in}
use Rattle.fill.proofs.Laws.{Administered}
use Rattle.fill.proofs.fill_admins.Given as goal

abbrev pub invariant-loop-a : goal.invariant-loop-a
invariant-loop-a l = Administered (round_in l.round.file.now l.round.sections) l.p l.a l.initial.cells l.cells
