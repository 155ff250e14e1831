-- `rows::factors::hours` meets its contract, by the three cases of its definition.
use native.Mathlib.Omega.{arith}
use Rattle.rows.proofs.Laws.{hours_before, hours_first, hours_later}
use Rattle.rows.proofs.factors.hours.Goals as goal

pub returns-then-y-d : goal.returns-then-y-d
returns-then-y-d c = (hours_before _ _ _ _ c.if-y-d.true, omega arith)

pub returns-then-y-d-2 : goal.returns-then-y-d-2
returns-then-y-d-2 c = (hours_first _ _ _ _ c.if-y-d.false c.if-y-d-2.true, omega arith)

pub returns-else-y-d-2 : goal.returns-else-y-d-2
returns-else-y-d-2 c = (hours_later _ _ _ _ c.if-y-d.false c.if-y-d-2.false, omega arith)
