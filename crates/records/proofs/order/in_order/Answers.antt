use native.Mathlib.Omega.{arith}
use Rattle.records.specs.Order.{right, wrong}
use Rattle.records.proofs.order.in_order.Goals as goal

pub returns-in-Err : goal.returns-in-Err
returns-in-Err g c = wrong _ c.loop-i-test.true _ c.in-Err.ensures c.loop-i.invariant _ (omega arith)

pub returns : goal.returns
returns g c = right (record { none = λ j l. c.loop-i.invariant.none j (omega arith) })
