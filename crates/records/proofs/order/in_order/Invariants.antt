-- `records::order::in_order` meets its contract: no record before record i is at fault.
use Rattle.records.specs.Order.{NoneBefore}
use Rattle.records.proofs.order.in_order.Given as goal

abbrev pub invariant-loop-i : goal.invariant-loop-i
invariant-loop-i g l = NoneBefore (goal.F-post g l.fault) l.i
