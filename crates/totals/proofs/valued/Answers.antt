-- `totals::valued` meets its contract.
use native.Mathlib.Omega.{arith}
use Rattle.totals.proofs.Laws.{valued_is, capacity_is}
use Rattle.totals.proofs.valued.Goals as goal

pub returns-then-c-sheet : goal.returns-then-c-sheet
returns-then-c-sheet c =
    let pre = c.requires in
    (capacity_is _ _ _ _ _ c.if-c-sheet.true c.capacity.ensures, omega (arith, c.capacity.ensures, pre.ready.capacity _ pre.place))

pub returns : goal.returns
returns c = (
  valued_is _ _ _ _ _ c.if-c-sheet.false c.reference-reference.ensures c.energy-energy.ensures
      c.share.ensures c.value.ensures.0,
  c.value.ensures.1,
)
