-- `ties::alone::alone_total` meets its contract.
use native.Mathlib.Omega.{arith}
use Rattle.sheet.proofs.Columns.{columns_few}
use Rattle.ties.proofs.Laws.{pow_at, alone_is}
use Rattle.ties.proofs.alone.alone_total.Goals as goal

pub bounds-base-t : goal.bounds-base-t
bounds-base-t c = let g = c.requires.0 in
    omega (arith, g.column, columns_few g.ready, pow_at _ c.year.ensures (g.ready.year _ g.bid) c.power-t.ensures)

pub returns : goal.returns
returns c = alone_is _ _ _ _ _ _ c.year.ensures c.power-t.ensures c.worth.ensures.value
