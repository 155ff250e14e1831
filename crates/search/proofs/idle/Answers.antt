-- `search::idle` meets its contract.
use native.Mathlib.Omega.{arith}
use Rattle.sheet.proofs.Columns.{columns_few}
use Rattle.search.proofs.idle.Goals as goal

pub idle-requires : goal.idle-requires
idle-requires c = let ready = c.requires.searching.ready in (c.requires.placed, ready.some, omega (arith, ready.columns_least, columns_few ready))

pub narrow_column-requires : goal.narrow_column-requires
narrow_column-requires c = (c.requires.searching, c.requires.placed.few)
