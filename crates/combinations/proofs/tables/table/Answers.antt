-- `combinations::tables::table` meets its contract.
use Prim.Native.Nat.{ℕ}
use mathlib.Core.Path.{refl}
use lib.ListN.{replicate}
use Rattle.combinations.specs.Combinations.{table_length}
use Rattle.combinations.proofs.Laws.{table_room, table_laid}
use Rattle.combinations.proofs.tables.table.Goals as goal

pub slice_bounds-out-end-3 : goal.slice_bounds-out-end-3
slice_bounds-out-end-3 c =
    table_room _ _ _ _ _ c.told-base c.costs-costs.ensures c.years-dates.ensures c.copy_from_slice.ensures.after c.copy_from_slice-2.ensures.after
    (replicate {A = ℕ} table_length 0) refl

pub returns : goal.returns
returns c =
    table_laid _ _ _ _ _ c.told-base c.costs-costs.ensures c.years-dates.ensures c.copy_from_slice.ensures.after c.copy_from_slice-2.ensures.after
    (replicate {A = ℕ} table_length 0) refl c.copy_from_slice-3.ensures.after
