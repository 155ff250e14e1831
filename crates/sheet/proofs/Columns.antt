-- The columns of a row of totals. Assumes nothing.
use Prim.Native.Nat.{ℕ, ◌≤◌}
use mathlib.Core.List.{List}
use native.Mathlib.Omega.{arith}
use Rattle.sheet.specs.declared.Size.{Size}
use Rattle.sheet.specs.Sheet.{columns, Ready}

pub columns_few : {sheet : List ℕ} {of : Size} → Ready sheet of → of.columns ≤ columns
columns_few ok = omega (arith, ok.years, ok.columns_most)
