-- Laws of a part of a file. Assumes nothing.
use Prim.Native.Nat.{ℕ, ◌-◌, ◌≤◌}
use mathlib.Core.Path.{◌≡◌}
use mathlib.Core.List.{List}
use native.Mathlib.Omega.{arith}
use lib.ListN.{length, length-take, length-drop}
use Rattle.rules.specs.Bytes.{part}

-- a part that lies within the file is as long as it says
pub part_length : (s : List ℕ) (a e : ℕ) → a ≤ e → e ≤ length s → length (part s a e) ≡ e - a
part_length s a e h l = rw length-take (omega (arith, length-drop a s))
