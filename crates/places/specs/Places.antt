-- Counts of a file that may end before them. Assumes nothing.
use Rattle.std.specs.Prelude.{ℕ, ◌+◌, List, length}
use Rattle.std.proofs.Math.Decide.{dec_le}
use Rattle.rules.specs.Names.{count_width}
use Rattle.rules.specs.Lists.{given}
use Rattle.rules.specs.Bytes.{le}

-- the count at a place, 0 where the file ends before
unfoldable pub held : List ℕ → ℕ → ℕ
held s at = given (dec_le (at + count_width) (length s)) (le count_width s at) 0
