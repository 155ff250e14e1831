-- Files from a reader. Assumes nothing.
use Rattle.std.specs.Prelude.{ℕ, ◌≤◌, Option, IfSome}

-- room for the longest round file and bytes after it
abbrev pub room : ℕ
room = 8192

-- a file that was read is within the room
abbrev pub Within : Option ℕ → Type 0
Within got = IfSome got (λ length. length ≤ room)
