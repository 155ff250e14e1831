-- i digits take so many places, and a comma for each full group; a tenth of each column fits.
use Rattle.std.proofs.Common.{ℕ, ◌+◌, ◌/◌, ◌^◌, ◌≤◌, ◌<◌, ◌≡◌, length}
use Rattle.text.specs.Figure.{longest, most_places}
use Rattle.text.proofs.figure.before.Given as goal

-- the most that a tenth of a machine's number is
abbrev pub most_tenth : ℕ
most_tenth = 1844674407370955161

abbrev pub invariant-loop-i : goal.invariant-loop-i
invariant-loop-i l =
    (l.at + l.i + l.i / 3 ≡ l.initial.at) × (l.lower < 2 ^ 64) × (l.tenth ≤ most_tenth) × (longest ≤ l.initial.at)
    × (l.initial.at ≤ most_places) × (length l.places ≡ most_places)
