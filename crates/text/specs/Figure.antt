-- The places of a figure. Assumes nothing.
use Rattle.std.specs.Prelude.{ℕ, ◌≤◌, ◌≡◌, length}
use Rattle.text.specs.declared.figure.Figure.{Figure}

-- those that a number of 28 digits takes, with its nine commas
abbrev pub longest : ℕ
longest = 37

-- and all: a number, a pound sign, a point and two digits of pence
abbrev pub most_places : ℕ
most_places = 42

pub record Whole (f : Figure) : Type 0 where
  pub long : length f.places ≡ most_places
  pub starts : f.at ≤ most_places
