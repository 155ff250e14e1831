-- The sections of an accepted file are held: each is the part of the file that the reading says. Assumes nothing.
use Prim.Native.Nat.{ℕ, ◌+◌}
use mathlib.Core.Path.{◌≡◌, ap}
use mathlib.Core.List.{List}
use native.Mathlib.Omega.{arith}
use lib.ListN.{length}
use Rattle.rules.specs.Names.{count_width}
use Rattle.rules.specs.Bytes.{part}
use Rattle.rules.specs.File.{Round, round_of, sections, sections_of, pots_at, bids_at, end_at}
use Rattle.rules.specs.Refusals.{refusal, reading}
use Rattle.rules.specs.declared.Sections.{Sections}
use Rattle.rules.specs.Reading.{Accepted}
use Rattle.laws_reading.specs.Reading.{Sound}
use Rattle.laws_reading.specs.Fault.{handed_on, ends_there}
use Rattle.rows.specs.Rows.{round_in, Held}

-- where the sections of a file end
abbrev end : List ℕ → ℕ
end s = let R = round_of s in end_at R.y R.c R.p R.t R.n R.b

-- the sections of a file that ends where they do
parts_whole : (s : List ℕ) → length s ≡ end s → round_in s (sections_of (round_of s)) ≡ round_of s
unfolding sections_of round_of sections
parts_whole s e = ap (λ (n : ℕ). up_to n) e
  where
    up_to : ℕ → Round
    up_to n = record {
      years = part s count_width (pots_at (round_of s).y);
      pots = (round_of s).pots;
      techs = (round_of s).techs;
      apps = (round_of s).apps;
      bids = part s (bids_at (round_of s).y (round_of s).c (round_of s).p (round_of s).t (round_of s).n + count_width) n;
      y = (round_of s).y;
      d = (round_of s).d;
      c = (round_of s).c;
      p = (round_of s).p;
      t = (round_of s).t;
      n = (round_of s).n;
      b = (round_of s).b;
    }

held_sections : (s : List ℕ) → length s ≡ end s → Sound (round_of s) → Held s (sections_of (round_of s))
unfolding sections_of
held_sections s e S = record {
  sound = rw (parts_whole s e) S;
  one = omega arith;
  two = omega arith;
  three = omega arith;
  four = omega arith;
  five = omega arith;
}

pub accepted : (s : List ℕ) {z : Sections} → reading s ≡ Accepted z → (round_in s z ≡ round_of s) × Held s z
accepted s {z} e =
    let h = handed_on s e in
    let l = ends_there s (unfold refusal in ap refusal e) in
    (rw h.0 (parts_whole s l), rw h.0 (held_sections s l h.1))
