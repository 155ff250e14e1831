-- `search::kept::full` meets its contract.
use native.Mathlib.Omega.{arith}
use mathlib.Core.Path.{refl}
use Rattle.ties.proofs.Laws.{power_low}
use Rattle.search.proofs.Ways.{near_whole, closed_full}
use Rattle.search.proofs.kept.full.Goals as goal

pub returns-in_default : goal.returns-in_default
returns-in_default c = near_whole _ _ _ _ _ c.requires.seeking.0 c.in_default.is _ c.requires.seeking.1 refl c.requires.near

pub whole-requires : goal.whole-requires
whole-requires c = let s = c.requires.seeking.0 in
    (s.drawing.searching, s.adding, s.drawing.placed.few, rw c.in-Some.is at s.narrow, omega (arith, c.requires.seeking.1, power_low s.drawing.placed.few))

pub returns : goal.returns
returns c = closed_full _ c.args.tied c.requires.seeking.0.drawing.placed _ c.requires.seeking.0.onto c.whole.ensures
