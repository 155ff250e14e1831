-- `search::kept::at_place` meets its contract.
use native.Mathlib.Omega.{arith}
use Prim.Native.Nat.{◌+◌, ◌^◌}
use mathlib.Core.Path.{sym, ap, ◌∙◌}
use Rattle.ties.specs.Ties.{listed_of}
use Rattle.ties.proofs.Laws.{power_low}
use Rattle.search.proofs.Ways.{stretch_up, stretch_same, stretch_list, stretch_place, place_none}
use Rattle.search.proofs.kept.at_place.Goals as goal

pub returns-in_default : goal.returns-in_default
returns-in_default c = place_none _ _ c.requires.1 _ (power_low c.requires.0.drawing.placed.few) c.in_default.ensures

pub stretch_end-mask-requires : goal.stretch_end-mask-requires
stretch_end-mask-requires c = (omega (arith, c.power-all.ensures, power_low c.requires.0.drawing.placed.few), omega (arith, c.in-Some.ensures.low))

pub stretch_end-end-requires : goal.stretch_end-end-requires
stretch_end-end-requires c = (omega (arith, c.power-all.ensures, power_low c.requires.0.drawing.placed.few), omega (arith, c.in-Some.ensures.low))

pub walk-requires : goal.walk-requires
walk-requires c = let k = c.in-Some.k in
    let from = stretch_same k c.power-all.ensures c.stretch_end-mask.ensures in
    let to = stretch_same (k + 1) c.power-all.ensures c.stretch_end-end.ensures in
    let up = stretch_up (2 ^ c.args.tied.count) k in
    record { seeking = (c.requires.0, omega (arith, from, to, up.0), omega (arith, to, up.1)); list_value = stretch_list _ _ c.requires.1 _ _ c.in-Some.ensures ∙ ap (listed_of _ _) (sym from) }

pub returns : goal.returns
returns c = stretch_place _ _ c.requires.1 _ _ c.in-Some.ensures (c.walk.ensures ∙ ap (listed_of _ _) (stretch_same (c.in-Some.k + 1) c.power-all.ensures c.stretch_end-end.ensures))
