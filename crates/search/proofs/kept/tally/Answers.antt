-- The invariant: of the stretches passed those kept are counted.
use native.Mathlib.Omega.{arith}
use Prim.Native.Nat.{◌+◌, ◌^◌}
use mathlib.Core.Path.{sym, ap, ◌∙◌}
use Rattle.ties.specs.Ties.{listed_of}
use Rattle.ties.proofs.Laws.{listed_none, power_low}
use Rattle.search.proofs.Ways.{stretch_start, stretch_up, stretch_same, tally_none, tally_more}
use Rattle.search.proofs.kept.tally.Goals as goal

pub loop-k-init : goal.loop-k-init
loop-k-init c = (rw (stretch_start (2 ^ c.args.tied.count)) (listed_none _ _), tally_none _ _)

pub stretch_end-mask-requires : goal.stretch_end-mask-requires
stretch_end-mask-requires c = (omega (arith, c.power-all.ensures, power_low c.requires.drawing.placed.few), omega (arith, c.loop-k-test.true))

pub stretch_end-end-requires : goal.stretch_end-end-requires
stretch_end-end-requires c = (omega (arith, c.power-all.ensures, power_low c.requires.drawing.placed.few), omega (arith, c.loop-k-test.true))

pub walk-list-requires : goal.walk-list-requires
walk-list-requires c = let from = stretch_same c.loop-k.k c.power-all.ensures c.stretch_end-mask.ensures in
    let to = stretch_same (c.loop-k.k + 1) c.power-all.ensures c.stretch_end-end.ensures in
    let up = stretch_up (2 ^ c.args.tied.count) c.loop-k.k in
    record { seeking = (c.requires, omega (arith, from, to, up.0), omega (arith, to, up.1)); list_value = c.loop-k.invariant.0 ∙ ap (listed_of _ _) (sym from) }

pub loop-k-preserved : goal.loop-k-preserved
loop-k-preserved c = let list = c.walk-list.ensures ∙ ap (listed_of _ _) (stretch_same (c.loop-k.k + 1) c.power-all.ensures c.stretch_end-end.ensures) in
    (list, tally_more _ _ _ _ c.loop-k.invariant.1 c.loop-k-test.true list)
