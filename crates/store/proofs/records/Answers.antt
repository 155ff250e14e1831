use Rattle.std.proofs.Common.{◌≡◌, arith, length-take, length-drop}
use Rattle.rules.specs.Bytes.{each}
use Rattle.store.proofs.Laws.{filled_none, each_turn, room}
use Rattle.store.proofs.records.Goals as goal

pub loop-i-init : goal.loop-i-init
unfolding each
loop-i-init g c f h = filled_none _

pub write-requires : goal.write-requires
write-requires g c =
    let i = c.loop-i.i in
    c.requires.takes i _ (omega arith)
    (simp (length-take, length-drop) (omega (arith, room i c.args.n c.args.width (omega arith) c.requires.room)))

pub loop-i-preserved : goal.loop-i-preserved
loop-i-preserved g c f h =
    let l = c.loop-i in
    each_turn f c.args.width l.i h.wide (l.invariant f h) (h.stored l.i _ _ (omega arith) c.write.ensures)

pub returns : goal.returns
returns g c f h =
    let e : c.loop-i.i ≡ c.args.n = omega arith in
    rw (← e) (c.loop-i.invariant f h)
