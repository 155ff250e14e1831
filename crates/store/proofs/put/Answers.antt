use Rattle.std.proofs.Common.{◌≡◌, refl, arith, length-take}
use Rattle.rules.specs.Bytes.{bytes}
use Rattle.store.proofs.Laws.{above, above_more, filled_none, filled_part, put_turn}
use Rattle.store.proofs.put.Goals as goal

pub loop-byte-init : goal.loop-byte-init
unfolding bytes above
loop-byte-init c = (filled_none _, refl)

pub loop-byte-preserved : goal.loop-byte-preserved
loop-byte-preserved c =
    let l = c.loop-byte in
    (put_turn c.args.v l.byte-index l.invariant.0 l.invariant.1 (omega arith), rw (l.invariant.1, above_more))

pub returns : goal.returns
returns c =
    let e : c.loop-byte.byte-index ≡ c.args.w = omega (arith, length-take c.args.w c.args.s.now) in
    filled_part 0 c.args.w refl (filled_none _) (rw e at c.loop-byte.invariant.0)
