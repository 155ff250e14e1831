use Rattle.std.proofs.Common.{◌≡◌, arith}
use Rattle.rules.specs.Bytes.{each}
use Rattle.lines.proofs.Laws.{printed_none, printed_within, each_printed}
use Rattle.listing.proofs.in_turn.Goals as goal

pub loop-i-init : goal.loop-i-init
unfolding each
loop-i-init g c = (omega arith, λ f h. printed_within _ (omega arith) (printed_none _))

pub loop-i-preserved : goal.loop-i-preserved
loop-i-preserved g c =
    let l = c.loop-i in
    let r = c.requires.short l.i _ _ _ (omega arith) c.line-at.ensures in
    (omega (arith, r), λ f h. each_printed f c.args.longest l.i (l.invariant.1 f h) (h.printed l.i _ _ _ (omega arith) c.line-at.ensures))

pub returns : goal.returns
returns g c f h =
    let e : c.loop-i.i ≡ c.args.n = omega arith in
    rw (← e) (c.loop-i.invariant.1 f h)
