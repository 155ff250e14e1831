-- `round::cleared` meets its contract: the lent result is too short, or what is told of the file is written into it.
use native.Mathlib.Omega.{arith}
use Rattle.round.proofs.Laws.{handed, short, written}
use Rattle.round.proofs.cleared.Goals as goal

pub needed-need-requires : goal.needed-need-requires
needed-need-requires c = (handed c.args.file.now c.requires).ranges

pub returns-then-res-need : goal.returns-then-res-need
returns-then-res-need c =
    let a = c in
    short _ _ a.requires (c.needed-need.ensures.meant _ (handed a.args.file.now a.requires).counted) c.if-res-need.true

pub write-requires : goal.write-requires
write-requires c = record {
  ready = (handed c.args.file.now c.requires).ranges;
  room = omega
      (arith, c.if-res-need.false, c.needed-need.ensures.sized);
}

pub returns : goal.returns
returns c =
    let a = c in
    let h = handed a.args.file.now a.requires in
    written _ _ a.requires (c.needed-need.ensures.meant _ h.counted)
    c.if-res-need.false
    (c.write.ensures.meant _ h.counted c.told-t.ensures)
