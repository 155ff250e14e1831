-- `round::lines` meets its contract: what is told of the file is listed.
use Rattle.round.proofs.Laws.{handed, lines_listed}
use Rattle.round.proofs.lines.Goals as goal

pub write-requires : goal.write-requires
write-requires c = record {
  ready = (handed c.args.file.now
      c.requires.accepted).ranges;
  room = c.requires.room;
}

pub returns : goal.returns
returns c =
    let a = c in
    let h = handed a.args.file.now a.requires.accepted in
    lines_listed _ _ a.requires.accepted a.requires.room (c.write.ensures.meant _ h.counted c.told-t.ensures)
