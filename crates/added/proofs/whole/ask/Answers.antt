-- `added::whole::ask` meets its contract.
use Rattle.sheet.proofs.Columns.{columns_few}
use Rattle.ties.proofs.Laws.{add_low}
use Rattle.added.proofs.Asked.{ask_in, ask_barred, ask_misfit, ask_bar, ask_fits}
use Rattle.added.proofs.whole.ask.Goals as goal
use Rattle.added.proofs.whole.ask.Goals.{then-member-via-then-member, then-member-via-else-member+then-alone-room}

pub returns-then-member : goal.returns-then-member
returns-then-member c = elim c.then-member.branch [
  | then-member-via-then-member w ↦ ask_in _ _ _ c.args.at.mask c.args.at.years c.requires.1 c.requires.2 (columns_few c.requires.0.ready) c.args.place c.member.ensures c.requires.4 w.if-member.true
  | then-member-via-else-member+then-alone-room w ↦ ask_barred _ _ _ c.args.at.mask c.args.at.years c.requires.1 c.requires.2 (columns_few c.requires.0.ready) c.args.place c.member.ensures c.requires.4 w.if-member.false c.requires.3 w.alone.ensures.0 w.if-alone-room.true
]

pub returns-in-Some : goal.returns-in-Some
returns-in-Some c = ask_bar _ _ _ c.args.at.mask c.args.at.years c.requires.1 c.requires.2 (columns_few c.requires.0.ready) c.args.place c.member.ensures c.if-member.false c.in-Some.ensures c.requires.3

pub fitting-requires : goal.fitting-requires
fitting-requires c = (c.requires.0, add_low c.requires.2.number c.member.ensures c.if-member.false c.requires.3 c.power.ensures)

pub returns-then-fitting : goal.returns-then-fitting
returns-then-fitting c = ask_fits _ _ _ c.args.at.mask c.args.at.years c.requires.1 c.requires.2 (columns_few c.requires.0.ready) c.args.place c.member.ensures c.if-member.false c.power.ensures c.fitting.ensures c.if-fitting.true

pub returns : goal.returns
returns c = ask_misfit _ _ _ c.args.at.mask c.args.at.years c.requires.1 c.requires.2 (columns_few c.requires.0.ready) c.args.place c.member.ensures c.requires.4 c.if-member.false c.power.ensures c.fitting.ensures c.if-fitting.false
