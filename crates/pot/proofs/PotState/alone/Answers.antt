-- `pot::PotState::alone` meets its contract.
use Rattle.pot.proofs.Laws.{others_turned, alone_hung, alone_shut}
use Rattle.pot.proofs.PotState.alone.Goals as goal

pub follows-requires : goal.follows-requires
follows-requires c =
    let pre = c.requires in
    (record { ready = pre.0.ready; others = others_turned _ c.args.sheet.now.size _ _ c.turned-t.ensures pre.0.others }, pre.1)

pub returns-then-follows : goal.returns-then-follows
returns-then-follows c =
    alone_hung _ _ _ _ c.turned-t.ensures c.year-d.ensures c.follows.ensures
    c.if-follows.true c.hung.ensures

pub returns-else-follows : goal.returns-else-follows
returns-else-follows c =
    alone_shut _ _ _ _ c.turned-t.ensures c.year-d.ensures c.follows.ensures
    c.if-follows.false c.shut.ensures
