-- `fill::fill_drawn` meets its contract: in a file without drawn numbers, and in one with them.
use Rattle.fill.proofs.Laws.{drawn_none, drawn_some}
use Rattle.fill.proofs.fill_drawn.Goals as goal
use Rattle.fill.proofs.fill_drawn.Goals.{else-pots-le-CAP_WIDTH, then-pots-le-CAP_WIDTH}

pub returns : goal.returns
returns c =
    let long = c.told-cells in
    let e = c.pots-pots.ensures in
    elim c.if-pots-le-CAP_WIDTH.branch [
      | then-pots-le-CAP_WIDTH w ↦ rw w.cells-is (drawn_none _ _ _ long (rw e.1.1 at w.if-pots-le-CAP_WIDTH.true))
      | else-pots-le-CAP_WIDTH w ↦ rw w.cells-is
          (drawn_some _ _ _ long (rw e.1.1 at w.if-pots-le-CAP_WIDTH.false) e.0 (rw (e.1.0, e.1.1) at w.drawn.ensures.0))
    ]
