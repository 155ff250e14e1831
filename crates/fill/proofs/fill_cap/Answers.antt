-- `fill::fill_cap` meets its contract: in a file without caps, for a cap that is none, and for one that becomes a limit.
use Rattle.fill.proofs.Laws.{no_caps, cap_none, cap_some}
use Rattle.fill.proofs.fill_cap.Goals as goal

pub returns-then-pots-eq0 : goal.returns-then-pots-eq0
returns-then-pots-eq0 c =
    let e = c.pots-pots.ensures in
    rw e.1.0 (no_caps _ _ _ c.told-cells (rw e.1.1 at c.if-pots-eq0.true))

pub returns-then-cap-eq-NO_CAP : goal.returns-then-cap-eq-NO_CAP
returns-then-cap-eq-NO_CAP c =
    let e = c.pots-pots.ensures in
    rw e.1.0
    (cap_none _ _ _ c.told-cells (rw e.1.1 at c.if-pots-eq0.false) e.0 (rw (e.1.0, e.1.1) at c.cap-cap.ensures.0) c.if-cap-eq-NO_CAP.true)

pub returns-else-cap-eq-NO_CAP : goal.returns-else-cap-eq-NO_CAP
returns-else-cap-eq-NO_CAP c =
    let e = c.pots-pots.ensures in
    rw e.1.0
    (cap_some _ _ _ c.told-cells (rw e.1.1 at c.if-pots-eq0.false) e.0 (rw (e.1.0, e.1.1) at c.cap-cap.ensures.0) c.if-cap-eq-NO_CAP.false
    c.args.round.now.held.sound.years_most)
