-- The invariant: the row holds the totals of the bids passed.
use mathlib.Core.Path.{◌∙◌}
use Rattle.sheet.proofs.Columns.{columns_few}
use Rattle.totals.specs.Totals.{total_of, no_row}
use Rattle.totals.proofs.Laws.{row_none, row_hit, row_miss, adding, total_le}
use Rattle.totals.proofs.revalued.Goals as goal
use Rattle.totals.proofs.revalued.Goals.{else-marks-k-eq-WON, then-marks-k-eq-WON}

pub loop-k-init : goal.loop-k-init
unfolding total_of no_row
loop-k-init c = row_none _ (columns_few c.args.sheet.now.ready)

pub add-requires : goal.add-requires
add-requires c =
    let v = c.args.sheet.now.ready in
    let inv = c.loop-k.invariant in
    adding _ _ _ _ _ v c.loop-k-test.true c.loop-k.auto.k-end inv (λ y. total_le _ _ _ _ y _ v c.loop-k.auto.k-end)

pub loop-k-preserved : goal.loop-k-preserved
loop-k-preserved c =
    let inv = c.loop-k.invariant in
    let v = c.args.sheet.now.ready in
    elim c.if-marks-k-eq-WON.branch [ then-marks-k-eq-WON w ↦ w.row-is ∙ row_hit _ _ _ _ _ _ (columns_few v) w.if-marks-k-eq-WON.true w.year.ensures inv w.add.ensures | else-marks-k-eq-WON w ↦ w.row-is ∙ row_miss _ _ _ _ _ _ w.if-marks-k-eq-WON.false inv ]
