-- The invariant: the row holds the totals of the bids passed.
use native.Mathlib.Omega.{arith}
use mathlib.Core.Path.{◌∙◌}
use Rattle.sheet.specs.Sheet.{entrants}
use Rattle.sheet.proofs.Columns.{columns_few}
use Rattle.sheet.proofs.Entrants.{entrant_small, entrants_few}
use Rattle.totals.specs.Totals.{part_on, no_row}
use Rattle.totals.proofs.Laws.{row_none, adding}
use Rattle.totals.proofs.Parts.{part_hit, part_lost, part_apart, part_done, part_passed}
use Rattle.totals.proofs.part.Goals as goal
use Rattle.totals.proofs.part.Goals.{else-marks-k-eq-WON-via-else-marks-k-eq-WON, else-marks-k-eq-WON-via-then-marks-k-eq-WON+else-year-d, then-marks-k-eq-WON+then-year-d, else-marks-k-eq-WON}

pub loop-j-init : goal.loop-j-init
unfolding entrants part_on no_row
loop-j-init c = row_none _ (columns_few c.args.sheet.now.ready)

pub entrant-k-requires : goal.entrant-k-requires
entrant-k-requires c = omega (arith, c.loop-j-test.true, entrants_few c.args.sheet.now.ready, c.args.sheet.now.ready.few)

pub offset_bounds-marks-k : goal.offset_bounds-marks-k
offset_bounds-marks-k c = let pre = c.args.sheet.now.ready in omega (arith, c.entrant-k.ensures, entrant_small pre _ c.loop-j-test.true, pre.few)

pub bounds-marks-k : goal.bounds-marks-k
bounds-marks-k c = let pre = c.args.sheet.now.ready in omega (arith, c.entrant-k.ensures, entrant_small pre _ c.loop-j-test.true, pre.few)

pub add-requires : goal.add-requires
add-requires c =
    let pre = c.args.sheet.now.ready in
    let inv = c.loop-j.invariant in
    adding _ _ _ _ _ pre (omega (
      arith,
      c.entrant-k.ensures,
      entrant_small pre _ c.loop-j-test.true,
    )) (omega (arith, c.loop-j.auto.j-end, entrants_few pre)) inv
    (λ y. part_passed _ _ _ _ _ _ y pre c.loop-j.auto.j-end)

pub loop-j-preserved : goal.loop-j-preserved
loop-j-preserved c =
    let pre = c.args.sheet.now.ready in
    let inv = c.loop-j.invariant in
    elim c.if-marks-k-eq-WON.branch [
      | then-marks-k-eq-WON+then-year-d w ↦ w.row-is ∙ part_hit _ _ _ _ _ _ _ c.entrant-k.ensures inv (columns_few pre) w.if-marks-k-eq-WON.true w.year.ensures w.if-year-d.true
          w.add.ensures
      | else-marks-k-eq-WON w ↦ w.row-is ∙ elim w.else-marks-k-eq-WON.branch [
        | else-marks-k-eq-WON-via-then-marks-k-eq-WON+else-year-d v ↦ part_apart _ _ _ _ _ _ _ c.entrant-k.ensures inv v.year.ensures v.if-year-d.false
        | else-marks-k-eq-WON-via-else-marks-k-eq-WON v ↦ part_lost _ _ _ _ _ _ _ c.entrant-k.ensures inv v.if-marks-k-eq-WON.false
      ]
    ]

pub returns : goal.returns
returns c = part_done _ _ _ _ _ _ _ c.loop-j.invariant c.args.sheet.now.ready c.loop-j.auto.j-end c.loop-j-test.false
