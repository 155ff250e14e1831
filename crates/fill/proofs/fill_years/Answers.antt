-- `fill::fill_years` meets its contract. After y turns the capacity and the figures of the first y years stand, and all before and after them is as it was.
use native.Mathlib.Omega.{arith}
use mathlib.Core.Path.{ap, ◌∙◌}
use Rattle.rules.specs.File.{App}
use Rattle.sheet.specs.Sheet.{figure_place}
use Rattle.rows.proofs.Laws.{figure_length, its_tech}
use Rattle.fill.proofs.Laid.{laid}
use Rattle.fill.proofs.Laws.{figures_more}
use Rattle.fill.proofs.fill_years.Goals as goal

pub figure-v-requires : goal.figure-v-requires
figure-v-requires c =
    let known = c.requires in record {
      held = (its_tech _ c.args.round.now.held.sound _ known.0 c.application-its.ensures, omega arith);
      days_le_long_year = (known.1, known.2);
    }

pub loop-y-preserved : goal.loop-y-preserved
loop-y-preserved c =
    let inv = c.loop-y.invariant in
    let three = figure_length _ _ _ _ c.figure-v.ensures in
    let put = laid c.figure-v.result (figure_place c.args.k c.loop-y.y) c.loop-y.cells (omega (arith, inv.0)) c.lay.ensures in (
      put.same ∙ inv.0,
      put.kept _ (omega arith) ∙ inv.1,
      figures_more _ _ _ _ _ (ap (λ (a : App). a.tech) c.application-its.ensures) inv.2 c.figure-v.ensures put,
      λ j h. put.kept j (omega arith) ∙ inv.3 j h,
      λ j h. put.rest j (omega arith) ∙ inv.4 j (omega arith),
    )
