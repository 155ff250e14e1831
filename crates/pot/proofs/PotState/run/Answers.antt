-- The invariant: the state stands for a trace from which the auction runs on, no tie was too wide, and its sums are right.
use Rattle.pot.proofs.Runs.{start, start_narrow, run_others, run_less, run_again, run_wide, run_ends}
use Rattle.pot.proofs.PotState.run.Goals as goal

pub loop-seen-init : goal.loop-seen-init
loop-seen-init c = let pre = c.requires in (start _ _ pre.1, start_narrow pre.1, pre.0)

pub look-requires : goal.look-requires
look-requires c =
    let inv = c.loop-seen.invariant in
    record { ready = c.args.sheet.now.ready; others = run_others _ _ c.args.sheet.now.ready _ inv.0 inv.1 }

pub step-s-requires : goal.step-s-requires
step-s-requires c =
    let pre = c.requires in
    let inv = c.loop-seen.invariant in
    record { ready = c.args.sheet.now.ready; others = run_others _ _ c.args.sheet.now.ready _ inv.0 inv.1; looked = c.in-Some.ensures.0; summed = inv.2 }

pub returns-then-s : goal.returns-then-s
returns-then-s c =
    let pre = c.requires in
    let inv = c.loop-seen.invariant in
    let seen = c.in-Some.ensures in
    let step = c.step-s.ensures in (
      run_wide _ _ c.args.sheet.now.ready _ (run_again _ _ c.args.sheet.now.ready _ inv.0 inv.1 seen.0.price seen.1 step.stepped) c.if-s.true,
      step.summed,
    )

pub loop-seen-smaller : goal.loop-seen-smaller
loop-seen-smaller c =
    let inv = c.loop-seen.invariant in
    let seen = c.in-Some.ensures in
    run_less _ _ c.args.sheet.now.ready _ inv.0 inv.1 seen.0.price seen.1 c.step-s.ensures.stepped c.if-s.false

pub loop-seen-preserved : goal.loop-seen-preserved
loop-seen-preserved c =
    let inv = c.loop-seen.invariant in
    let seen = c.in-Some.ensures in
    let step = c.step-s.ensures in
    (run_again _ _ c.args.sheet.now.ready _ inv.0 inv.1 seen.0.price seen.1 step.stepped, c.if-s.false, step.summed)

pub returns : goal.returns
returns c =
    let inv = c.loop-seen.invariant in
    (run_ends _ _ c.args.sheet.now.ready _ inv.0 inv.1 c.in_default.ensures, inv.2)
