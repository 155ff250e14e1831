use native.Mathlib.Omega.{arith}
use native.Mathlib.Nat.{sub-zero}
use mathlib.Core.Path.{refl, sym, ◌∙◌}
use Rattle.rules.specs.Refusals.{bid_fault}
use Rattle.laws_reading.specs.Walk.{at_fault, goes_on_lem, at_end}
use Rattle.laws_reading.specs.Faults.{numbered}
use Rattle.laws_reading.specs.Fault.{no_fault}
use Rattle.bids.specs.Bids.{bids_of}
use Rattle.bids.proofs.judged.Goals as goal

pub loop-i-init : goal.loop-i-init
unfolding bids_of
loop-i-init c =
    (omega arith, refl, refl, c.requires.recs_bound.1, c.requires.recs_bound.2, rw (sub-zero c.args.done.bids))

pub returns-in-Err : goal.returns-in-Err
returns-in-Err c = at_fault _ _ _ _ _ _ c.loop-i.invariant.5 (omega arith) c.in-Err.ensures (numbered _)

pub accept-requires : goal.accept-requires
accept-requires c =
    let v = c.loop-i.invariant in
    let z = sym c.in_default.ensures in
    record {
      room = (no_fault _ _ (bid_fault _) _ z).0;
      latest = (v.3, v.4);
    }

pub loop-i-preserved : goal.loop-i-preserved
loop-i-preserved c =
    let e = c.accept.ensures in
    let v = c.loop-i.invariant in
    let z = sym c.in_default.ensures in
    let w = (no_fault _ _ (bid_fault _) _ z).0 in
    (omega arith, c.accept.auto.latest ∙ v.1, c.accept.auto.previous ∙ v.2, e.0, e.1, goes_on_lem _ _ _ _ _ _ v.5 (omega arith) z)

pub returns : goal.returns
returns c = at_end _ _ _ _ _ _ c.loop-i.invariant.5 (omega arith)
