-- `tell::with_pot` meets its contract: its sheet shows the pot, which is cleared and told.
use Rattle.tell.proofs.Merge.{told_next}
use Rattle.tell.proofs.with_pot.Goals as goal

pub invariant_of-sheet : goal.invariant_of-sheet
invariant_of-sheet c = record { ready = c.fill-size.ensures.result_after.1 }

pub returns : goal.returns
returns c = λ T.
    told_next _ _ _ _ c.fill-size.ensures.value c.fill-size.ensures.result_after.0
    c.args.round.now.held.sound
    c.requires _ c.clear_pot-c.ensures _ c.with_cleared.ensures T
