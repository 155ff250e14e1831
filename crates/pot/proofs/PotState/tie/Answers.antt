-- `pot::PotState::tie` meets its contract.
use Rattle.combinations.proofs.Lists.{base_ok, tied_gathered}
use Rattle.pot.proofs.Laws.{tie_wide, tie_shared}
use Rattle.pot.proofs.PotState.tie.Goals as goal

pub rest-rest-requires : goal.rest-rest-requires
rest-rest-requires c = let pre =
    c.requires in record { ready = pre.ready; winners = base_ok _ _ _ _ _ pre.ready c.bases-base.ensures }

pub returns-then-count-gt-WIDEST_TIE : goal.returns-then-count-gt-WIDEST_TIE
returns-then-count-gt-WIDEST_TIE c =
    tie_wide _ _ _ _ _ c.bases-base.ensures c.rest-rest.ensures
    c.count-count.ensures c.if-count-gt-WIDEST_TIE.true c.too_wide.ensures

pub choose-choice-requires : goal.choose-choice-requires
choose-choice-requires c = let pre = c.requires in (
  record { ready = pre.ready; winners = base_ok _ _ _ _ _ pre.ready c.bases-base.ensures },
  tied_gathered _ _ _ _ pre.ready (record { counted = c.count-count.ensures; few = c.if-count-gt-WIDEST_TIE.false })
      c.gathered-tied.ensures,
)

pub returns : goal.returns
returns c =
    tie_shared _ _ _ _ _ c.bases-base.ensures
    c.rest-rest.ensures
    c.count-count.ensures c.if-count-gt-WIDEST_TIE.false
    c.gathered-tied.ensures c.choose-choice.ensures c.shared.ensures c.revalued.ensures
