-- The invariant: the years passed have their prices.
use borrow.Author.Rules.{rules}
use mathlib.Core.Path.{◌∙◌}
use Rattle.combinations.specs.Combinations.{repriced_to}
use Rattle.combinations.proofs.Laws.{repriced_hit, repriced_miss}
use Rattle.gathering.proofs.winners.repriced.Goals as goal
use Rattle.gathering.proofs.winners.repriced.Goals.{else-member, then-member}

pub loop-d-init : goal.loop-d-init
unfolding repriced_to
loop-d-init c = search rules

pub loop-d-preserved : goal.loop-d-preserved
loop-d-preserved c = let e = c.member.ensures in
    elim c.if-member.branch [ then-member w ↦ w.prices-is ∙ repriced_hit _ _ _ _ e c.loop-d.invariant w.if-member.true | else-member w ↦ w.prices-is ∙ repriced_miss _ _ _ _ e c.loop-d.invariant w.if-member.false ]
