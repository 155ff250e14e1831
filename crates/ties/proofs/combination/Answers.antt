-- The invariant: the set has the bids passed that are in the combination.
use borrow.Author.Rules.{rules}
use mathlib.Core.Path.{◌∙◌}
use Rattle.arrays.specs.Sets.{none}
use Rattle.ties.specs.Ties.{combination_of}
use Rattle.ties.proofs.Laws.{combination_hit, combination_miss}
use Rattle.ties.proofs.combination.Goals as goal
use Rattle.ties.proofs.combination.Goals.{else-member, then-member}

pub loop-j-init : goal.loop-j-init
unfolding combination_of none
loop-j-init c = search rules

pub loop-j-preserved : goal.loop-j-preserved
loop-j-preserved c = elim c.if-member.branch [ then-member w ↦ w.out-is ∙ combination_hit _ _ _ c.member.ensures _ c.loop-j.invariant w.if-member.true | else-member w ↦ w.out-is ∙ combination_miss _ _ _ c.member.ensures _ c.loop-j.invariant w.if-member.false ]
