-- `added::whole::left` meets its contract.
use mathlib.Core.Path.{◌∙◌}
use Rattle.added.proofs.Asked.{left_is}
use Rattle.added.proofs.whole.left.Goals as goal

pub returns : goal.returns
returns c = c.saturating_sub.ensures ∙ left_is _ _ _ _ _ c.joint.ensures c.limit.ensures
