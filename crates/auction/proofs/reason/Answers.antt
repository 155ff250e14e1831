-- `auction::reason` meets its contract: a law for each return.
use mathlib.Core.Path.{◌∙◌}
use Rattle.auction.proofs.Laws.{reason_marked, reason_won, reason_else}
use Rattle.auction.proofs.reason.Goals as goal

pub returns-then-mark-ne-FRESH : goal.returns-then-mark-ne-FRESH
returns-then-mark-ne-FRESH c = c.from.ensures ∙ reason_marked _ _ c.if-mark-ne-FRESH.true

pub returns-then-won : goal.returns-then-won
returns-then-won c = reason_won _ _ c.if-mark-ne-FRESH.false c.if-won.true

pub returns-else-won : goal.returns-else-won
returns-else-won c = reason_else _ _ c.if-mark-ne-FRESH.false c.if-won.false
