-- `ties::listing::counted` meets its contract.
use Rattle.ties.proofs.Laws.{counted_at, counted_past}
use Rattle.ties.proofs.listing.counted.Goals as goal

pub returns-then-before-place : goal.returns-then-before-place
returns-then-before-place c = counted_at _ _ _ c.if-before-place.true

pub returns-else-before-place : goal.returns-else-before-place
returns-else-before-place c = counted_past _ _ _ c.if-before-place.false
