-- `combinations::places::touch` meets its contract.
use Rattle.combinations.proofs.Laws.{touch_old, touch_new, touch_low}
use Rattle.combinations.proofs.places.touch.Goals as goal

pub returns-then-member : goal.returns-then-member
returns-then-member c = (touch_old _ _ c.member.ensures c.if-member.true, c.requires.0)

pub returns-else-member : goal.returns-else-member
returns-else-member c = (
  touch_new _ _ c.member.ensures c.if-member.false c.power.ensures,
  touch_low _ _ c.member.ensures c.if-member.false c.power.ensures c.requires.0
      c.requires.1,
)
