-- `pot::live::joined` meets its contract.
use Rattle.pot.proofs.Seen.{joined_higher, joined_lower, joined_equal, joined_first}
use Rattle.pot.proofs.live.joined.Goals as goal

pub returns-in-Some : goal.returns-in-Some
returns-in-Some c = joined_higher _ _ _ c.in-Some.is c.if-seen-price.true

pub returns-in-Some-2 : goal.returns-in-Some-2
returns-in-Some-2 c = joined_equal _ _ _ c.in-Some-2.is c.if-seen-price-2.true

pub returns-in_default : goal.returns-in_default
returns-in_default c = joined_lower _ _ _ c.in-Some-2.is c.in-Some.is c.if-seen-price.false c.if-seen-price-2.false

pub returns-in_default-2 : goal.returns-in_default-2
returns-in_default-2 c = joined_first _ _ c.in_default.is
