-- `pot::PotState::follows` meets its contract.
use native.Mathlib.Omega.{arith}
use mathlib.Core.Path.{◌∙◌}
use borrow.Author.Tests.{ne_eqb}
use Rattle.pot.proofs.Laws.{follows_not, follows_other, follows_year}
use Rattle.pot.proofs.Seen.{sole_small, follows_none}
use Rattle.pot.proofs.PotState.follows.Goals as goal

pub app-requires : goal.app-requires
app-requires c = omega (arith, sole_small c.requires.0.ready c.in-Some.ensures.0 c.if-seen-eq1.true, c.requires.0.ready.few)

pub year-requires : goal.year-requires
year-requires c = omega (arith, sole_small c.requires.0.ready c.in-Some.ensures.0 c.if-seen-eq1.true, c.requires.0.ready.few)

pub returns-then-app : goal.returns-then-app
returns-then-app c = follows_year _ _ _ _ c.in-Some.ensures.0 c.if-seen-eq1.true
    c.app-in-Some.ensures c.app.ensures c.if-app.true c.year-then-app.ensures c.year.ensures

pub returns-else-app : goal.returns-else-app
returns-else-app c = ne_eqb _ _ c.if-app.false ∙ follows_other _ _ _ _ c.in-Some.ensures.0 c.if-seen-eq1.true
    c.app-in-Some.ensures c.app.ensures c.if-app.false

pub returns-in_default : goal.returns-in_default
returns-in_default c = follows_not _ _ _ _ c.in-Some.ensures.0 c.if-seen-eq1.false

pub returns-in_default-2 : goal.returns-in_default-2
returns-in_default-2 c = follows_none _ _ _ c.requires.0.ready _ c.in_default.ensures
