-- `added::sound::idle` meets its contract.
use borrow.Author.Rules.{rules}
use borrow.Author.Tests.{tests}
use native.Mathlib.Omega.{arith}
use Prim.Native.Nat.{◌-◌, ◌<◌}
use mathlib.Core.Path.{refl}
use Rattle.std.specs.Prelude.{⊤}
use Rattle.std.proofs.lemmas.Iterator.{cases_from_any, YieldsList-from_range}
use Rattle.ties.proofs.Ranges.{any_below}
use Rattle.added.specs.Added.{last_worth}
use Rattle.added.proofs.sound.idle.Goals as goal

pub returns : goal.returns
unfolding last_worth
returns c = (any_below c.args.tied.count _ (λ j. ⊤) _ (cases_from_any _ _ _ (λ j. ⊤) (λ j. 0 < last_worth c.args.own.now (c.args.of.years - 1) j) c.any.ensures.ran
    (YieldsList-from_range 0 _ _ refl (omega arith)) (λ x q k. search rules) (λ x q k. search (rules, tests)))).1
