-- `added::sound::onto` meets its contract.
use borrow.Author.Rules.{rules}
use native.Mathlib.Omega.{arith}
use mathlib.Core.Path.{refl}
use Rattle.std.specs.Prelude.{⊤}
use Rattle.std.proofs.lemmas.Iterator.{cases_from_all, YieldsList-from_range}
use Rattle.ties.proofs.Ranges.{all_below}
use Rattle.added.specs.Added.{Held}
use Rattle.added.proofs.sound.onto.Goals as goal

pub returns : goal.returns
returns c = (all_below c.args.tied.count _ _ (λ j. ⊤) (cases_from_all _ _ _ (λ j. Held c.args.tied j) (λ j. ⊤) c.all.ensures.ran
    (YieldsList-from_range 0 _ _ refl (omega arith)) (λ x q k. search rules) (λ x q k. search rules))).0
