-- `added::sound::rising` meets its contract.
use borrow.Author.Rules.{rules}
use mathlib.Core.Path.{refl}
use Rattle.std.specs.Prelude.{⊤}
use Rattle.std.proofs.lemmas.Iterator.{cases_from_all, YieldsList-from_range}
use Rattle.ties.proofs.Ranges.{all_below}
use Rattle.added.specs.Added.{Rises}
use Rattle.added.proofs.Rise.{rises_all}
use Rattle.added.proofs.sound.rising.Goals as goal

pub returns : goal.returns
returns c = λ e. rises_all _ ((all_below _ _ _ (λ j. ⊤) (cases_from_all _ _ _ (λ j. Rises c.args.base.now j) (λ j. ⊤) c.all.ensures.ran
    (YieldsList-from_range 0 _ _ refl refl) (λ x q k. search rules) (λ x q k. search rules))).0 e)
