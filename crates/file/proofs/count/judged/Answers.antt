-- `file::count::judged` meets its contract: the file ends early, or so many records as the count tells are judged.
use native.Mathlib.Omega.{arith}
use mathlib.Core.Path.{ap, ◌∙◌}
use Rattle.file.proofs.Laws.{count_short, count_whole}
use Rattle.file.proofs.count.judged.Goals as goal

pub returns-then-left-lt-COUNT_WIDTH : goal.returns-then-left-lt-COUNT_WIDTH
returns-then-left-lt-COUNT_WIDTH g c = λ f e. count_short _ _ _ _ _ (omega arith)

pub returns : goal.returns
returns g c = λ f e. count_whole _ _ _ _ _ (omega arith) (e _ _ c.told.ensures ∙ ap f c.count_at.ensures.0) c.range_fault.ensures
