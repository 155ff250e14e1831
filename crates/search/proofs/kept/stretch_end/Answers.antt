-- `search::kept::stretch_end` meets its contract.
use borrow.Author.Rules.{rules}
use Rattle.search.specs.Search.{stretch_end}
use Rattle.search.proofs.kept.stretch_end.Goals as goal

pub returns : goal.returns
unfolding stretch_end
returns c = search rules
