-- `auction::flat` meets its contract: the struct is the definition's record.
use borrow.Author.Rules.{rules}
use Rattle.auction.specs.Numbers.{flat_of}
use Rattle.auction.proofs.flat.Goals as goal

pub returns : goal.returns
unfolding flat_of
returns c = search rules
