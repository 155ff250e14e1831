-- `tell::with_cleared` meets its contract: the pot's record at its place, and the merged applications and reasons.
use borrow.Author.Rules.{rules}
use Rattle.rules.specs.Names.{no_reason}
use Rattle.result.specs.Tells.{untold}
use Rattle.sheet.specs.Sheet.{in_auction, in_test}
use Rattle.tell.specs.ToldTo.{told_with}
use Rattle.tell.proofs.with_cleared.Goals as goal

pub returns : goal.returns
unfolding told_with
returns c =
    let sheet = c.args.sheet.now.cells.now in
    rw (c.number.ensures, c.merge_own.ensures (in_test sheet) untold (λ a b h q. search rules), c.merge_own-2.ensures (in_auction sheet) no_reason (λ k b h q. search rules))
