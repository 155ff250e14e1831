-- `ties::chosen` meets its contract.
use borrow.Author.Rules.{rules}
use Rattle.ties.proofs.Laws.{chosen_is, left_is}
use Rattle.ties.proofs.chosen.Goals as goal

pub returns : goal.returns
returns c = chosen_is _ _ c.combination.ensures _ (left_is c.args.answer.ways c.args.drawn _ _ c.map.ensures.cases (λ d q k. search rules))
