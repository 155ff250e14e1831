-- `result::pots` meets its contract: the records follow the count. Assumes nothing.
use Rattle.std.proofs.Common.{rules, sym, ◌∙◌}
use Rattle.store.proofs.Laws.{filled_rest, length_bytes}
use Rattle.result.specs.ToldBytes.{pot_record, pots_told}
use Rattle.result.proofs.Laws.{length_pot}
use Rattle.result.proofs.pots.Goals as goal

pub returns : goal.returns
unfolding pots_told
returns c =
    let a = c.args in
    filled_rest 2 (length_bytes _ _) c.put.ensures
    (c.records.ensures (pot_record a.t a.counts.sections) record { wide = λ p. length_pot a.counts.sections _ ∙ sym c.pot_size.ensures; stored = λ i p q h e. search rules })
