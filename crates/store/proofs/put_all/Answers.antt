use Rattle.std.proofs.Common.{rules, ◌+◌, get_or}
use Rattle.rules.specs.Bytes.{bytes}
use Rattle.store.specs.Filled.{numbers}
use Rattle.store.proofs.Laws.{length_bytes}
use Rattle.store.proofs.put_all.Goals as goal

pub returns : goal.returns
unfolding numbers
returns c =
    c.records.ensures (λ k. bytes c.args.w (get_or c.args.xs.now (c.args.from + k) 0))
    record { wide = λ k. length_bytes _ _; stored = λ i p q h e. search rules }
