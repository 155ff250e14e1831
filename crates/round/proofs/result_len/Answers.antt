-- `round::result_len` meets its contract.
use mathlib.Core.Path.{sym, ap, ◌∙◌}
use Rattle.rules.specs.Reading.{reading_in}
use Rattle.round.proofs.Laws.{handed, length_read}
use Rattle.round.proofs.result_len.Goals as goal

pub map_or-requires : goal.map_or-requires
map_or-requires c = λ z e. (handed c.args.file.now (sym c.read.ensures ∙ ap reading_in e)).ranges

pub returns : goal.returns
returns c = length_read _ c.read.result _ c.read.ensures c.map_or.ensures (λ z p. p.1.1)
