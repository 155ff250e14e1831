-- `result::pot_record` meets its contract: the fields follow each other. Assumes nothing.
use mathlib.Core.Path.{refl}
use Rattle.result.proofs.Laws.{pot_filled}
use Rattle.result.proofs.pot_record.Goals as goal

pub returns : goal.returns
returns c = pot_filled c.args.counts.sections c.args.told _ refl c.put.ensures c.put_all.ensures c.put_all-2.ensures
