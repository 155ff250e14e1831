-- `result::application_record` meets its contract: the fields follow each other. Assumes nothing.
use mathlib.Core.Path.{refl}
use Rattle.rules.specs.Bytes.{bytes}
use Rattle.rules.specs.Result.{app_bytes}
use Rattle.store.proofs.Laws.{filled_rest}
use Rattle.result.proofs.application_record.Goals as goal

pub returns : goal.returns
unfolding app_bytes bytes
returns c = filled_rest 6 refl (filled_rest 4 refl (filled_rest 2 refl c.put.ensures c.put-2.ensures) c.put-3.ensures) c.put-4.ensures
