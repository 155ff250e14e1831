-- `result::applications` meets its contract: the records follow the count. Assumes nothing.
use Rattle.std.proofs.Common.{rules}
use Rattle.store.proofs.Laws.{filled_rest, length_bytes}
use Rattle.result.specs.ToldBytes.{app_record, apps_told}
use Rattle.result.proofs.Laws.{length_app}
use Rattle.result.proofs.applications.Goals as goal

pub returns : goal.returns
unfolding apps_told
returns c =
    filled_rest 2 (length_bytes _ _) c.put.ensures
    (c.records.ensures (app_record c.args.t) record { wide = λ a. length_app _; stored = λ i p q h e. search rules })
