-- `file::count::count_fault` meets its contract: the count is judged as it stands.
use Rattle.std.proofs.Common.{rules}
use Rattle.rules.specs.Refusals.{plain}
use Rattle.file.proofs.count.count_fault.Goals as goal

pub returns : goal.returns
returns c = c.judged.ensures plain (λ n r k. search rules)
