-- `file::count::pots_count_fault` meets its contract: so many pots as the count tells are judged.
use Rattle.std.proofs.Common.{rules}
use Rattle.rules.specs.File.{pots_told}
use Rattle.file.proofs.count.pots_count_fault.Goals as goal

pub returns : goal.returns
returns c = c.judged.ensures pots_told (λ n r k. search rules)
