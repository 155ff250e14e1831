-- `arrays::count` meets its contract.
use Rattle.std.proofs.Common.{rules, ◌≡◌}
use mathlib.Core.Path.{◌∙◌}
use native.Mathlib.Omega.{arith}
use lib.ListN.{take}
use Rattle.std.specs.List.{count_by}
use Rattle.arrays.proofs.Arrays.{members_counted}
use Rattle.arrays.proofs.count.Goals as goal

pub returns : goal.returns
returns c =
    let counted : c.count.result ≡ count_by (λ t. t) (take c.args.bids c.args.set) = search rules in
    counted ∙ members_counted _ _ (omega arith)
