-- The digits are those of the number in decimal.
use Rattle.std.proofs.Common.{rules, ◌≤◌, ◌≡◌, length}
use mathlib.Core.Path.{ap, ◌∙◌}
use lib.ListN.{take}
use Rattle.rules.specs.Listing.{decimal, decimal_in}
use Rattle.lines.proofs.Decimal.{digits_decimal, fewest_20}
use Rattle.lines.proofs.number.Goals as goal

pub returns : goal.returns
unfolding decimal
returns c =
    let d = c.decimal-k in
    let few : d.result ≤ 20 = fewest_20 d.result c.args.n (search rules) d.ensures.len in
    let same : take d.result d.new.out ≡ decimal_in 20 c.args.n = d.ensures.digits ∙ digits_decimal 20 d.result c.args.n few d.ensures.len in
    record { long = d.ensures.in_bounds.1 ∙ ap length same; within = few; filled = rw same at c.copy.ensures }
