-- `added::sound::rises` meets its contract.
use native.Mathlib.Omega.{arith}
use mathlib.Core.Path.{refl}
use borrow.Author.Tests.{leb-true}
use Prim.Native.Nat.{◌/◌, ◌%◌}
use Rattle.rules.specs.Names.{most_deliveries}
use Rattle.sheet.specs.Sheet.{columns}
use Rattle.added.proofs.Rise.{more_years, rises_in, rises_here}
use Rattle.added.proofs.sound.rises.Goals as goal

pub bounds-base-t-else-member : goal.bounds-base-t-else-member
bounds-base-t-else-member c = omega (arith, more_years (c.args.i / columns / most_deliveries) (c.args.i / columns % most_deliveries) c.member.ensures c.if-member.false (omega (arith, c.requires)) (omega arith) c.power.ensures, c.requires)

pub returns-then-member : goal.returns-then-member
returns-then-member c = λ e. rises_in _ _ refl refl refl c.member.ensures c.if-member.true

pub returns-else-member : goal.returns-else-member
returns-else-member c = λ e. rises_here _ _ refl refl refl c.member.ensures c.power.ensures (leb-true _ _ e)
