-- `added::whole::narrow_column` meets its contract.
use native.Mathlib.Omega.{arith}
use lib.Pow.{pow_pos}
use Rattle.sheet.proofs.Columns.{columns_few}
use Rattle.ties.proofs.Laws.{power_low}
use Rattle.added.proofs.whole.narrow_column.Goals as goal

pub union-years-requires : goal.union-years-requires
union-years-requires c = (c.requires.0.tables, omega (arith, c.power-all.ensures, pow_pos c.args.count, power_low c.requires.1))

pub joint-requires : goal.joint-requires
joint-requires c = (record { tables = c.requires.0.tables; number = omega (arith, c.power-all.ensures, pow_pos c.args.count, power_low c.requires.1); years = c.union-years.ensures.1 }, omega (arith, c.loop-c-test.true, columns_few c.requires.0.ready))
