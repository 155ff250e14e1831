-- `auction::money` meets its contract: the places of the years were copied.
use native.Mathlib.Omega.{arith}
use Rattle.auction.specs.Numbers.{no_money}
use Rattle.auction.proofs.Laws.{copied}
use Rattle.auction.proofs.money.Goals as goal

pub returns : goal.returns
unfolding no_money
returns c = rw c.copy_from_slice.ensures.after (copied no_money c.args.row 0 c.args.of.years (omega arith) (omega arith))
