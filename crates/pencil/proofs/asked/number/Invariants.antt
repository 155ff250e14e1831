-- What has been read is a number that a bid may have.
use Rattle.std.proofs.Common.{◌<◌}
use Rattle.pencil.proofs.asked.number.Given as goal

abbrev pub invariant-loop-digit : goal.invariant-loop-digit
invariant-loop-digit l = l.n < 256
