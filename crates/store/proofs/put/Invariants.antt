-- After i turns the lowest i bytes of v stand at the start, and x is the rest of v.
use Rattle.std.proofs.Common.{◌≡◌, take}
use Rattle.rules.specs.Bytes.{bytes}
use Rattle.store.specs.Filled.{Filled}
use Rattle.store.proofs.Laws.{above}
use Rattle.store.proofs.put.Given as goal

abbrev pub invariant-loop-byte : goal.invariant-loop-byte
invariant-loop-byte l = Filled (bytes l.byte-index l.v) (take l.w l.fn.s) l.byte-items × (l.x ≡ above l.byte-index l.v)
