-- After i turns the first i records stand at the start.
use Rattle.std.proofs.Common.{ℕ, List}
use Rattle.rules.specs.Bytes.{each}
use Rattle.store.specs.Filled.{Filled}
use Rattle.store.specs.Records.{Stores}
use Rattle.store.proofs.records.Given as goal

abbrev pub invariant-loop-i : goal.invariant-loop-i
invariant-loop-i g l = (f : ℕ → List ℕ) → Stores g.F.Fn l.write l.width l.n f → Filled (each f l.i) l.fn.s l.s
