-- `bids::earlier::same_app` meets its contract.
use native.Mathlib.Omega.{arith}
use Rattle.bids.proofs.Laws.{tests}
use Rattle.bids.proofs.earlier.same_app.Goals as goal

pub returns : goal.returns
returns c = tests _ (λ e. omega arith) (λ h. omega arith)
