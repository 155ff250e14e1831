-- `bids::earlier::nine` meets its contract: one law for each way out.
use native.Mathlib.Omega.{arith}
use mathlib.Core.Path.{sym}
use Rattle.laws_reading.specs.Walk.{given_yes, given_no}
use Rattle.bids.proofs.earlier.nine.Goals as goal

pub returns-then-of_app-ge-BIDS_EACH : goal.returns-then-of_app-ge-BIDS_EACH
returns-then-of_app-ge-BIDS_EACH c = sym (given_no _ _ _ (λ h. omega arith))

pub returns : goal.returns
returns c = sym (given_yes _ _ _ (omega arith))
