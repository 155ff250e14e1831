-- `bids::seven::judge` meets its contract: one law for each way out.
use native.Mathlib.Omega.{arith}
use mathlib.Core.Path.{sym}
use Rattle.bids.specs.Bids.{judge_of}
use Rattle.laws_reading.specs.Walk.{given_yes, given_no}
use Rattle.bids.proofs.seven.judge.Goals as goal

pub returns-then-bid-eq0 : goal.returns-then-bid-eq0
unfolding judge_of
returns-then-bid-eq0 c = sym (given_no _ _ _ (λ h. omega arith))

pub returns-then-bid-eq0-2 : goal.returns-then-bid-eq0-2
unfolding judge_of
returns-then-bid-eq0-2 c = sym (given_no _ _ _ (λ h. omega arith))

pub returns-then-bid-its : goal.returns-then-bid-its
unfolding judge_of
returns-then-bid-its c = sym (given_no _ _ _ (λ h. omega arith))

pub returns-then-its-bid-2 : goal.returns-then-its-bid-2
unfolding judge_of
returns-then-its-bid-2 c = sym (given_no _ _ _ (λ h. omega (arith, h.1.1.1.1.1.0 (omega arith))))

pub returns : goal.returns
unfolding judge_of
returns c = sym (given_yes _ _ _ (omega arith))
