-- `result::write` meets its contract: each section fills its own part, and what is told of a round is its result. Assumes nothing.
use Prim.Native.Nat.{ℕ, ◌+◌}
use mathlib.Core.Path.{refl, ap, ◌∙◌}
use mathlib.Core.List.{List}
use Rattle.rules.specs.Names.{count_width}
use Rattle.rules.specs.Bytes.{onto}
use Rattle.result.proofs.Laws.{round_filled, told_is}
use Rattle.result.proofs.write.Goals as goal

pub returns : goal.returns
returns c =
    let a = c.args in
    let e = ap (λ (w : ℕ). count_width + w) c.pots_size-second.ensures.sized in
    let f = round_filled a.t a.sections _ _ _ e refl c.pots.ensures c.applications.ensures c.bids.ensures in
    record { told = f.bytes; meant = λ R C T. f.bytes ∙ ap (λ (e : List ℕ). onto e a.res.now) (told_is c.requires.ready C T) }
