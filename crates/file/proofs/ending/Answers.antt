-- `file::ending` meets its contract: bytes after the last record, or rule 11 of the bids.
use native.Mathlib.Omega.{arith}
use Rattle.file.proofs.Laws.{whole, facts5, bytes_after_lem, lowest_read}
use Rattle.file.proofs.ending.Goals as goal

pub overflow_add-start : goal.overflow_add-start
overflow_add-start c = omega (arith, facts5 _ c.requires)

pub overflow_mul-end : goal.overflow_mul-end
overflow_mul-end c = omega (arith, facts5 _ c.requires)

pub overflow_add-end : goal.overflow_add-end
overflow_add-end c = omega (arith, facts5 _ c.requires)

pub returns-then-left-gt0 : goal.returns-then-left-gt0
returns-then-left-gt0 c = bytes_after_lem _ c.requires (omega (arith, c.left.ensures, c.if-left-gt0.true))

pub records_after-requires : goal.records_after-requires
records_after-requires c = omega (arith, facts5 _ c.requires)

pub lowest-requires : goal.lowest-requires
lowest-requires c =
    let k = facts5 _ c.requires in
    omega (arith, k, whole _ _ _ c.records_after.ensures.0 (omega arith) k.within)

pub returns : goal.returns
returns c =
    lowest_read _ c.requires (omega (arith, c.left.ensures, c.if-left-gt0.false))
    c.records_after.ensures.0 c.lowest.ensures
