-- A refusal's number and offset are small, so that nothing overflows.
use Rattle.std.proofs.Common.{ap, arith}
use Rattle.rules.specs.Answer.{answer_in}
use Rattle.capi.proofs.Laws.{number_small, code_cleared, code_refused}
use Rattle.capi.proofs.code.Goals as goal

pub overflow_mul-result : goal.overflow_mul-result
overflow_mul-result c = let z = number_small _ c.requires (ap answer_in c.in-Err.is) in omega (arith, z)

pub overflow_add-result : goal.overflow_add-result
overflow_add-result c = let z = number_small _ c.requires (ap answer_in c.in-Err.is) in omega (arith, z)

pub returns-in-Ok : goal.returns-in-Ok
returns-in-Ok c = code_cleared (ap answer_in c.in-Ok.is)

pub returns-in-Err : goal.returns-in-Err
returns-in-Err c = rw c.number.ensures (code_refused (ap answer_in c.in-Err.is))
