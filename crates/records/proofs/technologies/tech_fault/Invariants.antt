-- `records::technologies::tech_fault` meets its contract: the numbers of the years before y keep rule 5.
use Prim.Native.Nat.{ℕ, ◌<◌}
use Rattle.rules.specs.File.{tech_at}
use Rattle.records.proofs.Laws.{Priced}
use Rattle.records.proofs.technologies.tech_fault.Given as goal

abbrev pub invariant-loop-y : goal.invariant-loop-y
invariant-loop-y l =
    (j : ℕ) → j < l.y → Priced j l.deliveries ((tech_at l.of.years l.of.recs.now l.t).admin j) ((tech_at l.of.years l.of.recs.now l.t).reference j) ((tech_at l.of.years l.of.recs.now l.t).load j)
