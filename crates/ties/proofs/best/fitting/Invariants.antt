-- The invariant: every column passed fits.
use mathlib.Core.Bool.{true}
use mathlib.Core.Path.{◌≡◌}
use Rattle.totals.specs.Totals.{fits_to}
use Rattle.combinations.specs.Combinations.{joint_of}
use Rattle.ties.proofs.best.fitting.Given as goal

abbrev pub invariant-loop-c : goal.invariant-loop-c
invariant-loop-c l = true ≡ fits_to (joint_of l.table l.mask l.t) l.sheet.cells.now l.c
