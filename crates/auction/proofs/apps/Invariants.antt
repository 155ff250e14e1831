-- `auction::apps` meets its contract: the applications passed are told.
use mathlib.Core.Path.{◌≡◌}
use Rattle.auction.specs.Numbers.{apps_of}
use Rattle.auction.proofs.apps.Given as goal

abbrev pub invariant-loop-a : goal.invariant-loop-a
invariant-loop-a l = l.out ≡ apps_of l.sheet.cells.now l.prices l.winning l.automatics l.a
