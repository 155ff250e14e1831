-- `fill::fill` meets its contract: what its parts wrote shows the pot, and is ready to be cleared.
use Prim.Native.Nat.{◌+◌}
use mathlib.Core.Path.{refl}
use native.Mathlib.Omega.{arith}
use Rattle.rules.specs.Names.{count_width}
use Rattle.rows.specs.Rows.{round_in}
use Rattle.fill.proofs.Laws.{part_byte}
use Rattle.fill.proofs.Shown.{written, shows, ready}
use Rattle.fill.proofs.fill.Goals as goal

pub returns : goal.returns
returns c =
    let s = c.args.round.now.file.now in
    let z = c.args.round.now.sections in
    let R = round_in s z in
    let S = c.args.round.now.held.sound in
    let w = written S.years_most c.fill_rows.ensures c.fill_admins.ensures c.fill_figures.ensures c.fill_admin_figures.ensures c.fill_limits.ensures
    c.fill_cap-columns.ensures c.fill_drawn.ensures c.fill_entrants-entered.ensures in
    let byte = part_byte s (z.applications_at + count_width) z.bids_at (λ i. omega (arith, c.args.round.now.bytes i)) in
    record { result_after = (shows R S c.args.p w, ready R S c.args.p byte c.requires.known w); value = refl }
