-- The invariant: `l` has seen the live bids passed.
use borrow.Author.Rules.{rules}
use native.Mathlib.Omega.{arith}
use mathlib.Core.Path.{◌∙◌}
use Rattle.sheet.specs.Sheet.{entrants}
use Rattle.sheet.proofs.Entrants.{entrant_small, entrants_few}
use Rattle.pot.specs.Marks.{look_of}
use Rattle.pot.proofs.Laws.{app_ok, year_ok, live_is}
use Rattle.pot.proofs.Seen.{pass_hit, pass_miss, pass_few, pass_looked}
use Rattle.pot.proofs.PotState.look.Goals as goal
use Rattle.pot.proofs.PotState.look.Goals.{else-live, then-live}

pub loop-j-init : goal.loop-j-init
unfolding look_of entrants
loop-j-init c = search rules

pub entrant-k-requires : goal.entrant-k-requires
entrant-k-requires c = omega (arith, c.loop-j-test.true, entrants_few c.requires.ready, c.requires.ready.few)

pub app-a-requires : goal.app-a-requires
app-a-requires c =
    omega (
      arith,
      c.entrant-k.ensures,
      entrant_small c.requires.ready _ c.loop-j-test.true,
      c.requires.ready.few,
    )

pub year-d-requires : goal.year-d-requires
year-d-requires c =
    omega (
      arith,
      c.entrant-k.ensures,
      entrant_small c.requires.ready _ c.loop-j-test.true,
      c.requires.ready.few,
    )

pub offset_bounds-self-k : goal.offset_bounds-self-k
offset_bounds-self-k c =
    omega (
      arith,
      c.entrant-k.ensures,
      entrant_small c.requires.ready _ c.loop-j-test.true,
      c.requires.ready.few,
    )

pub bounds-self-k : goal.bounds-self-k
bounds-self-k c =
    omega (
      arith,
      c.entrant-k.ensures,
      entrant_small c.requires.ready _ c.loop-j-test.true,
      c.requires.ready.few,
    )

pub bounds-self-a : goal.bounds-self-a
bounds-self-a c =
    app_ok _ c.requires.ready
    (omega (
      arith,
      c.entrant-k.ensures,
      entrant_small c.requires.ready _ c.loop-j-test.true,
    ))
    c.app-a.ensures

pub bounds-self-d : goal.bounds-self-d
bounds-self-d c =
    year_ok _ c.requires.ready
    (omega (
      arith,
      c.entrant-k.ensures,
      entrant_small c.requires.ready _ c.loop-j-test.true,
    ))
    c.year-d.ensures

pub price-requires : goal.price-requires
price-requires c =
    omega (
      arith,
      c.entrant-k.ensures,
      entrant_small c.requires.ready _
          c.loop-j-test.true,
      c.requires.ready.few,
    )

pub joined-requires : goal.joined-requires
joined-requires c =
    pass_few _ _ _ c.loop-j.invariant _ (omega (arith, c.loop-j-test.true, entrants_few c.requires.ready, c.requires.ready.few))

pub loop-j-preserved : goal.loop-j-preserved
loop-j-preserved c =
    let inv = c.loop-j.invariant in
    let k = c.entrant-k.ensures in
    let alive = live_is _ _ _ c.app-a.ensures c.year-d.ensures c.live.ensures in
    elim c.if-live.branch [ then-live w ↦ w.seen-is ∙ pass_hit _ _ _ inv k alive w.if-live.true w.price.ensures w.joined.ensures | else-live w ↦ w.seen-is ∙ pass_miss _ _ _ inv k alive w.if-live.false ]

pub returns : goal.returns
returns c =
    pass_looked _ _ _ c.requires.ready c.requires.others c.loop-j.invariant c.loop-j.auto.j-end
    c.loop-j-test.false
