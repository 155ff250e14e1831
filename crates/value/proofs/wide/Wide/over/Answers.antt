-- `value::wide::Wide::over` meets its contract: the lower column alone is divided.
use mathlib.Core.Path.{refl, ap, ◌∙◌}
use Prim.Native.Nat.{ℕ, ◌+◌, ◌*◌, ◌/◌}
use Rattle.value.specs.Wide.{lower_alone, no_more}
use Rattle.value.proofs.wide.Wide.over.Goals as goal

pub returns : goal.returns
returns c =
    let pre = c.requires in
    let w = c.args.self in
    let d = c.args.scale in record {
      is = ap (λ (x : ℕ). w.upper * (w.column / d) + x) c.over.ensures ∙ lower_alone w.upper w.column w.lower pre.0 pre.2;
      columned = refl;
      low = rw c.over.ensures (no_more w.lower pre.0);
    }
