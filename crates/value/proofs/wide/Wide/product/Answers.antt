-- `value::wide::Wide::product` meets its contract: the product of each column fits.
use mathlib.Core.Path.{refl, ap}
use Prim.Native.Nat.{ℕ, ◌*◌}
use native.Mathlib.Nat.{div-add-mod', mul-le-mul}
use native.Mathlib.Omega.{arith}
use Rattle.value.specs.Wide.{column}
use Rattle.value.proofs.wide.Wide.product.Goals as goal

pub returns : goal.returns
returns c = record {
  is = omega (arith, ap (λ (x : ℕ). x * c.args.share) (div-add-mod' c.args.parts column));
  columned = refl;
  low = mul-le-mul {n₂ = column} (omega arith) c.requires;
}
