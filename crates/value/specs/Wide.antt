-- What the two columns of a `Wide` stand for, and a line in them. Assumes nothing.
use Rattle.std.specs.Prelude.{◌≡◌, ℕ, ◌+◌, ◌-◌, ◌*◌, ◌/◌, ◌%◌, ◌≤◌, ◌<◌}
use Rattle.std.proofs.Common.{sym, ap, ◌∙◌, div-add-mod', div-lt_iff_lt-mul, mul-le-mul_left, arith}
use Rattle.std.proofs.Math.Nat.{mul-add-div_right}
use Rattle.rules.specs.Value.{ceil_div, most_share}
use Rattle.value.specs.Scales.{price_scale, load_scale, capacity_scale, tlm_scale}
use Rattle.value.specs.declared.wide.Wide.{Wide}

abbrev pub number_of : Wide → ℕ
number_of w = w.upper * w.column + w.lower

-- how many units of a product's lower column make one of the upper, and the most that stands in the lower
abbrev pub column : ℕ
column = price_scale * load_scale * capacity_scale * tlm_scale

abbrev pub most_lower : ℕ
most_lower = column * most_share

-- `w` is the product
pub record Product (parts share : ℕ) (w : Wide) : Type 0 where
  pub is : number_of w ≡ parts * share
  pub columned : w.column ≡ column
  pub low : w.lower ≤ most_lower

-- `r` is `w` over a scale, rounded up
pub record Over (w : Wide) (scale : ℕ) (r : Wide) : Type 0 where
  pub is : number_of r ≡ ceil_div (number_of w) scale
  pub columned : r.column ≡ w.column / scale
  pub low : r.lower ≤ w.lower

-- where a scale divides the units of the upper column, the lower alone is divided
pub lower_alone : (u c l : ℕ) {d : ℕ} → 0 < d → c % d ≡ 0 → u * (c / d) + ceil_div l d ≡ ceil_div (u * c + l) d
lower_alone u c l {d} p e =
    let whole : c / d * d ≡ c = omega (arith, div-add-mod' c d) in
    sym (ap (λ (x : ℕ). x / d) (omega (arith, ap (λ (x : ℕ). u * x) whole)) ∙ mul-add-div_right p (u * (c / d)) (l + (d - 1)))

-- and becomes no more
pub no_more : (l : ℕ) {d : ℕ} → 0 < d → ceil_div l d ≤ l
no_more l {d} p =
    let f : ceil_div l d < l + 1 = (div-lt_iff_lt-mul p).1 (omega (arith, mul-le-mul_left l p)) in
    omega arith
