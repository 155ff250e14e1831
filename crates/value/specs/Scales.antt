-- The scales of the factors, and that rounding up at each of them is rounding up once. Assumes nothing.
use Rattle.std.specs.Prelude.{◌≡◌, ℕ, ◌+◌, ◌-◌, ◌*◌, ◌/◌, ◌<◌}
use Rattle.std.proofs.Common.{sym, ap, ◌∙◌, arith}
use Rattle.std.proofs.Math.Nat.{add-mul-div_right, div-div-eq-div-mul}
use Rattle.rules.specs.Value.{ceil_div, penny}

-- "factors taken at their scales": tenths of a penny, hundredths of a MW, ten-thousandths; so many make a penny a MWh, a MW, one
abbrev pub price_scale : ℕ
price_scale = 10

abbrev pub load_scale : ℕ
load_scale = 10000

abbrev pub capacity_scale : ℕ
capacity_scale = 100

abbrev pub tlm_scale : ℕ
tlm_scale = 10000

abbrev pub rqm_scale : ℕ
rqm_scale = 10000

-- the widest of them
abbrev pub widest : ℕ
widest = 10000

-- over one scale and then over another, rounding up at each, is over both, rounding up once
pub twice : (n : ℕ) {a b : ℕ} → 0 < a → 0 < b → ceil_div (ceil_div n a) b ≡ ceil_div n (a * b)
twice n {a} {b} ha hb =
    let e : b - 1 + 1 ≡ b = omega arith in
    ap (λ (x : ℕ). x / b) (sym (add-mul-div_right (n + (a - 1)) (b - 1) ha))
    ∙ div-div-eq-div-mul _ a b
    ∙ ap (λ (x : ℕ). x / (a * b)) (omega (arith, ap (λ (x : ℕ). x * a) e))

-- a further line, over b, below one that is n over a
line : (n a b : ℕ) {m k : ℕ} → 0 < a → 0 < b → m ≡ ceil_div n a → k ≡ ceil_div m b → k ≡ ceil_div n (a * b)
line n a b ha hb e f = f ∙ ap (λ (x : ℕ). ceil_div x b) e ∙ twice n ha hb

module _ (n : ℕ) {price load capacity tlm rqm : ℕ} where
  -- the five lines below n
  pub lined : price ≡ ceil_div n price_scale → load ≡ ceil_div price load_scale → capacity ≡ ceil_div load capacity_scale → tlm ≡ ceil_div capacity tlm_scale
      → rqm ≡ ceil_div tlm rqm_scale → rqm ≡ ceil_div n penny
  lined p l c t r =
      let two = line n price_scale load_scale (omega arith) (omega arith) p l in
      let three = line n (price_scale * load_scale) capacity_scale (omega arith) (omega arith) two c in
      let four = line n (price_scale * load_scale * capacity_scale) tlm_scale (omega arith) (omega arith) three t in
      line n (price_scale * load_scale * capacity_scale * tlm_scale) rqm_scale (omega arith) (omega arith) four r
