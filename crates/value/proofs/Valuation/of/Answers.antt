-- `value::Valuation::of` meets its contract: the product fits by the ranges, and five lines that round up are one rounding.
use mathlib.Core.Path.{◌≡◌, refl, ap, ◌∙◌}
use Prim.Native.Nat.{ℕ, ◌-◌, ◌*◌, ◌≤◌}
use native.Mathlib.Omega.{arith}
use Rattle.rules.specs.Value.{ceil_div, penny, dearest}
use Rattle.value.specs.Scales.{price_scale, load_scale, capacity_scale, tlm_scale, rqm_scale, lined}
use Rattle.value.specs.Ranges.{InRange}
use Rattle.value.specs.Laws.{at_most_lem}
use Rattle.value.proofs.Valuation.of.Goals as goal

module _ (price reference energy share : ℕ) {margin product by_price by_load by_capacity by_tlm : ℕ} (m : margin ≡ price - reference)
    (p : product ≡ margin * energy * share) (first : by_price ≡ ceil_div product price_scale) (second : by_load ≡ ceil_div by_price load_scale)
    (third : by_capacity ≡ ceil_div by_load capacity_scale) (fourth : by_tlm ≡ ceil_div by_capacity tlm_scale) where
  product_is : product ≡ (price - reference) * energy * share
  product_is = p ∙ ap (λ (x : ℕ). x * energy * share) m

  -- the last line, below the number of the fourth
  once : {rqm : ℕ} → rqm ≡ ceil_div by_tlm rqm_scale → rqm ≡ ceil_div ((price - reference) * energy * share) penny
  once r = rw (← product_is) (lined _ first second third fourth r)

  small : InRange price reference energy share → ceil_div by_tlm rqm_scale ≤ dearest
  small h = rw (once refl) (at_most_lem _ _ _ _ h)

pub number-by_tlm-requires : goal.number-by_tlm-requires
number-by_tlm-requires c =
    let few = small c.args.price c.args.reference c.args.energy c.args.share c.margin-margin.ensures c.product-product.ensures.is c.over-by_price.ensures.is c.over-by_load.ensures.is c.over-by_capacity.ensures.is
    c.over.ensures.is c.requires in
    omega (arith, few)

pub over-by_rqm-requires : goal.over-by_rqm-requires
over-by_rqm-requires c =
    let few = small c.args.price c.args.reference c.args.energy c.args.share c.margin-margin.ensures c.product-product.ensures.is c.over-by_price.ensures.is c.over-by_load.ensures.is c.over-by_capacity.ensures.is
    c.over.ensures.is c.requires in
    (omega arith, omega arith, omega (arith, few, c.number-by_tlm.ensures))

pub returns : goal.returns
returns c =
    let number = c.number-by_tlm.ensures in
    let value = once c.args.price c.args.reference c.args.energy c.args.share c.margin-margin.ensures c.product-product.ensures.is c.over-by_price.ensures.is c.over-by_load.ensures.is
    c.over-by_capacity.ensures.is c.over.ensures.is (c.over-by_rqm.ensures ∙ ap (λ (x : ℕ). ceil_div x rqm_scale) number) in record {
      margin_is = c.margin-margin.ensures;
      product_is = product_is c.args.price c.args.reference c.args.energy c.args.share c.margin-margin.ensures c.product-product.ensures.is c.over-by_price.ensures.is c.over-by_load.ensures.is
          c.over-by_capacity.ensures.is c.over.ensures.is;
      price_line = c.over-by_price.ensures.is;
      load_line = c.over-by_load.ensures.is;
      capacity_line = c.over-by_capacity.ensures.is;
      tlm_line = number ∙ c.over.ensures.is;
      rqm_line = c.over-by_rqm.ensures;
      once = value;
      small = rw value (at_most_lem _ _ _ _ c.requires);
    }
