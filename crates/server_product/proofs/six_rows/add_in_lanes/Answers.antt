use Rattle.std.proofs.Common.{◌≡◌, length, ◌∙◌, arith}
use Rattle.server_product.specs.SixRows.{six_at}
use Rattle.gf256.proofs.Added.{added-none, added-on}
use Rattle.server_product.proofs.six_rows.add_in_lanes.Goals as goal

pub lanes-init : goal.lanes-init
lanes-init c = record {
  within = omega arith;
  summed = added-none c.args.acc.now (six_at c.args.six) 0;
}

pub add_lanes-requires : goal.add_lanes-requires
add_lanes-requires c =
    let needs = c.requires in
    let same : length c.args.acc.now ≡ length c.lanes.acc = omega arith in
    record {
      products = needs.products;
      a = needs.a ∙ same;
      b = needs.b ∙ same;
      c = needs.c ∙ same;
      d = needs.d ∙ same;
      e = needs.e ∙ same;
      f = needs.f ∙ same;
      within = omega arith;
    }

pub lanes-preserved : goal.lanes-preserved
lanes-preserved c = record {
  within = omega arith;
  summed =
      added-on c.add_lanes.new.acc c.lanes.acc c.args.acc.now (six_at c.args.six) 0 c.lanes.at _ (omega arith) (omega arith)
      c.lanes.invariant.summed c.add_lanes.ensures;
}

pub add_lanes-requires-2 : goal.add_lanes-requires-2
add_lanes-requires-2 c =
    let needs = c.requires in
    let same : length c.args.acc.now ≡ length c.lanes.acc = omega arith in
    record {
      products = needs.products;
      a = needs.a ∙ same;
      b = needs.b ∙ same;
      c = needs.c ∙ same;
      d = needs.d ∙ same;
      e = needs.e ∙ same;
      f = needs.f ∙ same;
      within = omega arith;
    }

pub returns-clause-added : goal.returns-clause-added
returns-clause-added c =
    added-on c.add_lanes-2.new.acc c.lanes.acc c.args.acc.now (six_at c.args.six) 0 c.lanes.at _ (omega arith) (omega arith)
    c.lanes.invariant.summed c.add_lanes-2.ensures
