use Rattle.std.proofs.Common.{◌≡◌, ◌+◌, ◌-◌, length, ◌∙◌, subst, arith}
use Rattle.gf256.specs.declared.vectors.TheConstants.{LANES}
use Rattle.server_product.specs.Trios.{trio_at}
use Rattle.server_product.proofs.TrioSums.{trio-past, IsLagged, lagged-start, lagged-first, lagged-second, lagged-all}
use Rattle.server_product.proofs.trios.add_two_trios.Goals as goal

pub lanes-init : goal.lanes-init
lanes-init c =
    let g = trio_at c.args.first in
    let h = trio_at c.args.second in
    let lag = c.min-lag.result in
    let none : 0 ≡ lag - lag = omega arith in
    record {
      begun = omega arith;
      within = omega arith;
      lagged = subst (IsLagged c.add_places.new.acc c.args.acc.now g h lag) none (lagged-start c.add_places.new.acc c.args.acc.now g h lag c.add_places.ensures);
    }

pub lanes-preserved : goal.lanes-preserved
lanes-preserved c =
    let g = trio_at c.args.first in
    let h = trio_at c.args.second in
    let at = c.lanes.at in
    let lag = c.min-lag.result in
    let next : at - lag + LANES ≡ at + LANES - lag = omega (arith, c.lanes.invariant.begun) in
    let ahead = lagged-first c.add_lanes.new.acc c.lanes.acc c.args.acc.now g h at (at - lag) (at + LANES) (omega arith) (omega arith) c.add_lanes.ensures c.lanes.invariant.lagged in
    record {
      begun = omega (arith, c.lanes.invariant.begun);
      within = omega (arith, c.lanes.invariant.within);
      lagged =
          subst (IsLagged c.add_lanes-in-lanes.new.acc c.args.acc.now g h (at + LANES)) next
          (lagged-second c.add_lanes-in-lanes.new.acc c.add_lanes.new.acc c.args.acc.now g h (at + LANES) (at - lag) (at - lag + LANES) (omega arith) (omega arith) c.add_lanes-in-lanes.ensures ahead);
    }

pub returns : goal.returns
returns c = λ k.
    let g = trio_at c.args.first in
    let h = trio_at c.args.second in
    let old = c.args.acc.now in
    let n = length old in
    let at = c.lanes.at in
    let lag = c.min-lag.result in
    let ahead = lagged-first c.add_places-2.new.acc c.lanes.acc old g h at (at - lag) n (omega arith) (omega (arith, c.lanes.invariant.within)) c.add_places-2.ensures c.lanes.invariant.lagged in
    lagged-all c.add_places-3.new.acc old g h n
    (trio-past c.args.first n c.requires.first_a c.requires.first_b c.requires.first_c)
    (trio-past c.args.second n c.requires.second_a c.requires.second_b c.requires.second_c)
    (lagged-second c.add_places-3.new.acc c.add_places-2.new.acc old g h n (at - lag) n (omega (arith, c.lanes.invariant.within)) (omega arith) c.add_places-3.ensures ahead) k

pub add_places-requires : goal.add_places-requires
add_places-requires c =
    let needs = c.requires in
    record {
      a = needs.first_a;
      b = needs.first_b;
      c = needs.first_c;
      factor = c.of-by_first.ensures;
      order = omega arith;
      within = omega arith;
    }

pub overflow_sub-len : goal.overflow_sub-len
overflow_sub-len c = omega arith

pub add_lanes-requires : goal.add_lanes-requires
add_lanes-requires c =
    let needs = c.requires in
    let same : length c.args.acc.now ≡ length c.lanes.acc = omega arith in
    record {
      a = needs.first_a ∙ same;
      b = needs.first_b ∙ same;
      c = needs.first_c ∙ same;
      factor = c.of-by_first.ensures;
      within = omega arith;
    }

pub overflow_sub-at : goal.overflow_sub-at
overflow_sub-at c = omega arith

pub add_lanes-requires-in-lanes : goal.add_lanes-requires-in-lanes
add_lanes-requires-in-lanes c =
    let needs = c.requires in
    let same : length c.args.acc.now ≡ length c.add_lanes.new.acc = omega arith in
    record {
      a = needs.second_a ∙ same;
      b = needs.second_b ∙ same;
      c = needs.second_c ∙ same;
      factor = c.of-by_second.ensures;
      within = omega arith;
    }

pub overflow_add-at : goal.overflow_add-at
overflow_add-at c = omega arith

pub lanes-smaller : goal.lanes-smaller
lanes-smaller c = omega arith

pub add_places-requires-2 : goal.add_places-requires-2
add_places-requires-2 c =
    let needs = c.requires in
    let same : length c.args.acc.now ≡ length c.lanes.acc = omega arith in
    record {
      a = needs.first_a ∙ same;
      b = needs.first_b ∙ same;
      c = needs.first_c ∙ same;
      factor = c.of-by_first.ensures;
      order = omega arith;
      within = omega arith;
    }

pub overflow_sub-at-2 : goal.overflow_sub-at-2
overflow_sub-at-2 c = omega arith

pub add_places-requires-3 : goal.add_places-requires-3
add_places-requires-3 c =
    let needs = c.requires in
    let same : length c.args.acc.now ≡ length c.add_places-2.new.acc = omega arith in
    record {
      a = needs.second_a ∙ same;
      b = needs.second_b ∙ same;
      c = needs.second_c ∙ same;
      factor = c.of-by_second.ensures;
      order = omega arith;
      within = omega arith;
    }
