use Rattle.std.proofs.Common.{◌≡◌, length, ◌∙◌, subst, arith}
use Rattle.gf256.specs.Rows.{IsAdded}
use Rattle.server_product.specs.Trios.{trio_at}
use Rattle.gf256.proofs.Added.{added-on, added-place}
use Rattle.server_product.proofs.TrioSums.{trio-place}
use Rattle.server_product.proofs.trios.add_places.Goals as goal

pub add_in_lanes-wide-requires : goal.add_in_lanes-wide-requires
add_in_lanes-wide-requires c =
    let needs = c.requires in
    record {
      a = needs.a;
      b = needs.b;
      c = needs.c;
      factor = needs.factor;
      some = omega arith;
      order = needs.order;
      within = needs.within;
    }

pub add_in_lanes-at-requires : goal.add_in_lanes-at-requires
add_in_lanes-at-requires c =
    let needs = c.requires in
    let same : length c.args.acc.now ≡ length c.add_in_lanes-wide.new.acc = omega arith in
    record {
      a = needs.a ∙ same;
      b = needs.b ∙ same;
      c = needs.c ∙ same;
      factor = needs.factor;
      some = omega arith;
      order = omega arith;
      within = omega arith;
    }

pub loop-i-init : goal.loop-i-init
loop-i-init c =
    let wide = c.add_in_lanes-wide in
    let at = c.add_in_lanes-at in
    added-on at.new.acc wide.new.acc c.args.acc.now (trio_at c.args.trio) c.args.from wide.result at.result
    wide.ensures.order at.ensures.order wide.ensures.added at.ensures.added

pub bounds-trio-i : goal.bounds-trio-i
bounds-trio-i c = omega arith

pub bounds-trio-i-in-loop-i : goal.bounds-trio-i-in-loop-i
bounds-trio-i-in-loop-i c = omega arith

pub bounds-trio-i-in-loop-i-2 : goal.bounds-trio-i-in-loop-i-2
bounds-trio-i-in-loop-i-2 c = omega arith

pub bounds-acc-i : goal.bounds-acc-i
bounds-acc-i c = omega arith

pub bounds-acc-i-in-loop-i : goal.bounds-acc-i-in-loop-i
bounds-acc-i-in-loop-i c = omega arith

pub loop-i-preserved : goal.loop-i-preserved
loop-i-preserved c =
    let trio = c.args.trio in
    added-place c.loop-i.acc c.args.acc.now (trio_at trio) c.args.from c.loop-i.i _
    (omega (arith, c.add_in_lanes-wide.ensures.order, c.add_in_lanes-at.ensures.order)) (omega arith)
    (trio-place trio c.loop-i.i _ c.mul.ensures)
    c.loop-i.invariant

pub returns : goal.returns
returns c =
    let trio = c.args.trio in
    let end : c.loop-i.i ≡ c.args.to = omega (arith, c.add_in_lanes-at.ensures.within) in
    subst (IsAdded c.loop-i.acc c.args.acc.now (trio_at trio) c.args.from) end c.loop-i.invariant
