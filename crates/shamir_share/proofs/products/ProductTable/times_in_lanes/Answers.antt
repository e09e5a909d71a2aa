use Rattle.std.proofs.Common.{◌≡◌, ◌∙◌, ◌+◌, ◌++◌, length, map, take, ap, ap₂, sym, arith}
use Rattle.std.proofs.Math.Seq.{take-add}
use Rattle.std.proofs.lemmas.List.{map-append, length-map}
use Rattle.std.proofs.lemmas.Simd.{take_more_put_chunk, length-put_chunk, length-chunk}
use Rattle.std.specs.Simd.Lanes.{chunk}
use Rattle.gf256.specs.Field.{◌⊗◌}
use Rattle.shamir_share.proofs.products.ProductTable.times_in_lanes.Goals as goal

pub lanes-preserved : goal.lanes-preserved
lanes-preserved g c =
    let at = c.lanes.at in
    let n = g.row.N in
    let from = c.args.from.now in
    let f = ◌⊗◌ c.args.self.now in
    let made = c.times_lanes-products.result in
    let is : made ≡ map f (chunk at n from) = c.times_lanes-products.ensures in
    let long : length made ≡ n = ap length is ∙ length-map (chunk at n from) f ∙ length-chunk at n from (omega arith) in
    record {
      within = omega (arith, length-put_chunk at c.lanes.into made);
      done = take_more_put_chunk at c.lanes.into made (at + n) (omega (arith, long)) (omega arith)
          ∙ ap₂ ◌++◌ c.lanes.invariant.done is ∙ sym (map-append f (take at from) (chunk at n from)) ∙ ap (map f) (sym (take-add at n from));
    }
