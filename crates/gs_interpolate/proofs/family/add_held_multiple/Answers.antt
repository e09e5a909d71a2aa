use Rattle.std.proofs.Common.{◌≡◌, ◌+◌, ◌*◌, ◌-◌, ◌≤◌, length, map, bit_xor, sym, ap, subst, ◌∙◌, arith}
use Rattle.std.specs.Simd.Lanes.{zip2, chunk, put_chunk}
use Rattle.std.proofs.lemmas.Simd.{length-put_chunk}
use Rattle.gf256.specs.Field.{◌⊗◌}
use Rattle.bi_poly.specs.Rows.{row}
use Rattle.gf256.specs.Rows.{multiple, IsAdded}
use Rattle.gf256.specs.declared.vectors.TheConstants.{LANES}
use Rattle.gf256.proofs.Added.{added-all}
use Rattle.gf256.proofs.RowSums.{added-next, multiple-past}
use Rattle.gs_interpolate.proofs.Places.{fills-enough, fills-more}
use Rattle.gs_interpolate.proofs.family.add_held_multiple.Goals as goal

pub loop-v-preserved : goal.loop-v-preserved
loop-v-preserved g c =
    let acc = c.loop-v.cell in
    let factors = c.args.factors.now in
    let f = c.args.own in
    let v = c.loop-v.v in
    let products = c.times.result in
    let at = v * LANES in
    let sum = zip2 bit_xor (chunk at LANES acc) products in
    let size = c.loop-v.invariant.size in
    let enough = fills-enough g.row.VECTORS (length c.args.cell.now) c.requires.size in
    let room : at + LANES ≤ length acc = omega (arith, size, enough, c.loop-v-test.true) in
    let next : at + LANES ≡ (v + 1) * LANES = omega arith in
    let factor = c.products-products.ensures in
    let is = c.times.ensures ∙ ap (λ f. map (λ x. f ⊗ x) (row c.args.held.now v)) factor ∙ ap (map (λ x. f ⊗ x)) (c.requires.held v c.loop-v-test.true) in
    record {
      size = length-put_chunk at acc sum ∙ size;
      added = subst (IsAdded (put_chunk at acc sum) c.args.cell.now (multiple factors f) 0) next
          (added-next LANES acc c.args.cell.now factors products f 0 at (omega arith) room (c.requires.same ∙ sym size) is c.loop-v.invariant.added);
    }

pub returns-then-cell : goal.returns-then-cell
returns-then-cell g c =
    let acc = c.loop-v.cell in
    let cell = c.args.cell.now in
    let factors = c.args.factors.now in
    let f = c.args.own in
    let n = g.row.VECTORS in
    let at = n * LANES in
    let products = c.times-then-cell.result in
    let sum = zip2 bit_xor (chunk at 16 acc) products in
    let size = c.loop-v.invariant.size in
    let same = c.requires.same in
    let all : length cell ≡ at + 16 = fills-more n (length cell) c.requires.size (omega (arith, size, c.if-cell.true)) in
    let last : length factors - 16 ≡ at = omega (arith, same, all) in
    let done : c.loop-v.v ≡ n = omega (arith, c.loop-v.auto.v-end, c.loop-v-test.false) in
    let factor = c.products-products.ensures in
    let is = c.times-then-cell.ensures ∙ ap (λ f. map (λ x. f ⊗ x) c.args.last) factor ∙ ap (map (λ x. f ⊗ x)) (c.requires.last ∙ ap (λ k. chunk k 16 factors) last) in
    let added = subst (λ k. IsAdded acc cell (multiple factors f) 0 (k * LANES)) done c.loop-v.invariant.added in
    added-all (put_chunk at acc sum) cell (multiple factors f) (at + 16)
    (λ k l. multiple-past factors f k (omega (arith, l, all, same)))
    (added-next 16 acc cell factors products f 0 at (omega arith) (omega (arith, size, all)) (same ∙ sym size) is added)

pub returns-else-cell : goal.returns-else-cell
returns-else-cell g c =
    let factors = c.args.factors.now in
    let done : c.loop-v.v ≡ g.row.VECTORS = omega (arith, c.loop-v.auto.v-end, c.loop-v-test.false) in
    let size = c.loop-v.invariant.size in
    let same = c.requires.same in
    added-all c.loop-v.cell c.args.cell.now (multiple factors c.args.own) (c.loop-v.v * LANES)
    (λ k l. multiple-past factors c.args.own k (omega (arith, l, done, size, same, c.if-cell.false))) c.loop-v.invariant.added
