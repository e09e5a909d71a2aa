use Rattle.std.proofs.Common.{◌≡◌, ◌+◌, ◌-◌, ◌≤◌, length, get_or, bit_xor, inl, inr, ap, subst, ◌∙◌, arith}
use Rattle.std.proofs.lemmas.Bool.{cases_lt}
use Rattle.std.specs.Simd.Lanes.{zip2, chunk, put_chunk}
use Rattle.std.proofs.lemmas.Simd.{length-put_chunk, get_or-put_chunk_at, get_or-put_chunk_below, get_or-put_chunk_above}
use Rattle.gf256.specs.Field.{◌⊕◌, ◌⊗◌}
use Rattle.gf256.proofs.LaneSums.{lanes-of, lanes-sum, lanes-times}
use Rattle.gs_interpolate.proofs.expansion.raise_lanes.Goals as goal

pub returns : goal.returns
returns g c = λ before old.
    let n = g.row.N in
    let at = c.args.at in
    let sums = c.args.sums.now in
    let row = c.args.row.now in
    let f = c.args.products.now in
    let room : at + n ≤ length sums = c.requires.within in
    let lanes = lanes-sum (chunk at n row) c.times-more.result _ _ at (lanes-of n row at (omega (arith, room, c.requires.same)))
    (lanes-times (chunk at n sums) c.times-more.result _ f at c.times-more.ensures (lanes-of n sums at room)) in
    let sum = zip2 bit_xor (chunk at n row) c.times-more.result in
    record {
      size = length-put_chunk at sums sum ∙ old.size;
      done = λ k l. elim (cases_lt k at) [
        | inl low ↦ get_or-put_chunk_below at sums sum k 0 low ∙ old.done k low
        | inr high ↦
            let place : at + (k - at) ≡ k = omega (arith, high) in
            subst (λ p. get_or (put_chunk at sums sum) p 0 ≡ get_or row p 0 ⊕ f ⊗ get_or before p 0) place
            (get_or-put_chunk_at at sums sum (k - at) 0 (omega (arith, l, high, lanes.size)) (omega (arith, l, high, room))
            ∙ lanes.each (k - at) (omega (arith, l, high)) ∙ ap (λ x. get_or row (at + (k - at)) 0 ⊕ f ⊗ x) (old.rest (at + (k - at)) (omega arith)))
      ];
      rest = λ k l. get_or-put_chunk_above at sums sum k 0 (omega (arith, l, lanes.size)) ∙ old.rest k (omega (arith, l));
    }
