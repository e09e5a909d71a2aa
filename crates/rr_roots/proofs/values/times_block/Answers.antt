use Rattle.std.proofs.Common.{◌≡◌, ℕ, ◌+◌, ◌-◌, ◌*◌, ◌^◌, ◌<◌, ◌≤◌, length, get_or, bit_xor, inl, inr, sym, ap, ap₂, subst, ◌∙◌, arith}
use Rattle.std.specs.Simd.Lanes.{zip2, chunk, put_chunk}
use Rattle.std.proofs.lemmas.Bool.{cases_lt}
use Rattle.std.proofs.lemmas.Simd.{get_or-chunk, length-put_chunk, get_or-put_chunk_at, get_or-put_chunk_below, get_or-put_chunk_above}
use Rattle.gf256.specs.Field.{◌⊕◌, ◌⊗◌}
use Rattle.gf256.specs.Rows.{AreLanes}
use Rattle.gf256.proofs.Xor.{add_parts}
use Rattle.gf256.proofs.FieldLaws.{add_mul}
use Rattle.gf256.proofs.LaneSums.{lanes-of, lanes-sum, lanes-times}
use Rattle.rr_roots.proofs.Places.{lane-first}
use Rattle.rr_roots.proofs.values.times_block.Goals as goal

-- the products with the first place and with those behind it are those with the place
places_of : (block k at y : ℕ) → at ≡ block * 16 → at ≤ k → k < at + 16 → at ⊗ y ⊕ (k - at) ⊗ y ≡ k ⊗ y
places_of block k at y is from to =
    let power : at ≡ block * 2 ^ 4 = omega (arith, is) in
    sym (add_mul at (k - at) y)
    ∙ ap (λ p. p ⊗ y) (ap (λ a. a ⊕ (k - at)) power ∙ add_parts block (k - at) 4 (omega (arith, from, to)) ∙ omega (arith, power, from))

pub returns : goal.returns
returns c = λ before old.
    let row = c.args.row.now in
    let at = c.args.block * 16 in
    let room : at + 16 ≤ length row = omega (arith, c.requires.size, c.requires.inside) in
    let own = lanes-of 16 row at room in
    let first = subst (λ f. AreLanes 16 c.times.result (λ k. f ⊗ get_or row k 0) at) c.of.ensures
    (lanes-times (chunk at 16 row) c.times.result (λ k. get_or row k 0) c.of.result at c.times.ensures own) in
    let small = c.times_first_places.ensures in
    let rest : AreLanes 16 c.times_first_places.result (λ k. (k - at) ⊗ get_or row k 0) at = record {
      size = small.size;
      each = λ j l.
          let back : j ≡ at + j - at = omega arith in
          lane-first j small l ∙ ap₂ ◌⊗◌ back (get_or-chunk at 16 row j 0 l);
    } in
    let sum = zip2 bit_xor c.times.result c.times_first_places.result in
    let lanes = lanes-sum c.times.result c.times_first_places.result _ _ at first rest in
    record {
      size = length-put_chunk at row sum ∙ old.size;
      done = λ k within.
          let l : k < at + 16 = omega (arith, within) in
          elim (cases_lt k at) [
            | inl low ↦ get_or-put_chunk_below at row sum k 0 low ∙ old.done k low
            | inr high ↦
                let place : at + (k - at) ≡ k = omega (arith, high) in
                let here : get_or (put_chunk at row sum) (at + (k - at)) 0 ≡ at ⊗ get_or row (at + (k - at)) 0 ⊕ (at + (k - at) - at) ⊗ get_or row (at + (k - at)) 0
                = get_or-put_chunk_at at row sum (k - at) 0 (omega (arith, l, high, lanes.size)) (omega (arith, l, high, room)) ∙ lanes.each (k - at) (omega (arith, l, high)) in
                subst (λ p. get_or (put_chunk at row sum) p 0 ≡ at ⊗ get_or row p 0 ⊕ (p - at) ⊗ get_or row p 0) place here
                ∙ places_of c.args.block k at (get_or row k 0) (omega arith) high l
                ∙ ap (λ y. k ⊗ y) (old.rest k high)
          ];
      rest = λ k past.
          let l : at + 16 ≤ k = omega (arith, past) in
          get_or-put_chunk_above at row sum k 0 (omega (arith, l, lanes.size)) ∙ old.rest k (omega (arith, l));
    }
