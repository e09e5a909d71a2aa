use Rattle.std.proofs.Common.{ℕ, ◌<◌, get_or, refl, sym, ap, subst, ◌∙◌, arith, zero-add, lit<, w8}
use Rattle.std.proofs.lemmas.Simd.{below_from_Fits, Each1-get_or}
use Rattle.gf256.specs.Field.{◌⊗◌}
use Rattle.gf256.specs.Rows.{AreLanes}
use Rattle.gf256.proofs.FieldLaws.{one_mul}
use Rattle.gf256.proofs.LaneSums.{lanes-times}
use Rattle.rr_roots.proofs.Places.{ones, twos, fours, eights, ones_mask, twos_mask, fours_mask, eights_mask, lanes-masked, lanes-places}
use Rattle.rr_roots.proofs.values.times_first_places.Goals as goal

pub returns : goal.returns
returns c =
    let bytes = c.args.bytes in
    let x = λ (k : ℕ). get_or bytes k 0 in
    let size = c.fits-bytes.0 in
    let bytes_are = below_from_Fits w8 bytes c.fits-bytes.1 in
    let own : AreLanes 16 bytes x 0 = record { size = size; each = λ k l. ap x (sym (zero-add k)) } in
    let once : AreLanes 16 bytes (λ k. 1 ⊗ x k) 0 = record {
      size = size;
      each = λ k l.
          sym (one_mul (x k) (Each1-get_or (λ b. b < 256) bytes k 0 (omega (arith, l, size)) bytes_are)) ∙ ap (λ k. 1 ⊗ x k) (sym (zero-add k));
    } in
    lanes-places _ _ _ _ x
    (lanes-masked bytes ones 1 x (lit< tt) ones_mask refl once)
    (lanes-masked c.times.result twos 2 x (lit< tt) twos_mask refl
    (subst (λ f. AreLanes 16 c.times.result (λ k. f ⊗ x k) 0) c.of.ensures (lanes-times bytes c.times.result x c.of.result 0 c.times.ensures own)))
    (lanes-masked c.times-2.result fours 4 x (lit< tt) fours_mask refl
    (subst (λ f. AreLanes 16 c.times-2.result (λ k. f ⊗ x k) 0) c.of-2.ensures (lanes-times bytes c.times-2.result x c.of-2.result 0 c.times-2.ensures own)))
    (lanes-masked c.times-3.result eights 8 x (lit< tt) eights_mask refl
    (subst (λ f. AreLanes 16 c.times-3.result (λ k. f ⊗ x k) 0) c.of-3.ensures (lanes-times bytes c.times-3.result x c.of-3.result 0 c.times-3.ensures own)))
