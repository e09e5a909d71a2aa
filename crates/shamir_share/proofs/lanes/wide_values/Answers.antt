use Rattle.std.proofs.Common.{◌≡◌, ◌*◌, ◌+◌, ◌-◌, ◌<◌, ℕ, subst, sym, ◌∙◌, inl, inr, refl, arith, one-mul}
use Rattle.std.proofs.lemmas.Simd.{get_or-replicate, length-replicate}
use Rattle.gf256.specs.Rows.{AreLanes}
use Rattle.shamir_share.specs.Lanes.{sorted_place, value_from}
use Rattle.gf256.proofs.FlatRows.{row_within}
use Rattle.shamir_share.proofs.Rows.{length-row_coins}
use Rattle.shamir_share.proofs.LaneParts.{lanes-are, by_sixteens, nothing_left, values_more}
use Rattle.shamir_share.proofs.lanes.wide_values.Goals as goal

pub parts-init : goal.parts-init
parts-init g c =
    let n = g.row.N in
    let rows = c.args.rows.now in
    let t = c.args.t in
    let a = c.args.products.now in
    let end = 16 * c.div_ceil-part.result in
    record {
      few = omega arith;
      values = lanes-are n _ (value_from rows t end a) (length-replicate n 0) (λ k l.
          let fit = row_within k n t l in
          let long = length-row_coins rows t k (omega (arith, fit, c.requires.whole)) in
          get_or-replicate n k 0 0 l ∙ sym (nothing_left rows t end a k (omega (arith, long, c.div_ceil-part.ensures))));
    }

pub places_of-requires-clause-width : goal.places_of-requires-clause-width
places_of-requires-clause-width g c = inr (inr (inr refl))

pub sixteens-requires : goal.sixteens-requires
sixteens-requires g c =
    let n = g.row.N in
    let t = c.args.t in
    let from = 16 * (c.parts.part - 1) in
    let few = c.parts.invariant.few in
    let inside : from < t = omega (arith, few, c.parts-test.true) in (
      omega (arith, g.N.fits),
      (
        record {
          lanes = c.requires.lanes;
          fills = inr (inr (inr refl));
          shape = inl refl;
          inside = inside;
          steps = sym (one-mul t);
          sorted = subst (λ (n : ℕ). AreLanes 16 c.places_of.result (sorted_place 16 n) 0) c.min.ensures c.places_of.ensures;
          whole = c.requires.whole;
          room = omega (arith, few, c.parts-test.true, c.requires.room, by_sixteens n t 1 c.requires.lanes (omega arith));
        },
        omega arith,
      ),
    )

pub parts-preserved : goal.parts-preserved
parts-preserved g c =
    let next : 16 * c.parts.part ≡ 16 * (c.parts.part - 1) + 16 = omega arith in
    record {
      few = omega (arith, c.parts.invariant.few);
      values = values_more g.row.N c.args.rows.now c.parts.values c.times.result c.sixteens.result _ c.args.t (16 * (c.parts.part - 1)) (16 * c.parts.part) c.args.products.now _ next
          c.sixteenth.ensures c.parts.invariant.values c.times.ensures c.sixteens.ensures refl;
    }

pub returns : goal.returns
returns g c =
    let none : 16 * c.parts.part ≡ 0 = omega arith in
    subst (λ (n : ℕ). AreLanes g.row.N c.parts.values (value_from c.args.rows.now c.args.t n c.args.products.now) 0) none c.parts.invariant.values
