use Rattle.std.proofs.Common.{◌≡◌, ℕ, List, [], ◌∷◌, ◌++◌, length, map, get_or, drop, take, refl, sym, ap, subst, ◌∙◌, arith, Vec, Global, length-drop, length-append, below_more}
use Rattle.std.proofs.lemmas.List.{length-map, map-append, get_or_append_left, drop-drop}
use Rattle.std.proofs.Math.Seq.{get_or-append_seam}
use Rattle.bi_poly.specs.Rows.{row}
use Rattle.gs_interpolate.specs.Layout.{start}
use Rattle.gs_interpolate.proofs.Layouts.{start-next, start-within}
use Rattle.gs_interpolate.proofs.layout.cut.Goals as goal

pub loop-length-init : goal.loop-length-init
loop-length-init c = record { rest = refl; size = ap length c.new-rows.ensures.items; made = λ k l. absurd (omega arith) }

pub split_at-requires : goal.split_at-requires
split_at-requires c =
    let ns = c.args.lengths.now in
    let j = c.loop-length.length-index in
    let inside = start-within ns j c.loop-length-test.true in
    omega (arith, inside, ap length c.loop-length.invariant.rest, length-drop (start ns j) c.args.vector.now, c.requires)

pub loop-length-preserved : goal.loop-length-preserved
loop-length-preserved c =
    let f : Vec ℕ Global → List ℕ = λ r. r.items in
    let ns = c.args.lengths.now in
    let v = c.args.vector.now in
    let j = c.loop-length.length-index in
    let n = get_or ns j 0 in
    let old = map f c.loop-length.rows.items in
    let new = map f c.push.new.self.items in
    let part = c.in_ok-from_slice.field-0.items in
    let size : length old ≡ j = length-map c.loop-length.rows.items f ∙ c.loop-length.invariant.size in
    let items : new ≡ old ++ part ∷ [] = ap (map f) c.in_ok-push.ensures.items ∙ map-append f c.loop-length.rows.items (c.in_ok-from_slice.field-0 ∷ []) in
    let here : row new j ≡ part = ap (λ q. row q j) items ∙ subst (λ k. row (old ++ part ∷ []) k ≡ part) size (get_or-append_seam old part [] []) in
    let is : part ≡ take n (drop (start ns j) v) =
    c.in_ok-from_slice.ensures.items ∙ c.split_at.ensures.front ∙ ap (take n) c.loop-length.invariant.rest in
    record {
      rest =
          c.split_at.ensures.back ∙ ap (drop n) c.loop-length.invariant.rest ∙ drop-drop n (start ns j) v
          ∙ ap (λ k. drop k v) (sym (start-next ns j c.loop-length-test.true));
      size = omega (arith, length-map c.push.new.self.items f, ap length items, size, length-append old (part ∷ []));
      made =
          below_more (λ k. row new k ≡ take (get_or ns k 0) (drop (start ns k) v)) j
          (λ k l. ap (λ q. row q k) items ∙ get_or_append_left old (part ∷ []) [] k (omega (arith, l, size)) ∙ c.loop-length.invariant.made k l)
          (here ∙ is);
    }

pub returns : goal.returns
returns c =
    let f : Vec ℕ Global → List ℕ = λ r. r.items in
    let all : c.loop-length.length-index ≡ length c.args.lengths.now = omega arith in
    record {
      rows = length-map c.loop-length.rows.items f ∙ c.loop-length.invariant.size ∙ all;
      each = λ j l. c.loop-length.invariant.made j (omega (arith, l, all));
    }
