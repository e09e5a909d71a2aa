use Rattle.std.proofs.Common.{◌≡◌, ◌+◌, ◌-◌, ◌<◌, ◌≤◌, length, get_or, drop, sym, ap, ap₂, subst, ◌∙◌, arith, le_refl, zero-add, length-drop}
use Rattle.std.proofs.Math.Nat.{mod-eq-sub-mod, mod-eq_of_lt}
use Rattle.std.specs.Simd.Lanes.{chunk, put_chunk}
use Rattle.std.proofs.lemmas.List.{drop-drop, get_or-drop, get_or-replicate, length-replicate}
use Rattle.std.proofs.lemmas.Simd.{length-put_chunk, get_or-put_chunk_at}
use Rattle.gf256.specs.Field.{◌⊕◌, ◌⊗◌}
use Rattle.gf256.specs.Rows.{AreLanes}
use Rattle.gf256.proofs.LaneSums.{lanes-of, lanes-sum, lanes-times}
use Rattle.gs_interpolate.specs.Expansion.{folded}
use Rattle.gs_interpolate.proofs.Expansions.{folded-none, folded-next}
use Rattle.gs_interpolate.proofs.expansion.fold_held.Goals as goal

pub pieces-init : goal.pieces-init
pieces-init g c =
    let row = c.args.row.now in
    record {
      within = le_refl (length row);
      whole = c.requires.whole;
      size = length-replicate g.row.N 0;
      folded = λ k l.
          get_or-replicate g.row.N k 0 0 l
          ∙ sym (folded-none g.row.N c.args.products.now k (drop (length row) row) (omega (arith, length-drop (length row) row)));
    }

pub pieces-preserved : goal.pieces-preserved
pieces-preserved g c =
    let n = g.row.N in
    let row = c.args.row.now in
    let p = c.args.products.now in
    let old = c.pieces.invariant in
    let here : n ≤ c.pieces.at = c.pieces-test.true in
    let at = c.pieces.at - n in
    let up : at + n ≡ c.pieces.at = omega (arith, here) in
    let rest = drop at row in
    let behind : drop n rest ≡ drop c.pieces.at row = drop-drop n at row ∙ ap (λ k. drop k row) up in
    let own : AreLanes n c.pieces.sum (λ k. folded n p (drop c.pieces.at row) (k - at)) at = record {
      size = old.size;
      each = λ k l. old.folded k l ∙ ap (folded n p (drop c.pieces.at row)) (let e : k ≡ at + k - at = omega arith in e);
    } in
    let lanes = lanes-sum (chunk at n row) c.times-more.result _ _ at (lanes-of n row at (omega (arith, up, old.within)))
    (lanes-times c.pieces.sum c.times-more.result _ c.copied-held.result at c.times-more.ensures own) in
    record {
      within = omega (arith, old.within);
      whole = sym (mod-eq-sub-mod here) ∙ old.whole;
      size = lanes.size;
      folded = λ k l.
          lanes.each k l
          ∙ ap₂ ◌⊕◌ (sym (get_or-drop at row k 0))
          (ap₂ ◌⊗◌ c.copied-held.ensures (ap₂ (folded n p) (sym behind) (let e : at + k - at ≡ k = omega arith in e)))
          ∙ sym (folded-next n p k rest c.requires.some (λ j. subst (λ x. x < 256) (sym (get_or-drop at row j 0)) (c.type_inv.row (at + j)).fits));
    }

pub returns : goal.returns
returns g c = λ k l.
    let n = g.row.N in
    let row = c.args.row.now in
    let sums = c.args.sums.now in
    let sum = c.pieces.sum in
    let old = c.pieces.invariant in
    let size : length sums ≡ n = c.requires.size in
    let all : length (put_chunk 0 sums sum) ≡ n = length-put_chunk 0 sums sum ∙ size in
    let h : k < n = omega (arith, l, all) in
    let none : c.pieces.at ≡ 0 = sym (mod-eq_of_lt (let less : c.pieces.at < n = omega (arith, c.pieces-test.false) in less)) ∙ old.whole in
    ap (λ j. get_or (put_chunk 0 sums sum) j 0) (sym (zero-add k))
    ∙ get_or-put_chunk_at 0 sums sum k 0 (omega (arith, h, old.size)) (omega (arith, h, size)) ∙ old.folded k h
    ∙ ap₂ (λ n at. folded n c.args.products.now (drop at row) k) (sym all) none
