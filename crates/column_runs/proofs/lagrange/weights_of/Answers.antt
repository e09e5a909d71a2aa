use Rattle.std.proofs.Common.{◌≡◌, ◌+◌, ◌∷◌, [], length, refl, sym, ap, ◌∙◌, arith, length-append}
use Rattle.column_runs.specs.Lagrange.{weight}
use Rattle.column_runs.proofs.Pushed.{each_more}
use Rattle.column_runs.proofs.lagrange.weights_of.Goals as goal

pub loop-place-preserved : goal.loop-place-preserved
loop-place-preserved c =
    let made = c.loop-place.weights.items in
    let x = c.weight.result in
    let size = c.loop-place.invariant.size in
    record {
      size = ap (λ ws. length ws + 1) c.in_ok-push.ensures.items ∙ ap (λ n. n + 1) (length-append made (x ∷ []) ∙ size);
      each = λ i l.
          each_more made c.push.new.self.items (length made) x (λ i. weight c.args.xs.now (i + 1)) refl c.in_ok-push.ensures.items
          (c.weight.ensures ∙ ap (weight c.args.xs.now) (sym size))
          (λ i m. c.loop-place.invariant.each i (omega (arith, m, size))) i (omega (arith, l, size));
    }

pub returns : goal.returns
returns c =
    let size = c.loop-place.invariant.size in
    let end : c.loop-place.place ≡ length c.args.xs.now = omega (arith, c.requires.some) in
    record {
      size = sym end ∙ sym size;
      each = λ i l. c.loop-place.invariant.each i (omega (arith, l, size));
    }
