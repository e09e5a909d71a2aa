use Rattle.std.proofs.Common.{◌≡◌, ◌∙◌, sym, ap, ap₂, subst, arith, slice_index, slice_index_or}
use Rattle.gf256.specs.Field.{◌⊕◌}
use Rattle.gf256.proofs.Xor.{add_zero, add_assoc}
use Rattle.gf256.specs.Sums.{run_sum}
use Rattle.server_product.specs.Runs.{term}
use Rattle.server_product.specs.Gathered.{held_sum, waiting_sum, FewAreOf}
use Rattle.server_product.specs.declared.gather.UpToThree.TheVariants.{Empty}
use Rattle.gf256.proofs.RunSums.{run-none, run-next}
use Rattle.server_product.proofs.Gathering.{waiting-none, none-are}
use Rattle.server_product.proofs.gather.add_in_trios.Goals as goal

pub loop-j-init : goal.loop-j-init
unfolding held_sum
loop-j-init c = record {
  held = record {};
  waiting = λ f l. subst (λ w. FewAreOf c.args.q.now f (slice_index_or w f Empty)) (sym c.none_waiting-waiting.ensures) (none-are c.args.q.now f 256);
  sum = λ k.
      let q = c.args.q.now in
      let rows = c.args.matrix.now.rows in
      let old = slice_index c.args.sums.now k in
      ap₂ (λ s w. s ⊕ w) (add_zero old) (ap (waiting_sum q rows k) c.none_waiting-waiting.ensures ∙ waiting-none q rows k 256)
      ∙ ap (◌⊕◌ old) (sym (run-none (term q rows k) c.args.from));
}

pub loop-j-preserved : goal.loop-j-preserved
loop-j-preserved c =
    let q = c.args.q.now in
    let rows = c.args.matrix.now.rows in
    let j = c.loop-j.j in
    record {
      held = c.gather-held.ensures.held;
      waiting = c.gather-held.ensures.waiting;
      sum = λ k.
          let old = slice_index c.args.sums.now k in
          c.gather-held.ensures.sum k
          ∙ ap (λ s. s ⊕ term q rows k j) (c.loop-j.invariant.sum k)
          ∙ add_assoc old (run_sum (term q rows k) c.args.from j) (term q rows k j)
          ∙ ap (◌⊕◌ old) (sym (run-next (term q rows k) c.args.from j (omega arith)));
    }

pub returns : goal.returns
returns c = λ k.
    let end : c.loop-j.j ≡ c.args.to = omega arith in
    c.add_waiting.ensures k ∙ c.loop-j.invariant.sum k
    ∙ ap (λ j. slice_index c.args.sums.now k ⊕ run_sum (term c.args.q.now c.args.matrix.now.rows k) c.args.from j) end
