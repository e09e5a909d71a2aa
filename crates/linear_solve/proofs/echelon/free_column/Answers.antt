use Rattle.std.proofs.Common.{◌≡◌, ◌≢◌, ℕ, ◌<◌, length, get_or, MatchOption, sum, ap, sym, subst, ◌∙◌, arith, below_more, length-set}
use Rattle.std.specs.Option.{IsSome}
use Rattle.linear_solve.specs.Kernel.{component}
use Rattle.linear_solve.proofs.FirstNonzero.{first_nonzero-is, first_nonzero-some, get_or-cleared, get_or-cleared-le, sum-cleared}
use Rattle.linear_solve.proofs.Pivots.{column-is, length-columns_of}
use Rattle.linear_solve.proofs.echelon.free_column.Goals as goal

pub index_mut-requires : goal.index_mut-requires
index_mut-requires c =
    let t = c.loop-pivot.pivot-index in
    let same = column-is c.args.pivots.now t c.pivot-item.result c.loop-pivot-test.true c.pivot-item.is in
    let inside = c.requires.inside t c.loop-pivot-test.true in
    omega (arith, same, inside, c.loop-pivot.invariant.long)

pub loop-pivot-preserved : goal.loop-pivot-preserved
loop-pivot-preserved c =
    let t = c.loop-pivot.pivot-index in
    let xs = c.loop-pivot.is_free.items in
    let k = c.pivot-item.result.column in
    let I = c.loop-pivot.invariant in
    let same = column-is c.args.pivots.now t c.pivot-item.result c.loop-pivot-test.true c.pivot-item.is in
    let l : k < length xs = let inside = c.requires.inside t c.loop-pivot-test.true in omega (arith, same, inside, I.long) in
    record {
      long = length-set xs k 0 ∙ I.long;
      many = omega (arith, I.many, sum-cleared xs k l (I.small k));
      small = λ j. get_or-cleared-le xs k j l (I.small j);
      cleared = below_more _ _
          (λ s m. get_or-cleared xs k _ l (λ d. I.cleared s m))
          (get_or-cleared xs k _ l (λ d. absurd (d (sym same))));
    }

pub unwrap-requires : goal.unwrap-requires
unwrap-requires c =
    let many = c.loop-pivot.invariant.many in
    let e = c.deref.ensures.value in
    let some = first_nonzero-some c.deref.result.now (λ z. omega (arith, ap sum (sym e) ∙ z, many, c.requires.fewer)) in
    subst IsSome (sym c.first_nonzero.ensures) some

pub returns : goal.returns
unfolding component
returns c =
    let ps = c.args.pivots.now in
    let xs = c.deref.result.now in
    let k = c.unwrap.result in
    let found = subst (λ o. MatchOption o ((j : ℕ) → component xs j ≡ 0) (λ j. (j < length xs) × (component xs j ≢ 0))) (sym c.first_nonzero.ensures ∙ c.unwrap.ensures) (first_nonzero-is xs) in
    record {
      inside = omega (arith, found.0, ap length c.deref.ensures.value, c.loop-pivot.invariant.long);
      apart = λ t l e. found.1 (ap (λ ys. get_or ys k 0) c.deref.ensures.value ∙ ap (λ j. get_or c.loop-pivot.is_free.items j 0) (sym e)
          ∙ c.loop-pivot.invariant.cleared t (omega (arith, l, length-columns_of ps)));
    }
