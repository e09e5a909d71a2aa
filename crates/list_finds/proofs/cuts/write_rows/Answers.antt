use Rattle.std.proofs.Common.{◌<◌, take, All, refl, sym, subst, arith, rules}
use Rattle.std.proofs.lemmas.Grind.{common_steps}
use Rattle.std.proofs.lemmas.List.{take_all, take_more_set}
use Rattle.std.proofs.lemmas.List.Elements.{All-nil, All-push}
use Rattle.list_finds.proofs.cuts.write_rows.Goals as goal

pub loop-place-init : goal.loop-place-init
loop-place-init c = record { size = c.requires.room; done = refl; within = λ some. All-nil (λ row. row < c.args.rows) }

pub loop-place-preserved : goal.loop-place-preserved
loop-place-preserved c =
    let n = c.loop-place.place in
    let out = c.loop-place.out in
    let row = c.row_of_key.result in
    record {
      size = first_of (search rules, grind (arith, common_steps));
      done = first_of (search rules, grind (arith, common_steps));
      within = λ some.
          subst (All (λ r. r < c.args.rows)) (sym (take_more_set out n row (omega arith)))
          (All-push (λ r. r < c.args.rows) (take n out) row (c.loop-place.invariant.within some) (c.row_of_key.ensures.within some));
    }

pub returns-clause-within : goal.returns-clause-within
returns-clause-within c = λ some.
    let out = c.loop-place.out in
    let n = c.loop-place.place in
    subst (All (λ r. r < c.args.rows)) (take_all n out (omega arith)) (c.loop-place.invariant.within some)
