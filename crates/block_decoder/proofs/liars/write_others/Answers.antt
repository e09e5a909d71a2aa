use Rattle.std.proofs.Common.{◌∙◌, ap, sym, refl, arith}
use Rattle.std.proofs.lemmas.Result.{err_from_is_err_and}
use Rattle.port_trait.specs.Number.{OUTPUT}
use Rattle.port_trait.specs.Moves.{gave}
use Rattle.port_trait.proofs.Cells.{gave-gave, touches_more}
use Rattle.port_trait.proofs.Pieces.{gave_none, written_cut}
use Rattle.block_decoder.specs.Text.{words_of}
use Rattle.block_decoder.proofs.FirstAnswers.{first_of-all, words-none, words-more, words-pieces}
use Rattle.block_decoder.proofs.liars.write_others.Goals as goal

pub loop-place-init : goal.loop-place-init
loop-place-init g c = record {
  so_far = sym (ap (λ text. gave text ((g.P.Ports.world c.args.ports.now).at OUTPUT)) (words-none c.args.indices.now c.args.session.now) ∙ gave_none ((g.P.Ports.world c.args.ports.now).at OUTPUT));
  others = record { others = λ q below other. refl; crowd = refl; started = refl };
}

pub loop-place-preserved : goal.loop-place-preserved
loop-place-preserved g c =
    let session = c.args.session.now in
    let place = c.loop-place.place in
    let inside = c.loop-place-test.true in
    let all = c.record_count-place-end.ensures.count in
    let more = words-more c.args.indices.now session place (omega (arith, inside, all)) in
    record {
      so_far = c.in_ok-write_other.ensures.written ∙ ap (gave _) c.loop-place.invariant.so_far ∙ gave-gave _ _ _
          ∙ ap (λ l. gave l ((g.P.Ports.world c.args.ports.now).at OUTPUT)) (sym more);
      others = touches_more _ _ _ _ c.loop-place.invariant.others c.write_other.ensures.others;
    }

pub returns-in_err-write_other-clause-written : goal.returns-in_err-write_other-clause-written
returns-in_err-write_other-clause-written g c =
    let inside = c.loop-place-test.true in
    let all = c.record_count-place-end.ensures.count in
    let whole = words-pieces c.args.indices.now c.args.session.now c.loop-place.place (omega (arith, inside, all)) in
    let p = err_from_is_err_and c.from_residual.result c.from_residual.ensures.1 in
    rw (p.1, whole) (written_cut 1 _ _ _ _ _ _ c.loop-place.invariant.so_far c.in_err-write_other.ensures.written)

pub returns-clause-written : goal.returns-clause-written
returns-clause-written g c =
    let all = c.record_count-place-end.ensures.count in
    let end = c.loop-place-test.false in
    c.loop-place.invariant.so_far
    ∙ ap (λ answers. gave (words_of c.args.indices.now answers) ((g.P.Ports.world c.args.ports.now).at OUTPUT)) (first_of-all c.args.session.now c.loop-place.place (omega (arith, end, all)))

pub returns-in_err-write_other-clause-others : goal.returns-in_err-write_other-clause-others
returns-in_err-write_other-clause-others g c = touches_more _ _ _ _ c.loop-place.invariant.others c.in_err-write_other.ensures.others

pub returns-clause-others : goal.returns-clause-others
returns-clause-others g c = c.loop-place.invariant.others
