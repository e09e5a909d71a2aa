use Rattle.std.proofs.Common.{◌≡◌, ℕ, sym, ap, subst, ◌∙◌, arith, ◌<◌, ◌≤◌}
use Rattle.std.proofs.lemmas.Result.{IfOk-from_err}
use Rattle.wire_frames.specs.declared.session.SessionParams.{SessionParams}
use Rattle.wire_frames.specs.Answer.{block_len}
use Rattle.wire_frames.specs.Limits.{IsInRange}
use Rattle.wire_frames.proofs.Schemes.{number_of_xor, number_of_shamir}
use Rattle.block_decoder.specs.Agreed.{HasColumns}
use Rattle.block_decoder.specs.Decoding.{counters}
use Rattle.block_decoder.proofs.Judged.{combined, judged, unjudged}
use Rattle.block_decoder.proofs.judging.judge_with.Goals as goal

-- ---- what decide_among requires

-- what is no more than a number is no more than a greater one
at_most : {a b c : ℕ} → a ≤ b → b ≤ c → a ≤ c
at_most l m = omega (arith, l, m)

-- and numbers that are equal compare alike
less_than : {t u h i : ℕ} → t ≡ u → h ≡ i → u < i → t < h
less_than a b l = omega (arith, a, b, l)

pub decide_among-requires-clause-columns : goal.decide_among-requires-clause-columns
decide_among-requires-clause-columns g c =
    subst (λ (s : ℕ). HasColumns s c.in_ok-usable-in-Shamir.usable) (sym (c.block_len.ensures.is ∙ ap block_len c.params-params.ensures.value)) c.in_ok-usable-in-Shamir.ensures.columns

pub usable_answers-requires : goal.usable_answers-requires
usable_answers-requires g c = c.requires

pub decide_among-requires-clause-nonzero : goal.decide_among-requires-clause-nonzero
decide_among-requires-clause-nonzero g c = c.in_ok-usable-in-Shamir.ensures.nonzero

pub combine_all-requires : goal.combine_all-requires
combine_all-requires g c = c.requires.all

pub block_len-requires : goal.block_len-requires
block_len-requires g c = subst IsInRange (sym c.params-params.ensures.value) c.params-params.ensures.range

pub scheme-requires : goal.scheme-requires
scheme-requires g c = subst IsInRange (sym c.params-params.ensures.value) c.params-params.ensures.range

pub decide_among-requires-clause-few : goal.decide_among-requires-clause-few
decide_among-requires-clause-few g c = at_most c.in_ok-usable-in-Shamir.ensures.few c.params-params.ensures.range.few_servers

pub decide_among-requires-clause-agreement : goal.decide_among-requires-clause-agreement
decide_among-requires-clause-agreement g c =
    let params = c.params-params.ensures.value in
    let t = c.from.ensures ∙ ap (λ (p : SessionParams). p.t) params in
    let h = c.from-in-Shamir.ensures ∙ ap (λ (p : SessionParams). p.h) params in
    (subst (λ (t : ℕ). 1 ≤ t) (sym t) c.params-params.ensures.range.private, less_than t h c.params-params.ensures.range.agreement)

pub decide_among-requires-clause-width : goal.decide_among-requires-clause-width
decide_among-requires-clause-width g c = c.block_len.ensures.some

-- ---- the verdict

pub returns-in_ok-usable-in-Shamir : goal.returns-in_ok-usable-in-Shamir
returns-in_ok-usable-in-Shamir g c =
    let session = c.args.session.now in
    let params = c.params-params.ensures.value in
    judged c.args.wanted session c.in_ok-usable-in-Shamir.usable c.block_len.result c.from.result c.from-in-Shamir.result c.decide_among.result
    (counters c.args.cols.now c.args.nodes.now) (counters c.decide_among.new.cols c.decide_among.new.nodes)
    (λ two. number_of_shamir c.params-params.result.scheme (sym c.scheme.ensures ∙ c.in-Shamir.is) (ap (λ (p : SessionParams). p.scheme) params ∙ two))
    c.in_ok-usable-in-Shamir.ensures.answers (c.block_len.ensures.is ∙ ap block_len params) (c.from.ensures ∙ ap (λ (p : SessionParams). p.t) params)
    (c.from-in-Shamir.ensures ∙ ap (λ (p : SessionParams). p.h) params) c.decide_among.ensures

pub returns-in_err-usable-in-Shamir : goal.returns-in_err-usable-in-Shamir
returns-in_err-usable-in-Shamir g c =
    unjudged c.args.wanted c.args.session.now c.from_residual.result (counters c.args.cols.now c.args.nodes.now) (λ P. IfOk-from_err c.from_residual.result P c.from_residual.ensures.0)

pub returns-in_err-combine_all-in-Xor : goal.returns-in_err-combine_all-in-Xor
returns-in_err-combine_all-in-Xor g c =
    let failed = c.from_residual-in_err-combine_all-in-Xor in
    unjudged c.args.wanted c.args.session.now failed.result (counters c.args.cols.now c.args.nodes.now) (λ P. IfOk-from_err failed.result P failed.ensures.0)

pub returns-in_ok-combine_all-in-Xor : goal.returns-in_ok-combine_all-in-Xor
returns-in_ok-combine_all-in-Xor g c =
    let xor = sym (ap (λ (p : SessionParams). p.scheme) c.params-params.ensures.value) ∙ number_of_xor c.params-params.result.scheme (sym c.scheme.ensures ∙ c.in-Xor.is) in
    combined c.args.wanted c.args.session.now c.in_ok-combine_all-in-Xor.field-0 (counters c.args.cols.now c.args.nodes.now) xor c.in_ok-combine_all-in-Xor.ensures
