use Rattle.std.proofs.Common.{◌≢◌, ◌+◌, ◌≤◌, ℕ, List, length, map, All, AllPairs, IfOk, sym, ap, subst, ◌∙◌, arith, refl}
use Rattle.std.proofs.lemmas.List.{length-map}
use Rattle.std.proofs.lemmas.List.Elements.{All-map}
use Rattle.wire_frames.specs.Answer.{Answer}
use Rattle.column_runs.specs.Run.{IsRun}
use Rattle.block_decoder.proofs.Pairs.{AllPairs-map}
use Rattle.std.proofs.lemmas.Result.{IfOk-from_err, MatchResult-from_err}
use Rattle.block_decoder.proofs.narrowing.decode_into.Goals as goal

pub decode_run-requires-clause-enough : goal.decode_run-requires-clause-enough
decode_run-requires-clause-enough g c =
    let count = ap length (c.deref.ensures.value ∙ c.in_ok-indices.ensures) ∙ length-map c.args.kept.now (λ (a : Answer). a.index) in
    let enough = c.requires.enough in
    omega (arith, count, enough)

pub decode_run-requires-clause-rows : goal.decode_run-requires-clause-rows
decode_run-requires-clause-rows g c =
    let kept = c.args.kept.now in
    let indices = ap length (c.deref.ensures.value ∙ c.in_ok-indices.ensures) ∙ length-map kept (λ (a : Answer). a.index) in
    let payloads = ap length c.in_ok-payloads.ensures ∙ length-map kept (λ (a : Answer). a.payload) in
    let lent = length-map c.in_ok-payloads.payloads.items (λ row. row.now) in
    ap length c.deref-2.ensures.value ∙ sym lent ∙ payloads ∙ sym indices

pub decode_run-requires-clause-widths : goal.decode_run-requires-clause-widths
decode_run-requires-clause-widths g c =
    let wide : List ℕ → Type 0 = λ row. c.args.column + length c.args.out.now ≤ length row in
    subst (All wide) (sym (ap (map (λ row. row.now)) c.deref-2.ensures.value ∙ c.in_ok-payloads.ensures))
    (All-map wide (λ (a : Answer). a.payload) c.args.kept.now c.requires.widths)

pub decode_run-requires-clause-distinct : goal.decode_run-requires-clause-distinct
decode_run-requires-clause-distinct g c =
    subst (AllPairs (λ (x y : ℕ). x ≢ y)) (sym (c.deref.ensures.value ∙ c.in_ok-indices.ensures))
    (AllPairs-map (λ (x y : ℕ). x ≢ y) (λ (a : Answer). a.index) c.args.kept.now c.requires.distinct)

pub returns-clause-run : goal.returns-clause-run
returns-clause-run g c =
    subst (λ (xs : List ℕ). IfOk c.decode_run.result (IsRun xs (map (λ (a : Answer). a.payload) c.args.kept.now) c.args.t c.args.column c.decode_run.new.out))
    (c.deref.ensures.value ∙ c.in_ok-indices.ensures)
    (subst (λ (rows : List (List ℕ)). IfOk c.decode_run.result (IsRun c.deref.result.now rows c.args.t c.args.column c.decode_run.new.out))
    (ap (map (λ row. row.now)) c.deref-2.ensures.value ∙ c.in_ok-payloads.ensures) c.decode_run.ensures.run)

pub returns-clause-cols : goal.returns-clause-cols
returns-clause-cols g c = c.decode_run.ensures.cols

pub returns-in_err-indices-clause-run : goal.returns-in_err-indices-clause-run
returns-in_err-indices-clause-run g c = IfOk-from_err c.from_residual.result _ c.from_residual.ensures.0

pub returns-in_err-indices-clause-cols : goal.returns-in_err-indices-clause-cols
returns-in_err-indices-clause-cols g c = MatchResult-from_err c.from_residual.result _ _ c.from_residual.ensures.0 (λ _. refl)

pub returns-in_err-payloads-clause-run : goal.returns-in_err-payloads-clause-run
returns-in_err-payloads-clause-run g c = IfOk-from_err c.from_residual-in_err-payloads.result _ c.from_residual-in_err-payloads.ensures.0

pub returns-in_err-payloads-clause-cols : goal.returns-in_err-payloads-clause-cols
returns-in_err-payloads-clause-cols g c = MatchResult-from_err c.from_residual-in_err-payloads.result _ _ c.from_residual-in_err-payloads.ensures.0 (λ _. refl)
