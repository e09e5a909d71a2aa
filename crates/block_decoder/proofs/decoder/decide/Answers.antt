use Rattle.std.proofs.Common.{◌≢◌, ◌+◌, ◌≤◌, ℕ, List, All, length, sym, subst, ap, ◌∙◌, arith, refl, le_refl}
use Rattle.uni_poly.proofs.Coefficients.{bytes_from_get_or}
use Rattle.wire_frames.specs.Answer.{Answer}
use Rattle.block_decoder.specs.Agreed.{HasColumns}
use Rattle.block_decoder.specs.Numbers.{bound_of, most_columns, most_nodes}
use Rattle.block_decoder.specs.Verdict.{IsDecided, IsUnlisted, ListsNoMoreThan}
use Rattle.block_decoder.proofs.Agreed.{length-answers_of}
use Rattle.block_decoder.proofs.Columns.{indices-answers_of, columns-answers_of}
use Rattle.std.proofs.Math.Nat.{le-add_right}
use Rattle.std.proofs.lemmas.Result.{IfOk-from_err}
use Rattle.block_decoder.proofs.decoder.decide.Goals as goal

pub decide_among-requires-clause-columns : goal.decide_among-requires-clause-columns
decide_among-requires-clause-columns g c =
    subst (HasColumns c.args.s) (sym (c.in_ok-answers.ensures ∙ c.new.ensures)) (columns-answers_of c.args.s c.args.indices.now c.args.bytes.now c.requires.ascending c.requires.fit
    (bytes_from_get_or c.args.indices.now (λ k. (c.type_inv.indices k).fits)) (bytes_from_get_or c.args.bytes.now (λ k. (c.type_inv.bytes k).fits)))

pub decide_among-requires-clause-nonzero : goal.decide_among-requires-clause-nonzero
decide_among-requires-clause-nonzero g c =
    subst (All (λ (a : Answer). a.index ≢ 0)) (sym (c.in_ok-answers.ensures ∙ c.new.ensures)) (indices-answers_of (λ i. i ≢ 0) c.args.s c.args.indices.now c.args.bytes.now c.requires.nonzero)

pub decide_among-requires-clause-few : goal.decide_among-requires-clause-few
decide_among-requires-clause-few g c =
    let n = ap length (c.in_ok-answers.ensures ∙ c.new.ensures) ∙ length-answers_of c.args.s c.args.indices.now c.args.bytes.now in
    omega (arith, n, c.requires.few)

pub returns-in_err-verdict-clause-cols : goal.returns-in_err-verdict-clause-cols
returns-in_err-verdict-clause-cols g c =
    let n = ap length (c.in_ok-answers.ensures ∙ c.new.ensures) ∙ length-answers_of c.args.s c.args.indices.now c.args.bytes.now in
    subst (λ (k : ℕ). c.decide_among.new.cols ≤ c.args.cols.now + most_columns k c.args.t c.args.h c.args.s) n c.decide_among.ensures.cols

pub returns-in_err-verdict-clause-nodes : goal.returns-in_err-verdict-clause-nodes
returns-in_err-verdict-clause-nodes g c =
    let n = ap length (c.in_ok-answers.ensures ∙ c.new.ensures) ∙ length-answers_of c.args.s c.args.indices.now c.args.bytes.now in
    subst (λ (k : ℕ). c.decide_among.new.nodes ≤ c.args.nodes.now + most_nodes k c.args.t c.args.h c.args.s) n c.decide_among.ensures.nodes

pub returns-in_err-verdict-clause-unlisted : goal.returns-in_err-verdict-clause-unlisted
returns-in_err-verdict-clause-unlisted g c = λ unlisted.
    let n = ap length (c.in_ok-answers.ensures ∙ c.new.ensures) ∙ length-answers_of c.args.s c.args.indices.now c.args.bytes.now in
    c.decide_among.ensures.unlisted (subst (λ (k : ℕ). IsUnlisted k c.args.t c.args.h) (sym n) unlisted)

pub returns-clause-verdict : goal.returns-clause-verdict
returns-clause-verdict g c =
    subst (λ (all : List Answer). IsDecided all c.args.s c.args.t c.args.h c.in_ok-verdict.verdict) (c.in_ok-answers.ensures ∙ c.new.ensures) c.in_ok-verdict.ensures.verdict

pub returns-clause-cols : goal.returns-clause-cols
returns-clause-cols g c =
    let n = ap length (c.in_ok-answers.ensures ∙ c.new.ensures) ∙ length-answers_of c.args.s c.args.indices.now c.args.bytes.now in
    subst (λ (k : ℕ). c.decide_among.new.cols ≤ c.args.cols.now + most_columns k c.args.t c.args.h c.args.s) n c.decide_among.ensures.cols

pub returns-clause-nodes : goal.returns-clause-nodes
returns-clause-nodes g c =
    let n = ap length (c.in_ok-answers.ensures ∙ c.new.ensures) ∙ length-answers_of c.args.s c.args.indices.now c.args.bytes.now in
    subst (λ (k : ℕ). c.decide_among.new.nodes ≤ c.args.nodes.now + most_nodes k c.args.t c.args.h c.args.s) n c.decide_among.ensures.nodes

pub returns-clause-unlisted : goal.returns-clause-unlisted
returns-clause-unlisted g c = λ unlisted.
    let n = ap length (c.in_ok-answers.ensures ∙ c.new.ensures) ∙ length-answers_of c.args.s c.args.indices.now c.args.bytes.now in
    c.decide_among.ensures.unlisted (subst (λ (k : ℕ). IsUnlisted k c.args.t c.args.h) (sym n) unlisted)

pub returns-clause-few : goal.returns-clause-few
returns-clause-few g c =
    let n = ap length (c.in_ok-answers.ensures ∙ c.new.ensures) ∙ length-answers_of c.args.s c.args.indices.now c.args.bytes.now in
    subst (λ (k : ℕ). ListsNoMoreThan (bound_of k c.args.t c.args.h) c.in_ok-verdict.verdict) n c.in_ok-verdict.ensures.few

pub returns-in_err-answers-clause-cols : goal.returns-in_err-answers-clause-cols
returns-in_err-answers-clause-cols g c = le-add_right c.args.cols.now _

pub returns-in_err-answers-clause-nodes : goal.returns-in_err-answers-clause-nodes
returns-in_err-answers-clause-nodes g c = le-add_right c.args.nodes.now _

pub returns-in_err-answers-clause-least : goal.returns-in_err-answers-clause-least
returns-in_err-answers-clause-least g c = le_refl c.args.cols.now

pub returns-in_err-answers-clause-least_nodes : goal.returns-in_err-answers-clause-least_nodes
returns-in_err-answers-clause-least_nodes g c = le_refl c.args.nodes.now

pub returns-in_err-answers-clause-unlisted : goal.returns-in_err-answers-clause-unlisted
returns-in_err-answers-clause-unlisted g c = λ none. (refl, refl)

pub returns-in_err-verdict-clause-least : goal.returns-in_err-verdict-clause-least
returns-in_err-verdict-clause-least g c = c.in_err-verdict.ensures.least

pub returns-in_err-verdict-clause-least_nodes : goal.returns-in_err-verdict-clause-least_nodes
returns-in_err-verdict-clause-least_nodes g c = c.in_err-verdict.ensures.least_nodes

pub returns-clause-least : goal.returns-clause-least
returns-clause-least g c = c.in_ok-verdict.ensures.least

pub returns-clause-least_nodes : goal.returns-clause-least_nodes
returns-clause-least_nodes g c = c.in_ok-verdict.ensures.least_nodes

pub returns-clause-listed : goal.returns-clause-listed
returns-clause-listed g c = c.in_ok-verdict.ensures.listed

pub new-requires : goal.new-requires
new-requires g c = c.requires.fit

pub returns-in_err-answers-clause-verdict : goal.returns-in_err-answers-clause-verdict
returns-in_err-answers-clause-verdict g c = IfOk-from_err c.from_residual.result _ c.from_residual.ensures.0

pub returns-in_err-answers-clause-listed : goal.returns-in_err-answers-clause-listed
returns-in_err-answers-clause-listed g c = IfOk-from_err c.from_residual.result _ c.from_residual.ensures.0

pub returns-in_err-answers-clause-few : goal.returns-in_err-answers-clause-few
returns-in_err-answers-clause-few g c = IfOk-from_err c.from_residual.result _ c.from_residual.ensures.0

pub decide_among-requires-clause-agreement : goal.decide_among-requires-clause-agreement
decide_among-requires-clause-agreement g c = c.requires.agreement

pub decide_among-requires-clause-width : goal.decide_among-requires-clause-width
decide_among-requires-clause-width g c = c.requires.width

pub returns-in_err-verdict-clause-verdict : goal.returns-in_err-verdict-clause-verdict
returns-in_err-verdict-clause-verdict g c = IfOk-from_err c.from_residual-in_err-verdict.result _ c.from_residual-in_err-verdict.ensures.0

pub returns-in_err-verdict-clause-listed : goal.returns-in_err-verdict-clause-listed
returns-in_err-verdict-clause-listed g c = IfOk-from_err c.from_residual-in_err-verdict.result _ c.from_residual-in_err-verdict.ensures.0

pub returns-in_err-verdict-clause-few : goal.returns-in_err-verdict-clause-few
returns-in_err-verdict-clause-few g c = IfOk-from_err c.from_residual-in_err-verdict.result _ c.from_residual-in_err-verdict.ensures.0

pub returns-clause-several : goal.returns-clause-several
returns-clause-several g c = c.in_ok-verdict.ensures.several

pub returns-in_err-answers-clause-several : goal.returns-in_err-answers-clause-several
returns-in_err-answers-clause-several g c = IfOk-from_err c.from_residual.result _ c.from_residual.ensures.0

pub returns-in_err-verdict-clause-several : goal.returns-in_err-verdict-clause-several
returns-in_err-verdict-clause-several g c = IfOk-from_err c.from_residual-in_err-verdict.result _ c.from_residual-in_err-verdict.ensures.0
