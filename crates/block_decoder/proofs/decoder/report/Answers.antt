use Rattle.std.proofs.Common.{◌≢◌, ◌+◌, ◌*◌, ◌<◌, ◌≤◌, ℕ, List, All, AllPairs, length, IfOk, sym, subst, ap, ◌∙◌, arith, le_refl}
use Rattle.std.proofs.lemmas.Result.{IfOk-weaker, IfOk-from_err}
use Rattle.uni_poly.proofs.Coefficients.{bytes_from_get_or}
use Rattle.wire_frames.specs.Answer.{Answer}
use Rattle.column_lists.specs.declared.TheConstants.{MOST_COST}
use Rattle.column_lists.specs.Numbers.{cost}
use Rattle.block_decoder.specs.Agreed.{answers_of, HasColumns, Lists}
use Rattle.block_decoder.specs.Numbers.{bound_of, most_columns, most_nodes}
use Rattle.block_decoder.specs.Report.{Agreement, HasBlocks, IsReport}
use Rattle.block_decoder.proofs.Agreed.{length-answers_of}
use Rattle.block_decoder.proofs.Columns.{indices-answers_of, columns-answers_of}
use Rattle.block_decoder.proofs.FewBlocks.{few_agreements}
use Rattle.block_decoder.proofs.Reported.{listed-reported}
use Rattle.std.proofs.Math.Nat.{le-add_right}
use Rattle.block_decoder.proofs.decoder.report.Goals as goal

pub invariant_of-narrowing : goal.invariant_of-narrowing
invariant_of-narrowing g c =
    let indices = c.args.indices.now in
    let bytes = c.args.bytes.now in
    let answers = answers_of c.args.s indices bytes in
    let is = c.in_ok-answers.ensures ∙ c.new.ensures in
    let n = ap length is ∙ length-answers_of c.args.s indices bytes in
    let columns = columns-answers_of c.args.s indices bytes c.requires.ascending c.requires.fit
    (bytes_from_get_or indices (λ k. (c.type_inv.indices k).fits)) (bytes_from_get_or bytes (λ k. (c.type_inv.bytes k).fits)) in
    let nonzero = indices-answers_of (λ i. i ≢ 0) c.args.s indices bytes c.requires.nonzero in
    let width = c.requires.width in
    record {
      columns = subst (HasColumns c.args.s) (sym is) columns;
      some = omega (arith, width);
      enough = omega (arith, n, c.requires.enough);
      listed = record {
        different = subst (AllPairs (λ (a b : Answer). a.index ≢ b.index)) (sym is) columns.different;
        nonzero = subst (All (λ (a : Answer). a.index ≢ 0)) (sym is) nonzero;
        few = omega (arith, n, c.requires.few);
        some = c.requires.agreement.0;
        redundant = c.requires.agreement.1;
        strong = subst (λ (k : ℕ). k * c.args.t < c.args.h * c.args.h) (sym n) c.requires.strong;
        cheap = subst (λ (k : ℕ). cost k c.args.t c.args.h ≤ MOST_COST) (sym n) c.requires.cheap;
      };
    }

pub returns-clause-report : goal.returns-clause-report
returns-clause-report g c =
    subst (λ (all : List Answer). IfOk c.find_agreements.result (IsReport all c.args.s c.args.t c.args.h)) (c.in_ok-answers.ensures ∙ c.new.ensures) c.find_agreements.ensures.report

pub returns-clause-blocks : goal.returns-clause-blocks
returns-clause-blocks g c =
    let answers = answers_of c.args.s c.args.indices.now c.args.bytes.now in
    let columns = columns-answers_of c.args.s c.args.indices.now c.args.bytes.now c.requires.ascending c.requires.fit
    (bytes_from_get_or c.args.indices.now (λ k. (c.type_inv.indices k).fits)) (bytes_from_get_or c.args.bytes.now (λ k. (c.type_inv.bytes k).fits)) in
    IfOk-weaker c.find_agreements.result (IsReport answers c.args.s c.args.t c.args.h)
    (λ (agreements : List Agreement). (blocks : List (List ℕ)) → Lists blocks answers c.args.s c.args.t c.args.h → HasBlocks blocks agreements)
    (λ agreements is blocks lists. listed-reported answers c.args.s c.args.t c.args.h columns.filled agreements blocks is lists) (returns-clause-report g c)

pub returns-clause-cols : goal.returns-clause-cols
returns-clause-cols g c =
    let n = ap length (c.in_ok-answers.ensures ∙ c.new.ensures) ∙ length-answers_of c.args.s c.args.indices.now c.args.bytes.now in
    subst (λ (k : ℕ). c.find_agreements.new.cols ≤ c.args.cols.now + most_columns k c.args.t c.args.h c.args.s) n c.find_agreements.ensures.cols

pub returns-clause-nodes : goal.returns-clause-nodes
returns-clause-nodes g c =
    let n = ap length (c.in_ok-answers.ensures ∙ c.new.ensures) ∙ length-answers_of c.args.s c.args.indices.now c.args.bytes.now in
    subst (λ (k : ℕ). c.find_agreements.new.nodes ≤ c.args.nodes.now + most_nodes k c.args.t c.args.h c.args.s) n c.find_agreements.ensures.nodes

pub returns-clause-few : goal.returns-clause-few
returns-clause-few g c =
    let answers = answers_of c.args.s c.args.indices.now c.args.bytes.now in
    let columns = columns-answers_of c.args.s c.args.indices.now c.args.bytes.now c.requires.ascending c.requires.fit
    (bytes_from_get_or c.args.indices.now (λ k. (c.type_inv.indices k).fits)) (bytes_from_get_or c.args.bytes.now (λ k. (c.type_inv.bytes k).fits)) in
    let n = length-answers_of c.args.s c.args.indices.now c.args.bytes.now in
    IfOk-weaker c.find_agreements.result (IsReport answers c.args.s c.args.t c.args.h)
    (λ (agreements : List Agreement). length agreements ≤ bound_of (length c.args.indices.now) c.args.t c.args.h)
    (λ agreements is. subst (λ (k : ℕ). length agreements ≤ bound_of k c.args.t c.args.h) n
    (few_agreements answers columns.indices columns.different c.args.s c.args.t c.args.h agreements columns.filled c.requires.agreement.1
    (subst (λ (k : ℕ). k * c.args.t < c.args.h * c.args.h) (sym n) c.requires.strong) is)) (returns-clause-report g c)

pub returns-in_err-answers-clause-cols : goal.returns-in_err-answers-clause-cols
returns-in_err-answers-clause-cols g c = le-add_right c.args.cols.now _

pub returns-in_err-answers-clause-nodes : goal.returns-in_err-answers-clause-nodes
returns-in_err-answers-clause-nodes g c = le-add_right c.args.nodes.now _

pub returns-in_err-answers-clause-least : goal.returns-in_err-answers-clause-least
returns-in_err-answers-clause-least g c = le_refl c.args.cols.now

pub returns-in_err-answers-clause-least_nodes : goal.returns-in_err-answers-clause-least_nodes
returns-in_err-answers-clause-least_nodes g c = le_refl c.args.nodes.now

pub returns-clause-least : goal.returns-clause-least
returns-clause-least g c = c.find_agreements.ensures.least.0

pub returns-clause-least_nodes : goal.returns-clause-least_nodes
returns-clause-least_nodes g c = c.find_agreements.ensures.least.1

pub returns-clause-tried : goal.returns-clause-tried
returns-clause-tried g c = c.find_agreements.ensures.tried

pub returns-clause-found : goal.returns-clause-found
returns-clause-found g c = c.find_agreements.ensures.found

pub new-requires : goal.new-requires
new-requires g c = c.requires.fit

pub returns-in_err-answers-clause-report : goal.returns-in_err-answers-clause-report
returns-in_err-answers-clause-report g c = IfOk-from_err c.from_residual.result _ c.from_residual.ensures.0

pub returns-in_err-answers-clause-blocks : goal.returns-in_err-answers-clause-blocks
returns-in_err-answers-clause-blocks g c = IfOk-from_err c.from_residual.result _ c.from_residual.ensures.0

pub returns-in_err-answers-clause-tried : goal.returns-in_err-answers-clause-tried
returns-in_err-answers-clause-tried g c = IfOk-from_err c.from_residual.result _ c.from_residual.ensures.0

pub returns-in_err-answers-clause-found : goal.returns-in_err-answers-clause-found
returns-in_err-answers-clause-found g c = IfOk-from_err c.from_residual.result _ c.from_residual.ensures.0

pub returns-in_err-answers-clause-few : goal.returns-in_err-answers-clause-few
returns-in_err-answers-clause-few g c = IfOk-from_err c.from_residual.result _ c.from_residual.ensures.0

pub returns-clause-several : goal.returns-clause-several
returns-clause-several g c = c.find_agreements.ensures.several

pub returns-in_err-answers-clause-several : goal.returns-in_err-answers-clause-several
returns-in_err-answers-clause-several g c = IfOk-from_err c.from_residual.result _ c.from_residual.ensures.0
