use Rattle.std.proofs.Common.{◌≤◌, ℕ, sym, subst, ◌<◌, ◌*◌, arith}
use Rattle.std.proofs.lemmas.Result.{IfOk-from_err}
use Rattle.column_lists.specs.Numbers.{cost}
use Rattle.column_lists.specs.declared.TheConstants.{MOST_COST}
use Rattle.quantity_limits.specs.declared.TheConstants.{MOST_SERVERS}
use Rattle.block_decoder.specs.Decoding.{counters}
use Rattle.block_decoder.specs.Verdict.{IsRefusal, IsUnlisted}
use Rattle.block_decoder.proofs.Costs.{not_unlisted}
use Rattle.block_decoder.proofs.Judged.{listed_with, refused_with, untold_with}
use Rattle.block_decoder.proofs.decoder.decide_among.Goals as goal

pub overflow_cast-k : goal.overflow_cast-k
overflow_cast-k g c = omega (arith, c.len-k.ensures, c.requires.few)

pub refusal-requires-clause-few : goal.refusal-requires-clause-few
refusal-requires-clause-few g c = subst (λ (n : ℕ). n ≤ MOST_SERVERS) (sym c.len-k.ensures) c.requires.few

pub refusal-requires-clause-agreement : goal.refusal-requires-clause-agreement
refusal-requires-clause-agreement g c = c.requires.agreement

pub returns-in-Some : goal.returns-in-Some
returns-in-Some g c =
    let d = c.args.decoding in
    refused_with c.args.wanted d c.in-Some.verdict (counters c.args.cols.now c.args.nodes.now)
    (subst (λ (k : ℕ). IsRefusal k d.degree d.agreement c.in-Some.verdict) c.len-k.ensures c.in-Some.ensures.refused)

pub invariant_of-narrowing : goal.invariant_of-narrowing
invariant_of-narrowing g c =
    let d = c.args.decoding in
    let can_be = subst (λ (k : ℕ). (d.agreement ≤ k) × (k * d.degree < d.agreement * d.agreement) × (cost k d.degree d.agreement ≤ MOST_COST)) c.len-k.ensures c.in_default.ensures.listed in
    let width = c.requires.width in
    record {
      columns = c.requires.columns;
      some = omega (arith, width);
      enough = can_be.0;
      listed = record {
        different = c.requires.columns.different;
        nonzero = c.requires.nonzero;
        few = c.requires.few;
        some = c.requires.agreement.0;
        redundant = c.requires.agreement.1;
        strong = can_be.1;
        cheap = can_be.2;
      };
    }

pub returns-in_err-report : goal.returns-in_err-report
returns-in_err-report g c =
    let d = c.args.decoding in
    let tried = c.in_err-report.ensures in
    untold_with c.args.wanted d c.from_residual.result (counters c.args.cols.now c.args.nodes.now) (counters c.find_agreements.new.cols c.find_agreements.new.nodes)
    (λ P. IfOk-from_err c.from_residual.result P c.from_residual.ensures.0) tried.cols tried.nodes tried.least
    (subst (λ (k : ℕ). ¬ IsUnlisted k d.degree d.agreement) c.len-k.ensures (not_unlisted c.len-k.result d.degree d.agreement c.in_default.ensures.listed))

pub returns : goal.returns
returns g c =
    let d = c.args.decoding in
    let found = c.in_ok-report.ensures in
    listed_with c.args.wanted d c.listed.result (counters c.args.cols.now c.args.nodes.now) (counters c.find_agreements.new.cols c.find_agreements.new.nodes)
    c.in_ok-report.report c.requires.columns c.requires.agreement.1
    (subst (λ (k : ℕ). (d.agreement ≤ k) × (k * d.degree < d.agreement * d.agreement) × (cost k d.degree d.agreement ≤ MOST_COST)) c.len-k.ensures c.in_default.ensures.listed)
    found.report c.listed.ensures found.tried found.found found.several found.cols found.nodes found.least
    (subst (λ (k : ℕ). ¬ IsUnlisted k d.degree d.agreement) c.len-k.ensures (not_unlisted c.len-k.result d.degree d.agreement c.in_default.ensures.listed))
