use Rattle.std.proofs.Common.{inl, inr, ◌∙◌, List, [], subst, ℕ, ◌≡◌, ◌+◌, ◌-◌, ◌<◌, ◌≤◌, length, ◌⊎◌, arith, ap, sym, le_refl}
use Rattle.block_decoder.specs.Decoding.{counters}
use Rattle.block_decoder.specs.Gains.{Gains}
use Rattle.block_decoder.specs.Narrowing.{agreement_on, ContinuesFrom, Grew}
use Rattle.block_decoder.specs.Report.{Agreement, agreement_cmp}
use Rattle.block_decoder.specs.declared.decoding.Decoding.{Decoding}
use Rattle.block_decoder.proofs.Candidates.{first-candidate}
use Rattle.block_decoder.proofs.Reported.{report-gains}
use Rattle.block_decoder.proofs.Visits.{counts-few}
use Rattle.std.proofs.Math.Nat.{le-add_right}
use Rattle.std.proofs.lemmas.Result.{IfOk-from_err}
use Rattle.std.specs.List.Sorted.{IsStrictlySortedBy}
use Rattle.block_decoder.proofs.narrowing.Narrowing.find_agreements.Goals as goal

-- no column is before the first
from_zero : (n : ℕ) → 0 ≤ n
from_zero n = omega arith

-- where there is an agreement, it was new, and so all columns were decoded
found_all : (width old new : ℕ) (report before : List Agreement) → before ≡ [] → (report ≡ before) ⊎ (old + (width - 0) ≤ new)
    → 0 < length report → old + width ≤ new
found_all width old new report before none (inl same) some = let e = ap length (same ∙ none) in absurd (omega (arith, e, some))
found_all width old new report before none (inr all) some = omega (arith, all)

-- where there are several, more than one was new, and so a list proper was made
several_new : (d : Decoding) (before report : List Agreement) (a b : ℕ) → before ≡ [] → Grew d 1 before report a b
    → 1 < length report → a + (d.degree + 1) ≤ b
several_new d before report a b none (inl one) some = let e = ap length none in absurd (omega (arith, e, one, some))
several_new d before report a b none (inr many) some = many

pub extend-requires-clause-candidate : goal.extend-requires-clause-candidate
extend-requires-clause-candidate g c = first-candidate c.args.self.now.decoding c.deref_mut.result.now c.args.self.now.enough

pub extend-requires-clause-width : goal.extend-requires-clause-width
extend-requires-clause-width g c = c.deref_mut.ensures.len ∙ c.in_ok-block.ensures.len

pub extend-requires-clause-column : goal.extend-requires-clause-column
extend-requires-clause-column g c = from_zero c.args.self.now.decoding.width

pub extend-requires-clause-ascending : goal.extend-requires-clause-ascending
unfolding IsStrictlySortedBy
extend-requires-clause-ascending g c = subst (IsStrictlySortedBy agreement_cmp) (sym c.new-report.ensures) tt

-- ---- where memory ran out before the first column

pub returns-in_err-block-clause-cols : goal.returns-in_err-block-clause-cols
returns-in_err-block-clause-cols g c = le-add_right c.args.cols.now _

pub returns-in_err-block-clause-nodes : goal.returns-in_err-block-clause-nodes
returns-in_err-block-clause-nodes g c = le-add_right c.args.nodes.now _

pub returns-in_err-block-clause-least : goal.returns-in_err-block-clause-least
returns-in_err-block-clause-least g c = (le_refl c.args.cols.now, le_refl c.args.nodes.now)

pub returns-in_err-block-clause-report : goal.returns-in_err-block-clause-report
returns-in_err-block-clause-report g c = IfOk-from_err c.from_residual.result _ c.from_residual.ensures.0

pub returns-in_err-block-clause-tried : goal.returns-in_err-block-clause-tried
returns-in_err-block-clause-tried g c = IfOk-from_err c.from_residual.result _ c.from_residual.ensures.0

pub returns-in_err-block-clause-found : goal.returns-in_err-block-clause-found
returns-in_err-block-clause-found g c = IfOk-from_err c.from_residual.result _ c.from_residual.ensures.0

-- ---- where it ran out later

pub returns-in_err-extend-clause-cols : goal.returns-in_err-extend-clause-cols
returns-in_err-extend-clause-cols g c =
    let s = c.args.self.now in
    let first = first-candidate s.decoding c.deref_mut.result.now s.enough in
    let few = counts-few s.decoding (counters c.args.cols.now c.args.nodes.now) (counters c.extend.new.cols c.extend.new.nodes) s.columns
    s.listed.redundant s.listed.strong (c.in_err-extend.ensures.counted.counts first) in
    few.0

pub returns-in_err-extend-clause-nodes : goal.returns-in_err-extend-clause-nodes
returns-in_err-extend-clause-nodes g c =
    let s = c.args.self.now in
    let first = first-candidate s.decoding c.deref_mut.result.now s.enough in
    let few = counts-few s.decoding (counters c.args.cols.now c.args.nodes.now) (counters c.extend.new.cols c.extend.new.nodes) s.columns
    s.listed.redundant s.listed.strong (c.in_err-extend.ensures.counted.counts first) in
    few.1

pub returns-in_err-extend-clause-least : goal.returns-in_err-extend-clause-least
returns-in_err-extend-clause-least g c = (c.in_err-extend.ensures.counted.cols, c.in_err-extend.ensures.counted.nodes)

pub returns-in_err-extend-clause-report : goal.returns-in_err-extend-clause-report
returns-in_err-extend-clause-report g c = IfOk-from_err c.from_residual-in_err-extend.result _ c.from_residual-in_err-extend.ensures.0

pub returns-in_err-extend-clause-tried : goal.returns-in_err-extend-clause-tried
returns-in_err-extend-clause-tried g c = IfOk-from_err c.from_residual-in_err-extend.result _ c.from_residual-in_err-extend.ensures.0

pub returns-in_err-extend-clause-found : goal.returns-in_err-extend-clause-found
returns-in_err-extend-clause-found g c = IfOk-from_err c.from_residual-in_err-extend.result _ c.from_residual-in_err-extend.ensures.0

-- ---- the report

pub returns-clause-report : goal.returns-clause-report
returns-clause-report g c =
    let s = c.args.self.now in
    let d = s.decoding in
    let first = first-candidate d c.deref_mut.result.now s.enough in
    report-gains d.answers d.width d.degree d.agreement s.columns.filled c.extend.new.report c.in_ok-extend.ensures.ascending
    (subst (λ (old : List Agreement). Gains (ContinuesFrom (agreement_on d.answers) d []) old c.extend.new.report) c.new-report.ensures (c.in_ok-extend.ensures.extended.exact first))

pub returns-clause-cols : goal.returns-clause-cols
returns-clause-cols g c =
    let s = c.args.self.now in
    let first = first-candidate s.decoding c.deref_mut.result.now s.enough in
    let few = counts-few s.decoding (counters c.args.cols.now c.args.nodes.now) (counters c.extend.new.cols c.extend.new.nodes) s.columns
    s.listed.redundant s.listed.strong (c.in_ok-extend.ensures.counted.counts first) in
    few.0

pub returns-clause-nodes : goal.returns-clause-nodes
returns-clause-nodes g c =
    let s = c.args.self.now in
    let first = first-candidate s.decoding c.deref_mut.result.now s.enough in
    let few = counts-few s.decoding (counters c.args.cols.now c.args.nodes.now) (counters c.extend.new.cols c.extend.new.nodes) s.columns
    s.listed.redundant s.listed.strong (c.in_ok-extend.ensures.counted.counts first) in
    few.1

pub returns-clause-least : goal.returns-clause-least
returns-clause-least g c = (c.in_ok-extend.ensures.counted.cols, c.in_ok-extend.ensures.counted.nodes)

pub returns-clause-tried : goal.returns-clause-tried
returns-clause-tried g c = c.in_ok-extend.ensures.extended.some c.args.self.now.some

pub returns-clause-found : goal.returns-clause-found
returns-clause-found g c =
    λ some. found_all c.args.self.now.decoding.width c.args.cols.now c.extend.new.cols c.extend.new.report c.new-report.result c.new-report.ensures
    c.in_ok-extend.ensures.extended.found some

pub returns-clause-several : goal.returns-clause-several
returns-clause-several g c =
    several_new c.args.self.now.decoding c.new-report.result c.extend.new.report c.args.nodes.now c.extend.new.nodes c.new-report.ensures
    c.in_ok-extend.ensures.several

pub returns-in_err-block-clause-several : goal.returns-in_err-block-clause-several
returns-in_err-block-clause-several g c = IfOk-from_err c.from_residual.result _ c.from_residual.ensures.0

pub returns-in_err-extend-clause-several : goal.returns-in_err-extend-clause-several
returns-in_err-extend-clause-several g c = IfOk-from_err c.from_residual-in_err-extend.result _ c.from_residual-in_err-extend.ensures.0
