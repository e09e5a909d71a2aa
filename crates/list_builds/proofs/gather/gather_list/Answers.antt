use Rattle.std.proofs.Common.{rules, ◌∙◌, ◌≤◌, ℕ, List, ◌∷◌, ◌++◌, [], length, sym, subst}
use Rattle.std.proofs.lemmas.Result.{err_from_is_err_and}
use Rattle.key_table.specs.declared.TheConstants.{MOST_VALUE}
use Rattle.port_trait.proofs.Cells.{touches_more}
use Rattle.list_builds.specs.Gathering.{Gathered, GathersAll}
use Rattle.list_builds.proofs.Gathers.{fewer_follow, gathered_all, gathered_next, gathered_none, gives_all, gives_more, has_room, short_value, told_fails, told_memory}
use Rattle.list_builds.proofs.gather.gather_list.Goals as goal

pub lines-init : goal.lines-init
lines-init g c =
    let start = g.P.Ports.world c.args.ports.now in
    record {
      so_far = gathered_none c.args.salt.now c.args.size c.args.terms c.new-list.result c.in_ok-lines.lines start
          c.new-list.ensures c.in_ok-lines.ensures.0 (c.in_ok-lines.ensures.1 start);
      others = search rules;
    }

pub returns-in_err-read_line-clause-gathers : goal.returns-in_err-read_line-clause-gathers
returns-in_err-read_line-clause-gathers g c =
    let start = g.P.Ports.world c.args.ports.now in
    let now = g.P.Ports.world c.read_line.new.ports in
    let so_far = c.lines.invariant.so_far in
    told_fails c.args.salt.now c.args.size c.args.terms c.read_line.new.self.terms c.in_err-read_line.field-0.0
    c.from_residual-in_err-read_line.result start now (c.read_line.ensures.terms ∙ so_far.terms_are)
    c.from_residual-in_err-read_line.ensures.1 (c.in_err-read_line.ensures.gives so_far.given start so_far.read)

pub add-requires-clause-few : goal.add-requires-clause-few
add-requires-clause-few g c =
    let start = g.P.Ports.world c.args.ports.now in
    let mid = g.P.Ports.world c.lines.ports in
    let now = g.P.Ports.world c.read_line.new.ports in
    let so_far = c.lines.invariant.so_far in
    let reader = c.read_line.new.self in
    let read = gives_more c.in_ok-read_line.field-0 reader so_far.given start now c.if-branch.true
    (c.in_ok-read_line.ensures.gives so_far.given start so_far.read) in
    has_room c.args.salt.now c.args.size c.args.terms c.lines.list c.lines.lines reader start mid now c.requires.terms
    (c.read_line.ensures.terms ∙ so_far.terms_are) so_far read

pub add-requires-clause-value : goal.add-requires-clause-value
add-requires-clause-value g c =
    let short = short_value c.args.terms c.read_line.new.self c.requires.terms (c.read_line.ensures.terms ∙ c.lines.invariant.so_far.terms_are)
    (c.in_ok-read_line.ensures.whole c.if-branch.true) in
    subst (λ (value : List ℕ). length value ≤ MOST_VALUE) (sym c.value.ensures) short

pub lines-smaller : goal.lines-smaller
lines-smaller g c =
    let start = g.P.Ports.world c.args.ports.now in
    let mid = g.P.Ports.world c.lines.ports in
    let now = g.P.Ports.world c.read_line.new.ports in
    let so_far = c.lines.invariant.so_far in
    let reader = c.read_line.new.self in
    let read = gives_more c.in_ok-read_line.field-0 reader so_far.given start now c.if-branch.true
    (c.in_ok-read_line.ensures.gives so_far.given start so_far.read) in
    fewer_follow c.args.salt.now c.args.size c.args.terms c.lines.list c.lines.lines reader start mid now
    (c.read_line.ensures.terms ∙ so_far.terms_are) so_far read

pub lines-preserved : goal.lines-preserved
lines-preserved g c =
    let start = g.P.Ports.world c.args.ports.now in
    let mid = g.P.Ports.world c.lines.ports in
    let now = g.P.Ports.world c.read_line.new.ports in
    let so_far = c.lines.invariant.so_far in
    let reader = c.read_line.new.self in
    let read = gives_more c.in_ok-read_line.field-0 reader so_far.given start now c.if-branch.true
    (c.in_ok-read_line.ensures.gives so_far.given start so_far.read) in
    record {
      so_far = gathered_next c.args.salt.now c.args.size c.args.terms c.lines.list c.add.new.self c.key.result.now c.value.result.now
          c.lines.lines reader start mid now (c.read_line.ensures.terms ∙ so_far.terms_are) c.key.ensures c.value.ensures
          c.in_ok-add.ensures so_far read (c.in_ok-read_line.ensures.whole c.if-branch.true);
      others = touches_more _ _ _ _ c.lines.invariant.others c.read_line.ensures.others;
    }

pub returns-in_err-add-clause-gathers : goal.returns-in_err-add-clause-gathers
returns-in_err-add-clause-gathers g c =
    let start = g.P.Ports.world c.args.ports.now in
    let now = g.P.Ports.world c.read_line.new.ports in
    let so_far = c.lines.invariant.so_far in
    let reader = c.read_line.new.self in
    let read = gives_more c.in_ok-read_line.field-0 reader so_far.given start now c.if-branch.true
    (c.in_ok-read_line.ensures.gives so_far.given start so_far.read) in
    let p = err_from_is_err_and c.from_residual-in_err-add.result c.from_residual-in_err-add.ensures.1 in
    told_memory c.args.salt.now c.args.size c.args.terms c.from_residual-in_err-add.result p.0 reader
    (so_far.given ++ reader.window.line ∷ []) start now p.1 p.2 read

pub returns-clause-gathers : goal.returns-clause-gathers
returns-clause-gathers g c =
    let start = g.P.Ports.world c.args.ports.now in
    let mid = g.P.Ports.world c.lines.ports in
    let now = g.P.Ports.world c.read_line.new.ports in
    let so_far = c.lines.invariant.so_far in
    let reader = c.read_line.new.self in
    let all = gives_all c.in_ok-read_line.field-0 reader so_far.given start now c.if-branch.false
    (c.in_ok-read_line.ensures.gives so_far.given start so_far.read) in
    subst (λ (l : Gathered). GathersAll c.args.salt.now c.args.size c.args.terms (record l { returns = c.all_end_with_return.result }) start now)
    (sym c.list.view_is)
    (gathered_all c.args.salt.now c.args.size c.args.terms c.lines.list c.all_end_with_return.result c.lines.lines reader start mid now
    (c.read_line.ensures.terms ∙ so_far.terms_are) c.all_end_with_return.ensures so_far all.0 all.1 all.2)
