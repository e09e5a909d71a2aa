use Rattle.std.proofs.Common.{◌≡◌, ◌+◌, ◌-◌, ◌*◌, ◌<◌, take, drop, All, sym, subst, ◌∙◌, arith}
use Rattle.std.proofs.lemmas.Bool.{false≢true}
use Rattle.gf256.specs.Polynomial.{val}
use Rattle.column_runs.specs.Close.{misses}
use Rattle.column_runs.proofs.Misses.{on-all, one_group_more, far}
use Rattle.column_runs.proofs.close.close_polynomial.Goals as goal

pub loop-group-preserved : goal.loop-group-preserved
loop-group-preserved c = λ psi is few.
    let points = c.args.points.now in
    let size = c.args.t + 1 in
    let start = c.loop-group.group * size in
    one_group_more psi points c.loop-group.group size (c.loop-group.invariant psi is few)
    (λ none.
    let end : size ≡ start + size - start = omega arith in
    let on = subst (λ n. All (λ p. val psi p.0 ≡ p.1) (take n (drop start points))) end (on-all psi (take size (drop start points)) none) in
    let same : psi ≡ c.deref.result.now = c.in_ok-phi.ensures.only psi is on ∙ sym c.deref.ensures.value in
    false≢true (sym c.if-is_close.false ∙ c.is_close.ensures.1 (subst (λ phi. misses phi points + c.args.t < c.args.h) same few)))

pub returns-clause-far : goal.returns-clause-far
returns-clause-far c = λ phi is.
    let end : c.loop-group.group ≡ c.min-groups.result = omega arith in
    far phi c.args.points.now c.args.t c.args.h c.loop-group.group c.requires.redundant c.requires.agreement (end ∙ c.min-groups.ensures)
    (λ few. c.loop-group.invariant phi is few)
