use Rattle.std.proofs.Common.{◌+◌, ◌*◌, max, sym, ap, subst, ◌∙◌, arith}
use Rattle.std.specs.Prelude.{MatchOption, length}
use Rattle.uni_poly.specs.Coefficients as one
use Rattle.bi_poly.specs.Degree.{IsDegree}
use Rattle.bi_poly.proofs.Degree.{IsZeroBelow, IsWeightBelow, weight-none, weight-some, weight-all, weight-fits, degree-inside, ord_max-nat}
use Rattle.bi_poly.proofs.BiPoly.weighted_degree.Goals as goal
use Rattle.bi_poly.proofs.BiPoly.weighted_degree.Goals.{in-Some, in_default}

pub overflow_add-weight : goal.overflow_add-weight
overflow_add-weight c =
    let inside = degree-inside c.row.result.now c.in-Some.i c.in-Some.ensures in
    let size = ap length c.row.ensures in
    let within = c.requires.limits.each c.loop-j.j in
    let most = weight-fits c.args.t c.loop-j.j c.in-Some.i c.requires.weight (omega arith) (omega arith) in
    omega arith

pub loop-j-preserved : goal.loop-j-preserved
loop-j-preserved c =
    let q = c.args.self.now in
    let t = c.args.t in
    let n = c.loop-j.j in
    elim c.match-degree.branch [
      | in-Some w ↦
          let i = w.in-Some.i in
          let is = w.max.ensures ∙ ord_max-nat w.unwrap_or.result (i + t * n) ∙ ap (λ x. max x (i + t * n)) w.unwrap_or.ensures in
          let at = weight-some q t n i c.loop-j.greatest c.loop-j.invariant (subst (λ r. IsDegree r i) c.row.ensures w.in-Some.ensures) in
          subst (λ o. MatchOption o (IsZeroBelow q (n + 1)) (IsWeightBelow q t (n + 1))) (sym w.greatest-is) (subst (IsWeightBelow q t (n + 1)) (sym is) at)
      | in_default w ↦
          let at = weight-none q t n c.loop-j.greatest c.loop-j.invariant (subst one.IsZero c.row.ensures w.in_default.ensures) in
          subst (λ o. MatchOption o (IsZeroBelow q (n + 1)) (IsWeightBelow q t (n + 1))) (sym w.greatest-is) at
    ]

pub returns : goal.returns
returns c = weight-all c.args.self.now c.args.t c.loop-j.j c.loop-j.greatest (omega arith) c.loop-j.invariant
