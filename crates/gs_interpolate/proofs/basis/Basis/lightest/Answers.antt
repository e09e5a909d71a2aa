use Rattle.std.proofs.Common.{◌≡◌, ℕ, ◌+◌, ◌<◌, ◌≤◌, List, length, ap, sym, subst, arith, below_more, le_refl, Vec, Global}
use Rattle.std.proofs.lemmas.List.{length-map}
use borrow.Author.Count.{falls}
use Rattle.gs_interpolate.specs.Basis.{Polynomials, weight}
use Rattle.gs_interpolate.proofs.basis.Basis.lightest.Goals as goal
use Rattle.gs_interpolate.proofs.basis.Basis.lightest.Goals.{then-weight, else-weight}

-- of the places below n that at place p has the least weight
abbrev IsLeastBelow : Polynomials → ℕ → ℕ → Type 0
IsLeastBelow s p n = (k : ℕ) → k < n → weight s p ≤ weight s k

pub loop-j-init : goal.loop-j-init
loop-j-init c =
    let some = c.self.invariant.some in
    record {
      inside = omega (arith, some, ap (λ s. length s.rows) c.self.view_is);
      least = λ k l. let first : 0 ≡ k = omega (arith, l) in subst (λ i. weight c.args.self.now 0 ≤ weight c.args.self.now i) first (le_refl _);
    }

pub weight-requires : goal.weight-requires
weight-requires c =
    let f : Vec ℕ Global → List ℕ = λ r. r.items in
    omega (arith, c.loop-j-test.true, c.len-j-end.ensures, length-map c.self.inside.rows.items f, ap (λ s. length s.rows) c.self.view_is)

pub weight-requires-in-loop-j : goal.weight-requires-in-loop-j
weight-requires-in-loop-j c = c.loop-j.invariant.inside

pub loop-j-smaller : goal.loop-j-smaller
loop-j-smaller c = falls c.len-j-end.result c.loop-j.j c.loop-j-test.true

pub loop-j-preserved : goal.loop-j-preserved
loop-j-preserved c =
    let f : Vec ℕ Global → List ℕ = λ r. r.items in
    let s = c.args.self.now in
    let j = c.loop-j.j in
    let p = c.loop-j.lightest in
    let own = c.weight.ensures.weight in
    let other = c.weight-in-loop-j.ensures.weight in
    let least = c.loop-j.invariant.least in
    let inside : j < length s.rows =
    omega (arith, c.loop-j-test.true, c.len-j-end.ensures, length-map c.self.inside.rows.items f, ap (λ s. length s.rows) c.self.view_is) in
    elim c.if-weight.branch [
      | then-weight w ↦
          record {
            inside = subst (λ q. q < length s.rows) (sym w.lightest-is) inside;
            least = subst (λ q. IsLeastBelow s q (j + 1)) (sym w.lightest-is)
                (below_more (λ k. weight s j ≤ weight s k) j (λ k l. let old = least k l in omega (arith, own, other, w.if-weight.true, old)) (le_refl _));
          }
      | else-weight w ↦
          record {
            inside = subst (λ q. q < length s.rows) (sym w.lightest-is) c.loop-j.invariant.inside;
            least = subst (λ q. IsLeastBelow s q (j + 1)) (sym w.lightest-is)
                (below_more (λ k. weight s p ≤ weight s k) j least (omega (arith, own, other, w.if-weight.false)));
          }
    ]

pub returns : goal.returns
returns c =
    let f : Vec ℕ Global → List ℕ = λ r. r.items in
    record {
      inside = c.loop-j.invariant.inside;
      least = λ k l. c.loop-j.invariant.least k
          (omega (arith, l, c.loop-j-test.false, c.len-j-end.ensures, length-map c.self.inside.rows.items f, ap (λ s. length s.rows) c.self.view_is));
    }
