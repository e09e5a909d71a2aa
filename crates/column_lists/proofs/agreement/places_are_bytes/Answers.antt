use Rattle.std.proofs.Common.{◌≡◌, ◌<◌, get_or, inl, inr, sym, subst, arith}
use Rattle.std.proofs.lemmas.Bool.{cases_lt}
use Rattle.std.proofs.lemmas.List.{get_or_default}
use Rattle.column_lists.proofs.agreement.places_are_bytes.Goals as goal

pub loop-i-preserved : goal.loop-i-preserved
loop-i-preserved c = λ k d l.
    elim (cases_lt k c.loop-i.i) [
      | inl below ↦ c.loop-i.invariant k d below
      | inr past ↦
          let e : k ≡ c.loop-i.i = omega arith in
          subst (λ x. (get_or c.args.points.now x d).0 < 256) (sym e) (subst (λ p. p.0 < 256) (get_or_default c.args.points.now c.loop-i.i _ d c.loop-i-test.true) c.is_byte.ensures)
    ]

pub returns : goal.returns
returns c = λ k d l. c.loop-i.invariant k d (omega arith)
