use Rattle.std.proofs.Common.{◌≡◌, ◌-◌, ◌%◌, ◌^◌, ◌==◌, not, length, get_or, ap, ap₂, ◌∙◌, sym, subst, arith}
use Rattle.std.specs.Prelude.{MatchBool}
use Rattle.chor_xor.specs.Bitmap.{size_of, has_unused, IsTrim}
use Rattle.chor_xor.proofs.Bits.{low_by_mask}
use Rattle.chor_xor.proofs.Places.{trim_tested}
use Rattle.chor_xor.proofs.bitmap.has_unused_bits.Goals as goal

pub returns : goal.returns
unfolding has_unused
returns c =
    let bitmap = c.args.bitmap.now in
    let r = c.args.r in
    let last = length bitmap - 1 in
    let unused = c.unused_in_last.result in
    let here : last ≡ size_of r - 1 = omega (arith, c.requires.size) in
    let is =
    ap (λ x. not (x == 0)) (low_by_mask (get_or bitmap last 0) unused c.unused_in_last.ensures.few
    ∙ ap₂ (λ k u. get_or bitmap k 0 % 2 ^ u) here c.unused_in_last.ensures.is) in
    record {
      is = is;
      bits = subst (λ b. MatchBool b (IsTrim r bitmap → ⊥) (IsTrim r bitmap)) (sym is) (trim_tested bitmap r c.requires.some c.requires.size);
    }
