use Rattle.std.proofs.Common.{◌*◌, ◌<◌, ◌≤◌, length, sym, subst}
use Rattle.block_decoder.specs.Numbers.{bound_of}
use Rattle.block_decoder.proofs.HeavyVectors.{few_heavy}
use Rattle.block_decoder.proofs.decoder.bound.Goals as goal

pub returns-clause-most : goal.returns-clause-most
returns-clause-most c = λ answers n vectors size bytes different are.
    let t = c.args.t in
    let h = c.args.h in
    subst (λ k. length vectors ≤ bound_of k t h) size
    (few_heavy answers bytes different n t h vectors c.requires.degree.1 (subst (λ k. k * t < h * h) (sym size) c.requires.close) are)
