use Rattle.std.proofs.Common.{◌≡◌, ◌+◌, ◌-◌, ◌++◌, take, replicate, subst, arith, rules}
use Rattle.std.proofs.lemmas.List.{take-replicate}
use Rattle.sha2.specs.Hashers.{Holds256}
use Rattle.key_table.proofs.Hashing.{zeros_more}
use Rattle.key_table.proofs.tag.hash_zeros.Goals as goal

pub pieces-preserved : goal.pieces-preserved
pieces-preserved c = (
  omega arith,
  λ m h.
      let left = c.pieces.left in
      let done = c.args.count - left in
      let zeros : c.as_slice.result.now ≡ replicate 64 0 = search rules in
      let sum : done + 64 ≡ c.args.count - (left - 64) = omega arith in
      subst (Holds256 c.update.new.self) (zeros_more m done 64 (c.args.count - (left - 64)) c.as_slice.result.now zeros sum)
      (c.update.ensures (m ++ replicate done 0) (c.pieces.invariant.1 m h)),
)

pub returns : goal.returns
returns c = λ m h.
    let left = c.pieces.left in
    let done = c.args.count - left in
    let zeros : take left (replicate 64 0) ≡ replicate left 0 = take-replicate left 64 0 (omega arith) in
    let sum : done + left ≡ c.args.count = omega arith in
    subst (Holds256 c.update-2.new.self) (zeros_more m done left c.args.count (take left (replicate 64 0)) zeros sum)
    (c.update-2.ensures (m ++ replicate done 0) (c.pieces.invariant.1 m h))
