use Rattle.std.proofs.Common.{◌++◌, subst}
use Rattle.sha2.specs.Hashers.{Holds256}
use Rattle.key_table.proofs.Hashing.{entry_more}
use Rattle.key_table.proofs.tag.hash_entry.Goals as goal

pub returns : goal.returns
returns c = λ m h.
    let digest = c.args.digest.now in
    subst (Holds256 c.hash_value.new.hasher) (entry_more m c.args.most digest c.args.value.now)
    (c.hash_value.ensures (m ++ digest) (c.update.ensures m h))
