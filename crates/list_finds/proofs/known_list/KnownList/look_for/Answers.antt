use Rattle.std.proofs.Common.{◌≡◌, ℕ, List, subst, rules}
use Rattle.key_table.specs.Digest.{row_of}
use Rattle.key_table.specs.Looked.{LacksDigest}
use Rattle.key_table.specs.Table.{IsRowOf}
use Rattle.list_finds.specs.Known.{digest_in, making_of}
use Rattle.list_finds.proofs.known_list.KnownList.look_for.Goals as goal

pub returns-in-Absent : goal.returns-in-Absent
returns-in-Absent c =
    let list = c.args.self.now in
    let looked = c.in-Absent.ensures in
    let digest : c.write_digest.new.out ≡ digest_in list c.args.key.now = search rules in (
      looked.0,
      subst (λ (d : List ℕ). IsRowOf (making_of list c.args.rows) (row_of c.args.rows d) c.args.row.now looked.0) digest looked.1,
      subst (λ (d : List ℕ). LacksDigest looked.0 d) digest looked.2,
    )
