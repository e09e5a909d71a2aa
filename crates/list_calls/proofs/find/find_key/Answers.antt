use Rattle.std.proofs.Common.{rules, ◌≡◌, List, ℕ, refl, subst}
use Rattle.key_table.specs.Digest.{row_of}
use Rattle.key_table.specs.Entry.{Pair}
use Rattle.key_table.specs.Looked.{LacksDigest}
use Rattle.key_table.specs.Table.{IsRowOf}
use Rattle.list_calls.specs.Find.{LacksKey, LookUp, MayLook, digest_for, look_up, making_for}
use Rattle.list_calls.proofs.find.find_key.Goals as goal

-- the row of a digest lacks it, as that of some table
abbrev LacksIt : LookUp → List ℕ → Type 0
LacksIt q digest = (pairs : List Pair) × IsRowOf (making_for q) (row_of q.numbers.rows digest) q.row pairs × LacksDigest pairs digest

-- so the key isn't there where that is its digest
lacks : (q : LookUp) (digest : List ℕ) → digest ≡ digest_for q → LacksIt q digest → LacksKey q
lacks q digest is found = subst (LacksIt q) is found

pub returns-in-Absent : goal.returns-in-Absent
returns-in-Absent c =
    let q = look_up c.args.numbers.now c.args.salt.now c.args.tag.now c.args.row.now c.args.key.now in
    let may : MayLook q = search rules in
    let is : c.write_digest.new.out ≡ digest_for q = search rules in
    (may, lacks q c.write_digest.new.out is c.in-Absent.ensures, refl)
