-- The names of a catalog's members.
use Rattle.std.specs.Prelude.{ℕ, List, codes}
use Rattle.list_catalog.specs.declared.member.Member.{Member}
use Rattle.list_catalog.specs.declared.member.Member.TheVariants.{Digest, Entries, Format, List as ListTag, Rows, Salt, Servers, Sha256, Value, Width, Addresses, Agree, Degree}

-- the name that a member has in a catalog
abbrev pub name_of : Member → List ℕ
name_of Digest = codes "digest"
name_of Entries = codes "entries"
name_of Format = codes "format"
name_of ListTag = codes "list"
name_of Rows = codes "rows"
name_of Salt = codes "salt"
name_of Servers = codes "servers"
name_of Sha256 = codes "sha256"
name_of Value = codes "value"
name_of Width = codes "width"
name_of Addresses = codes "addresses"
name_of Agree = codes "agree"
name_of Degree = codes "degree"
