-- The catalog of a list that is written.
use Rattle.std.specs.Prelude.{◌≡◌, ℕ, List, length, None, Result, Ok, Err, String, string_bytes}
use Rattle.std.specs.declared.alloc.Global.{Global}
use Rattle.sha2.specs.Sha256.{sha256}
use Rattle.list_catalog.specs.Facts.{Facts}
use Rattle.list_catalog.specs.Writing.{catalog_text}
use Rattle.list_builds.specs.Laid.{Laid, bytes_in, tag_in}
use Rattle.list_builds.specs.declared.fault.BuildFault.{BuildFault}
use Rattle.list_builds.specs.declared.fault.BuildFault.TheVariants.{Memory}

-- what its catalog says
abbrev pub facts_in : Laid → Facts
facts_in laid = record {
  digest = laid.sorted.size;
  entries = length laid.sorted.pairs;
  tag = tag_in laid;
  rows = laid.shape.rows;
  salt = laid.salt;
  sha256 = sha256 (bytes_in laid);
  value = laid.sorted.most;
  width = laid.shape.width;
  servers = None;
}

-- the text of its catalog
abbrev pub text_in : Laid → List ℕ
text_in laid = catalog_text (facts_in laid)

-- the text of a catalog, or none for want of memory
abbrev pub MakesText : List ℕ → Result (String Global) BuildFault → Type 0
MakesText text (Ok made) = string_bytes made ≡ text
MakesText text (Err Memory) = Unit {0}
MakesText text (Err fault) = ⊥
