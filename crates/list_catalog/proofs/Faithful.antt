-- What a reading comes to is what the document says.
use Rattle.std.proofs.Common.{◌≡◌, ℕ, List, Result, Ok, Err, sym, ◌∙◌}
use Rattle.list_catalog.specs.declared.fault.MemberFault.{MemberFault}
use Rattle.list_catalog.specs.declared.fault.CatalogFault.{CatalogFault}
use Rattle.list_catalog.specs.declared.fault.CatalogFault.TheVariants.{TooLong, NotText, NotToml, Unfit, Memory}
use Rattle.list_catalog.specs.Facts.{Facts}
use Rattle.list_catalog.specs.Reading.{Reads}
use Rattle.list_catalog.specs.Said.{IsFaithful}
use Rattle.list_catalog.proofs.Saying.{catalog_in-says, says-read}

-- a reading that comes to what its definition says is faithful
pub IsFaithful-from : (text : List ℕ) (result : Result Facts CatalogFault) → Reads text result → IsFaithful text result
IsFaithful-from text (Ok f) (ms, doc, said) = (ms, doc, says-read ms f said)
IsFaithful-from text (Err TooLong) h = tt
IsFaithful-from text (Err NotText) h = tt
IsFaithful-from text (Err (NotToml line why)) h = tt
IsFaithful-from text (Err (Unfit why)) (ms, doc, said) =
    (ms, doc, λ f says. let both : ◌≡◌ {A = Result Facts MemberFault} (Err why) (Ok f) = sym said ∙ catalog_in-says ms f says in cc)
IsFaithful-from text (Err Memory) h = tt
