-- Which servers pass.
use Rattle.std.proofs.Common.{◌≡◌, ℕ, ◌+◌, ◌<◌, ◌==◌, length, List, [], ◌∷◌, Bool, true, false, Some, None, Ok, Err, Result, inl, inr, refl, ap, arith}
use Rattle.std.specs.Prelude.{All}
use Rattle.std.specs.List.{position_from}
use Rattle.std.proofs.lemmas.Bool.{cases_Bool}
use Rattle.std.proofs.lemmas.Bool.Decides.{nat_tests}
use Rattle.std.proofs.lemmas.List.Elements.{All-cons, All-nil}
use Rattle.list_catalog.specs.declared.fault.MemberFault.{MemberFault}
use Rattle.list_catalog.specs.declared.fault.CatalogFault.{CatalogFault}
use Rattle.list_catalog.specs.declared.fault.CatalogFault.TheVariants.{TooLong, NotText, NotToml, Unfit, Memory}
use Rattle.list_catalog.specs.Documents.{some_servers}
use Rattle.list_catalog.specs.Reading.{Comes}
use Rattle.list_catalog.specs.Serving.{Serving}

-- an address is not empty
abbrev IsNamed : List ℕ → Type 0
IsNamed address = 0 < length address

-- where there is no place of an empty address, no address is empty
pub all_named : (xs : List (List ℕ)) (i : ℕ) → position_from (λ address. length address == 0) i xs ≡ None
    → All (λ address. 0 < length address) xs
all_named [] i h = All-nil IsNamed
all_named (x ∷ xs) i h =
    elim (cases_Bool (length x == 0)) [
      | inl empty ↦ let found : Some i ≡ None = rw empty at h in cc
      | inr full ↦
          let some : 0 < length x = grind (arith, nat_tests) in
          All-cons IsNamed x xs some (all_named xs (i + 1) (rw full at h))
    ]

-- a fault of servers that are there is one of the document
pub some_servers-fault : (wanted : Result Serving MemberFault) (fault : CatalogFault) → Comes wanted (Err fault)
    → Comes (some_servers wanted) (Err fault)
some_servers-fault wanted TooLong h = h
some_servers-fault wanted NotText h = h
some_servers-fault wanted (NotToml line why) h = h
some_servers-fault wanted (Unfit why) h = ap some_servers h
some_servers-fault wanted Memory h = h
