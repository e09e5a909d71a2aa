-- The records of a session as they come in.
use Rattle.std.specs.Prelude.{ℕ, ◌-◌, List, [], ◌∷◌, ◌++◌, length, Option, ◌<◌, All, IfSome}

-- the records that are whole; the bytes so far of the next one; and how many more records, and
-- bytes, there is room for
pub record Kept : Type 0 where
  pub closed : List (Option (List ℕ))
  pub current : List ℕ
  pub record_room : ℕ
  pub byte_room : ℕ

-- no record yet, with room for so many records and bytes
abbrev pub nothing_kept : ℕ → ℕ → Kept
nothing_kept records bytes =
    record { closed = []; current = []; record_room = records; byte_room = bytes }

-- the next record goes on with these bytes
abbrev pub extended : List ℕ → Kept → Kept
extended piece k = record k { current = k.current ++ piece; byte_room = k.byte_room - length piece }

-- the next record is whole: it is this one
abbrev pub closed_by : Option (List ℕ) → Kept → Kept
closed_by whole k =
    record k { closed = k.closed ++ whole ∷ []; current = []; record_room = k.record_room - 1 }

-- what is kept is bytes
pub record AreBytes (k : Kept) : Type 0 where
  pub closed : All (λ r. IfSome r (All (λ b. b < 256))) k.closed
  pub current : All (λ b. b < 256) k.current
