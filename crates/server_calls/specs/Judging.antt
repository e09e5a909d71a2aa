-- What a guest's bytes ask for.
use Rattle.std.specs.Prelude.{ℕ, ◌≡◌, List, Result, Ok, Err, false}
use Rattle.wire_frames.specs.declared.header.QueryHeader.{QueryHeader}
use Rattle.serve_core.specs.declared.terms.Terms.{Terms}
use Rattle.serve_core.specs.Case.{IsCut, IsWholeWith, RefusedByHeader, Refuses, header_of, payload}
use Rattle.serve_core.specs.Stages.{IsSuited}
use Rattle.server_calls.specs.declared.judging.Judged.{Judged}
use Rattle.server_calls.specs.declared.judging.Judged.TheVariants.{Query, Refused, Cut}

-- the header is that of a query that suits, or it is refused with this status by its header
abbrev pub JudgesHeader : Terms → List ℕ → Result QueryHeader ℕ → Type 0
JudgesHeader terms header (Ok query) = IsSuited terms header query
JudgesHeader terms header (Err status) = RefusedByHeader terms header status

-- the bytes are a whole query that suits and is good, with this header and this payload; or they are refused with this
-- status; or they are a proper prefix of a query
abbrev pub JudgesGuest : Terms → List ℕ → Judged → Type 0
JudgesGuest terms guest (Query header query vectors) = IsWholeWith false terms guest
    × (header.now ≡ header_of guest) × IsSuited terms (header_of guest) query × (vectors.now ≡ payload terms guest)
JudgesGuest terms guest (Refused header status) = Refuses terms guest status × (header.now ≡ header_of guest)
JudgesGuest terms guest Cut = IsCut terms guest
