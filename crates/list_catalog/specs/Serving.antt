-- Servers that have a database, and how they are asked.
use Rattle.std.specs.Prelude.{ℕ, ◌+◌, ◌<◌, ◌≤◌, ◌==◌, ◌||◌, nat_lt, nat_le, if◌then◌else◌, List, length, All, Option, Some, None, option_map, Result, Ok, Err}
use Rattle.std.specs.List.{position_from}
use Rattle.std.specs.Option.{ok_or, option_or}
use Rattle.quantity_limits.specs.declared.TheConstants.{LEAST_SERVERS, MOST_SERVERS}
use Rattle.list_catalog.specs.declared.member.Member.{Member}
use Rattle.list_catalog.specs.declared.member.Member.TheVariants.{Addresses, Agree, Degree}
use Rattle.list_catalog.specs.declared.fault.ServersFault.{ServersFault}
use Rattle.list_catalog.specs.declared.fault.ServersFault.TheVariants.{Missing, Count, Empty, NoDegree, TooWeak, TooStrong}
use Rattle.list_catalog.specs.Steps.{◌>>=◌}

-- where each server is, how many of them together learn nothing, and how many have to agree
pub record Serving : Type 0 where
  pub addresses : List (List ℕ)
  pub degree : ℕ
  pub agree : ℕ

-- there are enough servers and not too many, none with an empty address; more have to agree than together learn nothing,
-- and no more than there are
pub record CanServe (addresses : List (List ℕ)) (degree agree : ℕ) : Type 0 where
  pub some : LEAST_SERVERS ≤ length addresses
  pub few : length addresses ≤ MOST_SERVERS
  pub named : All (λ address. 0 < length address) addresses
  pub hidden : 1 ≤ degree
  pub strong : degree < agree
  pub within : agree ≤ length addresses

-- the place of the first address that is empty
abbrev pub empty_place : List (List ℕ) → Option ℕ
empty_place addresses = position_from (λ address. length address == 0) 0 addresses

-- the fault of degree and agreement, where they have one
abbrev pub checked_degree : List (List ℕ) → ℕ → ℕ → Result Serving ServersFault
checked_degree addresses degree agree =
    if degree == 0 then Err NoDegree
    else if nat_le agree degree then Err (TooWeak agree degree)
    else if nat_lt (length addresses) agree then Err (TooStrong agree (length addresses))
    else Ok (record { addresses = addresses; degree = degree; agree = agree })

-- no address is empty, or this one is the first that is
abbrev pub checked_named : Option ℕ → List (List ℕ) → ℕ → ℕ → Result Serving ServersFault
checked_named (Some place) addresses degree agree = Err (Empty (place + 1))
checked_named None addresses degree agree = checked_degree addresses degree agree

-- such servers, or the first fault that they have: in their number, an address, the degree, the agreement
unfoldable pub checked : List (List ℕ) → ℕ → ℕ → Result Serving ServersFault
checked addresses degree agree =
    if nat_lt (length addresses) LEAST_SERVERS || nat_lt MOST_SERVERS (length addresses)
    then Err (Count (length addresses))
    else checked_named (empty_place addresses) addresses degree agree

-- what an option says, else what the servers have, else that it is missing
abbrev pub said : {A : Type 0} → Member → (Serving → A) → Option Serving → Option A → Result A ServersFault
said m field servers option = ok_or (option_or option (option_map field servers)) (Missing m)

-- the servers, with what options say in place of what they have
unfoldable pub with_options : Option Serving → Option (List (List ℕ)) → Option ℕ → Option ℕ
    → Result Serving ServersFault
with_options servers addresses degree agree = do
  a ← said Addresses (λ s. s.addresses) servers addresses
  d ← said Degree (λ s. s.degree) servers degree
  g ← said Agree (λ s. s.agree) servers agree
  checked a d g
