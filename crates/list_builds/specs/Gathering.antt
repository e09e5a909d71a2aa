-- Gathering the list that Input holds.
use Rattle.std.specs.Prelude.{◌≡◌, ℕ, ◌<◌, ◌≤◌, Bool, List, ◌++◌, ◌∷◌, [], length, max, All, Result, Ok, Err}
use Rattle.std.specs.List.{list_all}
use Rattle.port_trait.specs.World.{World}
use Rattle.key_table.specs.Digest.{digest_of}
use Rattle.key_table.specs.Held.{Held}
use Rattle.key_table.specs.Looked.{pair}
use Rattle.list_keys.specs.Form.{IsGood, IsWhole}
use Rattle.list_keys.specs.Keys.{ReadsSome}
use Rattle.list_keys.specs.Lines.{ends_with_return}
use Rattle.list_keys.specs.Reading.{FailsToGive, GivesAll, HasRead, Reading}
use Rattle.list_keys.specs.declared.form.Form.{Form}
use Rattle.list_keys.specs.declared.form.Terms.{Terms}
use Rattle.list_keys.specs.declared.fault.LinesFault.{LinesFault}
use Rattle.list_keys.specs.declared.fault.LinesFault.TheVariants.{Memory}
use Rattle.list_builds.specs.Listing.{longest_of, pairs_of}

-- a list that was gathered: its pairs, the bytes of its longest value, and whether each line ended with a carriage return
pub record Gathered : Type 0 where
  pub held : Held
  pub longest : ℕ
  pub returns : Bool

-- the list with one more pair: the digest of a key under a salt, and a value
abbrev pub with_pair : List ℕ → List ℕ → List ℕ → Gathered → Gathered
with_pair salt key value list =
    let size = list.held.size in
    record {
      held = record { size = size; pairs = list.held.pairs ++ pair (digest_of salt size key) value ∷ [] };
      longest = max list.longest (length value);
      returns = list.returns;
    }

-- these lines are gathered, with digests of so many bytes under that salt
pub record Gathers (salt : List ℕ) (size : ℕ) (form : Form) (given : List (List ℕ)) (held : Held) (longest : ℕ) : Type 0 where
  pub held_is : held ≡ record { size = size; pairs = pairs_of salt size form given }
  pub longest_is : longest ≡ longest_of (pairs_of salt size form given)

-- Input was read to its end, these are its lines, with each of which nothing is wrong, and they are gathered
pub record GathersAll (salt : List ℕ) (size : ℕ) (terms : Terms) (list : Gathered) (start now : World) : Type 0 where
  pub given : List (List ℕ)
  pub all : GivesAll given start now
  pub good : All (IsGood terms.form) given
  pub whole : All (IsWhole terms.form) given
  pub some : 0 < length given
  pub few : length given ≤ terms.most
  pub gathers : Gathers salt size terms.form given list.held list.longest
  pub returns : list.returns ≡ list_all ends_with_return given

-- so far these lines of Input are given and gathered
pub record HasGathered (salt : List ℕ) (size : ℕ) (terms : Terms) (list : Gathered) (reader : Reading) (start now : World) : Type 0 where
  pub given : List (List ℕ)
  pub read : HasRead reader given start now
  pub terms_are : reader.terms ≡ terms
  pub whole : All (IsWhole terms.form) given
  pub gathers : Gathers salt size terms.form given list.held list.longest

-- what gathering the list of Input answers
abbrev pub GathersList : List ℕ → ℕ → Terms → Result Gathered LinesFault → World → World → Type 0
GathersList salt size terms (Ok list) start now = GathersAll salt size terms list start now
GathersList salt size terms (Err Memory) start now = ReadsSome start now
GathersList salt size terms (Err fault) start now = FailsToGive terms fault start now
