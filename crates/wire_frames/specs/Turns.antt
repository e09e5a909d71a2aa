-- What each of several blocks takes or gives, one behind another.
use Rattle.std.specs.Prelude.{ℕ, zero, suc, ◌*◌, List, [], ◌++◌, take, drop}

-- the i-th of pieces of so many bytes, counted from 0
abbrev pub piece : ℕ → ℕ → List ℕ → List ℕ
piece size i bytes = take size (drop (i * size) bytes)

-- what the first n give, one behind another
unfoldable pub in_turn : {A : Type 0} → ℕ → (ℕ → List A) → List A
in_turn zero gives = []
in_turn (suc n) gives = in_turn n gives ++ gives n
