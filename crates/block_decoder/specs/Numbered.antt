-- Vectors of polynomials, each by its number.
use Rattle.std.specs.Prelude.{ℕ, ◌+◌, ◌<◌, List, [], ◌∷◌, ◌++◌, map}
use Rattle.std.specs.Int.{bytes_low_first}
use Rattle.block_decoder.specs.Agreed.{constants_of}
use Rattle.block_decoder.specs.Narrowing.{ContinuesFrom}
use Rattle.block_decoder.specs.declared.decoding.Decoding.{Decoding}

-- the polynomial of t + 1 bytes with this number: the number's lowest bytes, from the lowest
unfoldable pub numbered : ℕ → ℕ → List ℕ
numbered t number = bytes_low_first 0 (t + 1) number

-- the polynomials with these numbers
abbrev pub all_numbered : ℕ → List ℕ → List (List ℕ)
all_numbered t numbers = map (numbered t) numbers

-- the polynomials with these numbers can be continued to some with this block
abbrev pub Continues : Decoding → List ℕ → List ℕ → Type 0
Continues decoding numbers block = ContinuesFrom constants_of decoding (all_numbered decoding.degree numbers) block

-- the same where the next number is below a bound
pub record ContinuesBelow (bound : ℕ) (decoding : Decoding) (numbers block : List ℕ) : Type 0 where
  pub next : ℕ
  pub below : next < bound
  pub continues : Continues decoding (numbers ++ next ∷ []) block
