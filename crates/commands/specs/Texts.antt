-- Words as lists of bytes.
use Rattle.std.specs.Prelude.{ℕ, List, map, String, Vec, string_bytes}
use Rattle.std.specs.declared.alloc.Global.{Global}

-- the bytes of each word
abbrev pub texts : List (String Global) → List (List ℕ)
texts words = map string_bytes words

-- the same of several lists of words
abbrev pub texts_of : List (Vec (String Global) Global) → List (List (List ℕ))
texts_of lists = map (λ words. texts words.items) lists
