-- The pairs of a list, by its lines.
use Rattle.std.specs.Prelude.{ℕ, List, map, max, fold, length}
use Rattle.key_table.specs.Digest.{digest_of}
use Rattle.key_table.specs.Entry.{Pair}
use Rattle.key_table.specs.Looked.{pair}
use Rattle.list_keys.specs.Form.{key_of, value_of}
use Rattle.list_keys.specs.declared.form.Form.{Form}

-- the pair of a line: the digest of its key, and its value
abbrev pub pair_of : List ℕ → ℕ → Form → List ℕ → Pair
pair_of salt size form line = pair (digest_of salt size (key_of form line)) (value_of form line)

-- the pairs of lines
abbrev pub pairs_of : List ℕ → ℕ → Form → List (List ℕ) → List Pair
pairs_of salt size form lines = map (pair_of salt size form) lines

-- how many bytes the longest value has
unfoldable pub longest_of : List Pair → ℕ
longest_of pairs = fold (λ n p. max n (length p.value)) 0 pairs
