-- The stream of bytes that a seed stands for: ChaCha20 (Bernstein 2008; RFC 8439), stream 0, from its first word on.
use Rattle.std.specs.Prelude.{ℕ, ◌+◌, ◌*◌, ◌/◌, ◌%◌, ◌^◌, List, ◌++◌, map, replicate}
use Rattle.std.specs.Int.{bytes_high_first}
use Rattle.std.specs.List.{range_with_len}
use Rattle.rand_chacha.specs.ChaCha.{ChaCha, key_of, word_at}

-- the key of a seed: its 8 bytes, highest first, and 24 zeros
abbrev pub key_by : ℕ → List ℕ
key_by seed = key_of (bytes_high_first 8 seed ++ replicate 24 0)

-- byte i of a key's stream: of the word i / 4 the byte i mod 4, lowest first
unfoldable pub stream_byte : List ℕ → ℕ → ℕ
stream_byte key i = word_at 10 key 0 (i / 4) / 256 ^ (i % 4) % 256

-- n bytes of a key's stream, from place i on
unfoldable pub stream_bytes : List ℕ → ℕ → ℕ → List ℕ
stream_bytes key i n = map (stream_byte key) (range_with_len i n)

-- the next n bytes of a generator's stream
abbrev pub next_bytes : ChaCha → ℕ → List ℕ
next_bytes rng n = stream_bytes rng.key (4 * rng.word_pos) n

-- the generator after them, where the rest of the last word is lost
abbrev pub after_bytes : ChaCha → ℕ → ChaCha
after_bytes rng n = record rng { word_pos = rng.word_pos + (n + 3) / 4 }

-- n bytes of a seed's stream, from place i on
abbrev pub drawn : ℕ → ℕ → ℕ → List ℕ
drawn seed i n = stream_bytes (key_by seed) i n
