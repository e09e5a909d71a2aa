-- The bytes of a stream: what a generator of words writes, and pieces one after another.
use Rattle.std.proofs.Common.{◌≡◌, ◌∙◌, ℕ, zero, suc, ◌+◌, ◌*◌, ◌-◌, ◌/◌, ◌%◌, ◌^◌, ◌<◌, ◌≤◌, List, ◌++◌, All, length, take, drop, get_or, refl, sym, ap, ap₂, arith, inl, inr, length-append}
use Rattle.std.specs.Int.{w32, to_le_bytes}
use Rattle.std.specs.List.{range_with_len}
use Rattle.std.proofs.Math.Seq.{take-append_seam, drop-append_seam}
use Rattle.std.proofs.Math.Nat.{div-one, lt-div-mul-add, mod-eq_of_lt}
use Rattle.std.proofs.lemmas.Nat.{div-mul-add, mod-mul-add}
use Rattle.std.proofs.lemmas.Bool.{cases_lt}
use Rattle.std.proofs.lemmas.List.{ext_get_or, get_or_append_left, get_or-append_right, get_or-take, length-take, take_all}
use Rattle.std.proofs.lemmas.List.Elements.{All-map}
use Rattle.std.proofs.lemmas.List.FromFn.{length-map-range_with_len, get_or-map-range_with_len, take-map-range_with_len}
use Rattle.rand_core.specs.Steps.{fill_via_u32, word_bytes}
use Rattle.rand_chacha.specs.ChaCha.{ChaCha, next_word, word_at}
use Rattle.drawn_workload.specs.Stream.{stream_byte, stream_bytes}

-- ---- what a generator writes

abbrev words : ChaCha → ℕ → List ℕ × ChaCha
words g k = word_bytes (to_le_bytes w32) (next_word 10) k g

-- after k words the place is k further on
place_after : (g : ChaCha) (k : ℕ) → g.word_pos + k < 2 ^ 68 → (words g k).1 ≡ record g { word_pos = g.word_pos + k }
unfolding word_bytes
place_after g zero lt = ap (λ p. record g { word_pos = p }) (omega arith)
place_after g (suc k) lt =
    let place : (g.word_pos + k + 1) % 2 ^ 68 ≡ g.word_pos + suc k = mod-eq_of_lt (omega arith) ∙ omega arith in
    ap (λ (c : ChaCha). (next_word 10 c).1) (place_after g k (omega arith)) ∙ ap (λ p. record g { word_pos = p }) place

-- byte j of a word
le_byte : (n j : ℕ) → j < 4 → get_or (to_le_bytes w32 n) j 0 ≡ n / 256 ^ j % 256
le_byte n zero lt = ap (λ x. x % 256) (sym (div-one n))
le_byte n (suc zero) lt = refl
le_byte n (suc (suc zero)) lt = refl
le_byte n (suc (suc (suc zero))) lt = refl
le_byte n (suc (suc (suc (suc j)))) lt = absurd (omega (arith, lt))

-- the bytes of the next words
abbrev front : ChaCha → ℕ → List ℕ
front g k = (words g k).0

-- a word has four bytes
front_length : (g : ChaCha) (k : ℕ) → length (front g k) ≡ 4 * k
unfolding word_bytes
front_length g zero = refl
front_length g (suc k) =
    let ih = front_length g k in
    length-append (front g k) (to_le_bytes w32 (next_word 10 (words g k).1).0) ∙ omega (arith, ih)

-- each of them is a byte of the stream
front_byte : (g : ChaCha) (k i : ℕ) → g.stream ≡ 0 → g.word_pos + k < 2 ^ 68 → i < 4 * k → get_or (front g k) i 0 ≡ stream_byte g.key (4 * g.word_pos + i)
unfolding word_bytes stream_byte
front_byte g zero i first lt ilt = absurd (omega (arith, ilt))
front_byte g (suc k) i first lt ilt =
    let len = front_length g k in
    let last = to_le_bytes w32 (next_word 10 (words g k).1).0 in
    elim (cases_lt i (4 * k)) [
      | inl below ↦ get_or_append_left (front g k) last 0 i (omega (arith, len, below)) ∙ front_byte g k i first (omega arith) below
      | inr above ↦
          let j : ℕ = i - 4 * k in
          let small : j < 4 = omega (arith, above, ilt) in
          let place : (g.word_pos + k) * 4 + j ≡ 4 * g.word_pos + i = omega (arith, above) in
          let row : (4 * g.word_pos + i) / 4 ≡ g.word_pos + k = ap (λ x. x / 4) (sym place) ∙ div-mul-add (g.word_pos + k) 4 j small in
          let column : (4 * g.word_pos + i) % 4 ≡ j = ap (λ x. x % 4) (sym place) ∙ mod-mul-add (g.word_pos + k) 4 j small in
          get_or-append_right (front g k) last (4 * k) i 0 len above
          ∙ ap (λ (c : ChaCha). get_or (to_le_bytes w32 (next_word 10 c).0) j 0) (place_after g k (omega arith))
          ∙ le_byte (word_at 10 g.key g.stream (g.word_pos + k)) j small
          ∙ ap (λ s. word_at 10 g.key s (g.word_pos + k) / 256 ^ j % 256) first
          ∙ sym (ap₂ (λ p q. word_at 10 g.key 0 p / 256 ^ q % 256) row column)
    ]

-- ---- pieces of a stream

-- n bytes of a stream are n
pub length-stream_bytes : (key : List ℕ) (i n : ℕ) → length (stream_bytes key i n) ≡ n
unfolding stream_bytes
length-stream_bytes key i n = length-map-range_with_len (stream_byte key) i n

-- one of them
get_or-stream_bytes : (key : List ℕ) (i n j : ℕ) → j < n → get_or (stream_bytes key i n) j 0 ≡ stream_byte key (i + j)
unfolding stream_bytes
get_or-stream_bytes key i n j lt = get_or-map-range_with_len (stream_byte key) i n j (i + j) 0 lt refl

-- they are bytes
pub small-stream_bytes : (key : List ℕ) (i n : ℕ) → All (λ b. b < 256) (stream_bytes key i n)
unfolding stream_byte stream_bytes
small-stream_bytes key i n = All-map (λ (b : ℕ). b < 256) (stream_byte key) (range_with_len i n) (λ k d lt. omega arith)

-- what `fill_bytes_via_u32` writes
pub filled : (g : ChaCha) (n : ℕ) → g.stream ≡ 0 → g.word_pos + n < 2 ^ 68 → (fill_via_u32 (next_word 10) n g).0 ≡ stream_bytes g.key (4 * g.word_pos) n
filled g n first within =
    let q : ℕ = (n + 3) / 4 in
    let up : n + 3 < q * 4 + 4 = lt-div-mul-add (omega arith) in
    let whole = front_length g q in
    let few : q ≤ n = omega arith in
    let size : length (take n (front g q)) ≡ n = length-take n (front g q) ∙ omega (arith, whole, up) in
    ext_get_or 0 (take n (front g q)) (stream_bytes g.key (4 * g.word_pos) n) (size ∙ sym (length-stream_bytes g.key (4 * g.word_pos) n))
    (λ i lt. get_or-take n (front g q) i 0 (omega (arith, lt, size)) ∙ front_byte g q i first (omega (arith, few)) (omega (arith, up, lt, size)) ∙ sym
    (get_or-stream_bytes g.key (4 * g.word_pos) n i (omega (arith, lt, size))))

-- and where it stands then
pub left : (g : ChaCha) (n : ℕ) → g.word_pos + n < 2 ^ 68 → (fill_via_u32 (next_word 10) n g).1 ≡ record g { word_pos = g.word_pos + (n + 3) / 4 }
left g n within = place_after g ((n + 3) / 4) (omega arith)

-- two pieces one after the other
pub stream_bytes-append : (key : List ℕ) (i j m n : ℕ) → i + m ≡ j → stream_bytes key i m ++ stream_bytes key j n ≡ stream_bytes key i (m + n)
stream_bytes-append key i j m n next =
    let one = stream_bytes key i m in
    let two = stream_bytes key j n in
    let first = length-stream_bytes key i m in
    let size : length (one ++ two) ≡ m + n = length-append one two ∙ ap₂ ◌+◌ first (length-stream_bytes key j n) in
    ext_get_or 0 (one ++ two) (stream_bytes key i (m + n)) (size ∙ sym (length-stream_bytes key i (m + n)))
    (λ k lt. elim (cases_lt k m) [
      | inl below ↦ get_or_append_left one two 0 k (omega (arith, first, below)) ∙ get_or-stream_bytes key i m k below ∙ sym (get_or-stream_bytes key i (m + n) k (omega (arith, size, lt)))
      | inr above ↦
          get_or-append_right one two m k 0 first above
          ∙ get_or-stream_bytes key j n (k - m) (omega (arith, size, lt, above))
          ∙ ap (stream_byte key) (omega (arith, above, next))
          ∙ sym (get_or-stream_bytes key i (m + n) k (omega (arith, size, lt)))
    ])

-- the first bytes of a piece
pub take-stream_bytes : (key : List ℕ) (i m n : ℕ) → m ≤ n → take m (stream_bytes key i n) ≡ stream_bytes key i m
unfolding stream_bytes
take-stream_bytes key i m n few = take-map-range_with_len (stream_byte key) i n m few

-- and those after them
pub drop-stream_bytes : (key : List ℕ) (i j m k n : ℕ) → i + m ≡ j → m + k ≡ n → drop m (stream_bytes key i n) ≡ stream_bytes key j k
drop-stream_bytes key i j m k n next all =
    let one = stream_bytes key i m in
    let two = stream_bytes key j k in
    ap (λ x. drop m (stream_bytes key i x)) (sym all)
    ∙ ap (drop m) (sym (stream_bytes-append key i j m k next))
    ∙ ap (λ x. drop x (one ++ two)) (sym (length-stream_bytes key i m))
    ∙ drop-append_seam one two

-- ---- bytes that are filled piece after piece

-- room behind them leaves the bytes that are there
pub kept_in_room : (before room : List ℕ) (n : ℕ) → length before ≤ n → take (length before) (take n before ++ room) ≡ before
kept_in_room before room n few = ap (λ l. take (length before) (l ++ room)) (take_all n before few) ∙ take-append_seam before room

-- a piece behind those from the first on
pub with_piece : (key before room now : List ℕ) (start word : ℕ) → before ≡ stream_bytes key 0 start → start ≡ 4 * word → start ≤ length room → take start room ≡ before
    → now ≡ take start room ++ stream_bytes key (4 * word) (length room - start) → now ≡ stream_bytes key 0 (length room)
with_piece key before room now start word so_far place few kept is =
    is
    ∙ ap₂ ◌++◌ (kept ∙ so_far) (ap (λ i. stream_bytes key i (length room - start)) (sym place))
    ∙ stream_bytes-append key 0 start start (length room - start) (omega arith)
    ∙ ap (stream_bytes key 0) (omega (arith, few))
