-- The parts of a row: the tag, the count, the entries and zeros.
use Rattle.std.proofs.Common.{◌≡◌, ◌==◌, ℕ, ◌+◌, ◌-◌, ◌*◌, ◌<◌, ◌≤◌, true, List, [], ◌∷◌, ◌++◌, length, take, drop, get_or, replicate, refl, sym, ap, ap₂, ◌∙◌, arith, w16, take_at, drop_at}
use Rattle.std.specs.Int.{from_be_bytes, to_be_bytes}
use Rattle.std.specs.List.{list_all}
use Rattle.std.proofs.lemmas.Nat.{from_be_bytes-to_be_bytes_2, be_bytes_2}
use Rattle.std.proofs.lemmas.List.{length-drop, length-append, length-replicate, take-append-drop, drop_more, drop-drop, get_or-append_right}
use Rattle.key_table.specs.Table.{IsFrame, framed, head_size}
use Rattle.key_table.proofs.Zeros.{zeros_alone, zeros_each}
use Rattle.key_table.proofs.Values.{fits_two}

-- the two bytes behind the tag
abbrev pub count_bytes : List ℕ → List ℕ
count_bytes row = get_or row 8 0 ∷ get_or row 9 0 ∷ []

-- the parts that are found in a row
pub record Parts (tag row : List ℕ) (n : ℕ) (entries : List ℕ) : Type 0 where
  pub first : take 8 row ≡ tag
  pub count : from_be_bytes w16 (count_bytes row) ≡ n
  pub front : take (length entries) (drop 10 row) ≡ entries
  pub back : list_all (λ b. b == 0) (drop (length entries) (drop 10 row)) ≡ true

-- the bytes that a row is made of
framed-is : (width : ℕ) (tag : List ℕ) (n : ℕ) (entries : List ℕ)
    → framed width tag n entries ≡ tag ++ (to_be_bytes w16 n ++ (entries ++ replicate (width - (head_size + length entries)) 0))
unfolding framed
framed-is width tag n entries = refl

-- how many there are
pub length-framed : (width : ℕ) (tag : List ℕ) (n : ℕ) (entries : List ℕ) → length tag ≡ 8 → 10 + length entries ≤ width
    → length (framed width tag n entries) ≡ width
length-framed width tag n entries eight fits =
    let zeros = replicate (width - (head_size + length entries)) 0 in
    let behind : length (entries ++ zeros) ≡ length entries + (width - (10 + length entries)) =
    length-append entries zeros ∙ ap (λ k. length entries + k) (length-replicate (width - (head_size + length entries)) 0) in
    let whole = length-append tag (to_be_bytes w16 n ++ (entries ++ zeros)) in
    let two : length (to_be_bytes w16 n ++ (entries ++ zeros)) ≡ 2 + length (entries ++ zeros) = length-append (to_be_bytes w16 n) (entries ++ zeros) in
    ap length (framed-is width tag n entries) ∙ whole ∙ omega (arith, behind, two, eight, fits)

-- a row is at least as long as its head and its entries
pub framed_long : (width : ℕ) (tag : List ℕ) (n : ℕ) (entries : List ℕ) → length tag ≡ 8
    → 10 + length entries ≤ length (framed width tag n entries)
framed_long width tag n entries eight =
    let zeros = replicate (width - (head_size + length entries)) 0 in
    let behind = length-append entries zeros in
    let whole = length-append tag (to_be_bytes w16 n ++ (entries ++ zeros)) in
    let two : length (to_be_bytes w16 n ++ (entries ++ zeros)) ≡ 2 + length (entries ++ zeros) = length-append (to_be_bytes w16 n) (entries ++ zeros) in
    let is = ap length (framed-is width tag n entries) in
    omega (arith, is, behind, two, whole, eight)

-- the parts are found in the row that is made of them
pub frame_parts : (width : ℕ) (tag row : List ℕ) (n : ℕ) (entries : List ℕ) → length tag ≡ 8 → n < 65536
    → row ≡ framed width tag n entries → Parts tag row n entries
frame_parts width tag row n entries eight few is =
    let zeros = replicate (width - (head_size + length entries)) 0 in
    let behind = to_be_bytes w16 n ++ (entries ++ zeros) in
    let made : row ≡ tag ++ behind = is ∙ framed-is width tag n entries in
    let high : get_or row 8 0 ≡ get_or behind 0 0 = ap (λ bs. get_or bs 8 0) made ∙ get_or-append_right tag behind 8 8 0 eight (omega arith) in
    let low : get_or row 9 0 ≡ get_or behind 1 0 = ap (λ bs. get_or bs 9 0) made ∙ get_or-append_right tag behind 8 9 0 eight (omega arith) in
    let after : drop 10 row ≡ entries ++ zeros =
    sym (drop-drop 2 8 row) ∙ ap (λ bs. drop 2 (drop 8 bs)) made ∙ ap (drop 2) (drop_at tag behind 8 eight) in
    record {
      first = ap (take 8) made ∙ take_at tag behind 8 eight;
      count = ap₂ (λ x y. from_be_bytes w16 (x ∷ y ∷ [])) high low ∙ from_be_bytes-to_be_bytes_2 n few;
      front = ap (take (length entries)) after ∙ take_at entries zeros (length entries) refl;
      back = ap (λ bs. list_all (λ b. b == 0) (drop (length entries) bs)) after
          ∙ ap (list_all (λ b. b == 0)) (drop_at entries zeros (length entries) refl) ∙ zeros_each (width - (head_size + length entries));
    }

-- a row is made of the parts that are found in it
pub framed-from_parts : (tag row : List ℕ) (n : ℕ) (entries : List ℕ) → 10 ≤ length row → ((i : ℕ) → get_or row i 0 < 256)
    → take 8 row ≡ tag → n ≡ from_be_bytes w16 (count_bytes row) → take (length entries) (drop 10 row) ≡ entries
    → list_all (λ b. b == 0) (drop (length entries) (drop 10 row)) ≡ true → row ≡ framed (length row) tag n entries
framed-from_parts tag row n entries long fits first count front back =
    let rest = drop (length entries) (drop 10 row) in
    let left : length rest ≡ length row - (head_size + length entries) =
    omega (arith, length-drop (length entries) (drop 10 row), length-drop 10 row) in
    let zeros : rest ≡ replicate (length row - (head_size + length entries)) 0 = zeros_alone rest back ∙ ap (λ k. replicate k 0) left in
    let two : to_be_bytes w16 n ≡ count_bytes row = be_bytes_2 (count_bytes row) n refl (fits_two (get_or row 8 0) (get_or row 9 0) (fits 8) (fits 9)) count in
    let behind : drop 8 row ≡ count_bytes row ++ drop 10 row =
    drop_more row 8 0 (omega (arith, long)) ∙ ap (λ bs. get_or row 8 0 ∷ bs) (drop_more row 9 0 (omega (arith, long))) in
    sym (take-append-drop 8 row)
    ∙ ap₂ (λ x y. x ++ y) first
    (behind ∙ ap₂ (λ x y. x ++ y) (sym two) (sym (take-append-drop (length entries) (drop 10 row)) ∙ ap₂ (λ x y. x ++ y) front zeros))
    ∙ sym (framed-is (length row) tag n entries)

-- a row has one count and one run of entries
pub frame_unique : (tag : List ℕ) (step : ℕ) (row : List ℕ) (n : ℕ) (es : List ℕ) (k : ℕ) (fs : List ℕ) → length tag ≡ 8
    → IsFrame tag step row n es → IsFrame tag step row k fs → (n ≡ k) × (es ≡ fs)
frame_unique tag step row n es k fs eight a b =
    let one = frame_parts (length row) tag row n es eight a.few a.is in
    let other = frame_parts (length row) tag row k fs eight b.few b.is in
    let counts : n ≡ k = sym one.count ∙ other.count in
    let lengths : length es ≡ length fs = a.size ∙ ap (λ i. i * step) counts ∙ sym b.size in
    (counts, sym one.front ∙ ap (λ i. take i (drop 10 row)) lengths ∙ other.front)
