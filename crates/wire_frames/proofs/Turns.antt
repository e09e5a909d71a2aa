-- Pieces one behind another.
use Rattle.std.specs.List.{slice_range}
use Rattle.std.proofs.Common.{◌≡◌, ℕ, zero, suc, ◌+◌, ◌-◌, ◌*◌, ◌<◌, ◌≤◌, List, ◌++◌, length, map, take, drop, All, refl, sym, ap, ap₂, ◌∙◌, arith, length-append, zero-mul, inl, inr}
use Rattle.std.proofs.Math.Nat.{mul-le-mul_right, suc-mul}
use Rattle.std.proofs.Math.Seq.{take-add, drop-append_seam}
use Rattle.std.proofs.lemmas.Bool.{cases_eq}
use Rattle.std.proofs.lemmas.List.{take-append-le, drop-append-le, take_all, length-drop, length-take-le, map-append, take_at, append_assoc}
use Rattle.std.proofs.lemmas.List.Elements.{All-nil, All-append}
use borrow.Rule.Slice.PartMut.{put_mid}
use Rattle.wire_frames.specs.Turns.{piece, in_turn}

-- each of n pieces ends where the last does, or before
pub piece_fits : (i n size : ℕ) → i < n → (i + 1) * size ≤ n * size
piece_fits i n size l = mul-le-mul_right size (omega (arith, l))

-- a piece is whole where there are enough bytes
pub length-piece : (size i : ℕ) (bytes : List ℕ) → (i + 1) * size ≤ length bytes → length (piece size i bytes) ≡ size
length-piece size i bytes h = length-take-le size (drop (i * size) bytes) (omega (arith, h, suc-mul i size, length-drop (i * size) bytes))

-- the first of one piece is all
pub piece-whole : (size : ℕ) (bytes : List ℕ) → length bytes ≡ size → piece size 0 bytes ≡ bytes
piece-whole size bytes long = take_all size (drop (0 * size) bytes) (omega (arith, long, length-drop (0 * size) bytes)) ∙ ap (λ (n : ℕ). drop n bytes) (zero-mul size)

-- as long as all of them together
pub length-in_turn : {A : Type 0} (n size : ℕ) (gives : ℕ → List A) → ((i : ℕ) → i < n → length (gives i) ≡ size) → length (in_turn n gives) ≡ n * size
unfolding in_turn
length-in_turn zero size gives sizes = omega arith
length-in_turn (suc n) size gives sizes =
    let before = length-in_turn n size gives (λ i l. sizes i (omega (arith, l))) in
    let last = sizes n (omega arith) in
    omega (arith, before, last, length-append (in_turn n gives) (gives n), suc-mul n size)

-- the same where each gives the same
pub in_turn-same : {A : Type 0} (n : ℕ) (f g : ℕ → List A) → ((i : ℕ) → i < n → f i ≡ g i) → in_turn n f ≡ in_turn n g
unfolding in_turn
in_turn-same zero f g same = refl
in_turn-same {A} (suc n) f g same = ap₂ (λ (x y : List A). x ++ y) (in_turn-same n f g (λ i l. same i (omega (arith, l)))) (same n (omega arith))

-- one more, behind the others
pub in_turn-more : {A : Type 0} (n m : ℕ) (gives : ℕ → List A) → m ≡ n + 1 → in_turn m gives ≡ in_turn n gives ++ gives n
unfolding in_turn
in_turn-more n m gives e = ap (λ k. in_turn k gives) next
  where
    next : m ≡ suc n
    next = omega (arith, e)

-- the pieces one behind another are the whole
first_pieces : (n size : ℕ) (bytes : List ℕ) → in_turn n (λ i. piece size i bytes) ≡ take (n * size) bytes
unfolding in_turn
first_pieces zero size bytes = sym (ap (λ (j : ℕ). take j bytes) (zero-mul size))
first_pieces (suc n) size bytes =
    ap (λ l. l ++ piece size n bytes) (first_pieces n size bytes) ∙ sym (take-add (n * size) size bytes) ∙ ap (λ (j : ℕ). take j bytes) (sym (suc-mul n size))

-- the pieces of bytes, one behind another, are the bytes
pub in_turn-pieces : (n size : ℕ) (bytes : List ℕ) → length bytes ≡ n * size → in_turn n (λ i. piece size i bytes) ≡ bytes
in_turn-pieces n size bytes whole = first_pieces n size bytes ∙ take_all (n * size) bytes (omega (arith, whole))

-- bytes are all that is given, one behind another, where each piece is what is given in its turn
pub in_turn-of-pieces : (n size : ℕ) (bytes : List ℕ) (gives : ℕ → List ℕ) → length bytes ≡ n * size
    → ((i : ℕ) → i < n → piece size i bytes ≡ gives i) → bytes ≡ in_turn n gives
in_turn-of-pieces n size bytes gives whole each = sym (in_turn-pieces n size bytes whole) ∙ in_turn-same n (λ i. piece size i bytes) gives each

-- a piece as a range
pub piece-range : (size i : ℕ) (bytes : List ℕ) → slice_range bytes (i * size) ((i + 1) * size) ≡ piece size i bytes
piece-range size i bytes = ap (λ (k : ℕ). take k (drop (i * size) bytes)) (omega (arith, suc-mul i size))

-- one gives what it gives
pub in_turn-one : {A : Type 0} (gives : ℕ → List A) → in_turn 1 gives ≡ gives 0
unfolding in_turn
in_turn-one gives = refl

-- each is there in its turn
pub piece-in_turn : (n size i : ℕ) (gives : ℕ → List ℕ) → ((k : ℕ) → k < n → length (gives k) ≡ size) → i < n → piece size i (in_turn n gives) ≡ gives i
unfolding in_turn
piece-in_turn zero size i gives sizes l = absurd (omega (arith, l))
piece-in_turn (suc n) size i gives sizes l =
    let before : (k : ℕ) → k < n → length (gives k) ≡ size = λ k low. sizes k (omega (arith, low)) in
    let long = length-in_turn n size gives before in
    elim (cases_eq i n) [
      | inl same ↦
          let at : i * size ≡ length (in_turn n gives) = ap (λ (k : ℕ). k * size) same ∙ sym long in
          ap (take size) (ap (λ (k : ℕ). drop k (in_turn n gives ++ gives n)) at ∙ drop-append_seam (in_turn n gives) (gives n))
          ∙ take_all size (gives n) (omega (arith, sizes n (omega arith))) ∙ ap gives (sym same)
      | inr other ↦
          let low : i < n = omega (arith, l, other) in
          let room : (i + 1) * size ≤ n * size = mul-le-mul_right size (omega (arith, low)) in
          let step = suc-mul i size in
          let start : i * size ≤ length (in_turn n gives) = omega (arith, room, step, long) in
          let rest = length-drop (i * size) (in_turn n gives) in
          ap (take size) (drop-append-le (i * size) (in_turn n gives) (gives n) start)
          ∙ take-append-le size (drop (i * size) (in_turn n gives)) (gives n) (omega (arith, rest, room, step, long))
          ∙ piece-in_turn n size i gives before low
    ]

-- what is made of each member
pub map-in_turn : {A B : Type 0} (n : ℕ) (f : A → B) (gives : ℕ → List A) → map f (in_turn n gives) ≡ in_turn n (λ i. map f (gives i))
unfolding in_turn
map-in_turn zero f gives = refl
map-in_turn {A} {B} (suc n) f gives = map-append f (in_turn n gives) (gives n) ∙ ap (λ (l : List B). l ++ map f (gives n)) (map-in_turn n f gives)

-- what holds of all members of each
pub All-in_turn : {A : Type 0} (P : A → Type 0) (n : ℕ) (gives : ℕ → List A) → ((i : ℕ) → i < n → All P (gives i)) → All P (in_turn n gives)
unfolding in_turn
All-in_turn P zero gives each = All-nil P
All-in_turn P (suc n) gives each = All-append P (in_turn n gives) (gives n) (All-in_turn P n gives (λ i l. each i (omega (arith, l)))) (each n (omega arith))

-- a piece is written behind those before it
pub turn_written : (out row done : List ℕ) (start n m k width : ℕ) → start ≡ n * width → m ≡ n + 1 → m * width ≤ length out → length row ≡ width → take (n * width) out ≡ done
    → take (m * width) (put_mid start k out row) ≡ done ++ row
turn_written out row done start n m k width at e room size written =
    let step : m * width ≡ n * width + width = ap (λ k. k * width) next ∙ suc-mul n width in
    let prefix = take start out in
    let rest = drop k (drop start out) in
    let long : length prefix ≡ n * width = length-take-le start out (omega (arith, room, step, at)) ∙ at in
    let both : length (prefix ++ row) ≡ m * width = length-append prefix row ∙ omega (arith, long, size, step) in
    ap (take (m * width)) (sym (append_assoc prefix row rest))
    ∙ take_at (prefix ++ row) rest (m * width) both
    ∙ ap (λ (l : List ℕ). l ++ row) (ap (λ (j : ℕ). take j out) at ∙ written)
  where
    next : m ≡ suc n
    next = omega (arith, e)

-- and no byte more
pub turn_keeps : (out row : List ℕ) (start k : ℕ) → start + k ≤ length out → length row ≡ k → length (put_mid start k out row) ≡ length out
turn_keeps out row start k room size =
    omega (
      arith,
      length-append (take start out) (row ++ drop k (drop start out)),
      length-append row (drop k (drop start out)),
      length-take-le start out (omega (arith, room)),
      length-drop k (drop start out),
      length-drop start out,
      size,
      room,
    )

-- the bytes between the places of a piece and the next
pub piece_between : (i given size : ℕ) (bytes : List ℕ) → given ≡ size → take ((i + 1) * given - i * given) (drop (i * given) bytes) ≡ piece size i bytes
piece_between i given size bytes e =
    ap (λ (g : ℕ). take ((i + 1) * g - i * g) (drop (i * g) bytes)) e ∙ ap (λ (k : ℕ). take k (drop (i * size) bytes)) long
  where
    step : (i + 1) * size ≡ i * size + size
    step = ap (λ (k : ℕ). k * size) (omega arith) ∙ suc-mul i size

    long : (i + 1) * size - i * size ≡ size
    long = omega (arith, step)
