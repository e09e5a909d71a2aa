-- The answers that stand in two slices have columns.
use Rattle.std.proofs.Common.{◌≡◌, ℕ, suc, ◌*◌, ◌<◌, List, [], ◌∷◌, length, take, drop, All, arith}
use Rattle.std.specs.List.Sorted.{IsStrictlyIncreasing}
use Rattle.std.proofs.lemmas.List.Elements.{All-cons, All-nil, All-take, All-drop}
use Rattle.wire_frames.specs.Answer.{Answer}
use Rattle.block_decoder.specs.Agreed.{answers_of, HasColumns}
use Rattle.block_decoder.proofs.Agreed.{filled-answers_of, different-answers_of}

-- what is in the payloads are bytes
bytes-answers_of : (width : ℕ) (indices bytes : List ℕ) → All (λ b. b < 256) bytes → All (λ (a : Answer). All (λ b. b < 256) a.payload) (answers_of width indices bytes)
bytes-answers_of width [] bytes h = All-nil (λ (a : Answer). All (λ b. b < 256) a.payload)
bytes-answers_of width (index ∷ indices) bytes h =
    All-cons (λ (a : Answer). All (λ b. b < 256) a.payload) (record { index = index; payload = take width bytes }) (answers_of width indices (drop width bytes))
    (All-take (λ b. b < 256) width bytes h) (bytes-answers_of width indices (drop width bytes) (All-drop (λ b. b < 256) width bytes h))

-- what holds of each index
pub indices-answers_of : (P : ℕ → Type 0) (width : ℕ) (indices bytes : List ℕ) → All P indices → All (λ (a : Answer). P a.index) (answers_of width indices bytes)
indices-answers_of P width [] bytes h = All-nil (λ (a : Answer). P a.index)
indices-answers_of P width (index ∷ indices) bytes h =
    All-cons (λ (a : Answer). P a.index) (record { index = index; payload = take width bytes }) (answers_of width indices (drop width bytes))
    (h 0 0 (omega arith)) (indices-answers_of P width indices (drop width bytes) (λ i d l. h (suc i) d (omega (arith, l))))

-- payloads of so many bytes, from different indices
pub columns-answers_of : (width : ℕ) (indices bytes : List ℕ) → IsStrictlyIncreasing indices → length bytes ≡ length indices * width → All (λ x. x < 256) indices → All (λ b. b < 256) bytes
    → HasColumns width (answers_of width indices bytes)
columns-answers_of width indices bytes ascending fit small_indices small_bytes = record {
  filled = filled-answers_of width indices bytes fit;
  bytes = bytes-answers_of width indices bytes small_bytes;
  indices = indices-answers_of (λ x. x < 256) width indices bytes small_indices;
  different = different-answers_of width indices bytes ascending;
}
