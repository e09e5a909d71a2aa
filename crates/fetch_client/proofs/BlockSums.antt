-- The sum of payloads that hold several rows, row by row.
use Rattle.std.proofs.Common.{◌≡◌, ℕ, zero, suc, ◌+◌, ◌-◌, ◌*◌, ◌<◌, List, [], ◌++◌, length, map, get_or, inl, inr, sym, ap, ◌∙◌, arith, length-append, get_or-append-add, suc-mul, zero-mul}
use Rattle.std.proofs.lemmas.Bool.{cases_lt}
use Rattle.std.proofs.lemmas.List.{ext_get_or, length-map, get_or-map, get_or_append_left}
use Rattle.std.proofs.lemmas.List.FromFn.{length-map-range_with_len, get_or-map-range_with_len}
use Rattle.std.proofs.Math.Seq.{get_or-take, get_or-drop}
use Rattle.gf256.specs.Sums.{sum_to}
use Rattle.gf256.proofs.Sums.{sum_to-same}
use Rattle.wire_frames.specs.Turns.{in_turn, piece}
use Rattle.chor_xor.specs.Chosen.{combined_at, combined}

-- as many bytes as asked for
length-combined : (width : ℕ) (payloads : List (List ℕ)) → length (combined width payloads) ≡ width
unfolding combined
length-combined width payloads = length-map-range_with_len (combined_at payloads) 0 width

-- one of them
combined-byte : (width : ℕ) (payloads : List (List ℕ)) (c : ℕ) → c < width → get_or (combined width payloads) c 0 ≡ combined_at payloads c
unfolding combined
combined-byte width payloads c l = get_or-map-range_with_len (combined_at payloads) 0 width c c 0 l (omega arith)

-- a byte of a piece of each payload
piece-byte : (payloads : List (List ℕ)) (size n d c : ℕ) → d < size → c ≡ n * size + d → combined_at (map (piece size n) payloads) d ≡ combined_at payloads c
unfolding combined_at
piece-byte payloads size n d c l e =
    let pieces = map (piece size n) payloads in
    ap (sum_to (λ i. get_or (get_or pieces i []) d 0)) (length-map payloads (piece size n))
    ∙ sum_to-same _ _ (length payloads) (λ i low.
    ap (λ (x : List ℕ). get_or x d 0) (get_or-map (piece size n) payloads i [] [] low)
    ∙ get_or-take size _ d 0 l ∙ get_or-drop (n * size) (get_or payloads i []) d 0 ∙ ap (λ (k : ℕ). get_or (get_or payloads i []) k 0) (sym e))

-- one row more
combined-more : (payloads : List (List ℕ)) (size n whole : ℕ) → whole ≡ n * size + size
    → combined whole payloads ≡ combined (n * size) payloads ++ combined size (map (piece size n) payloads)
combined-more payloads size n whole e =
    let first = combined (n * size) payloads in
    let last = combined size (map (piece size n) payloads) in
    let m = length-combined (n * size) payloads in
    let k = length-combined size (map (piece size n) payloads) in
    let w = length-combined whole payloads in
    ext_get_or 0 (combined whole payloads) (first ++ last) (w ∙ e ∙ sym (length-append first last ∙ omega (arith, m, k))) (λ c l.
    combined-byte whole payloads c (omega (arith, l, w))
    ∙ elim (cases_lt c (n * size)) [
      | inl low ↦ sym (get_or_append_left first last 0 c (omega (arith, low, m)) ∙ combined-byte (n * size) payloads c low)
      | inr high ↦
          let d = c - n * size in
          let place : c ≡ n * size + d = omega (arith, high) in
          let inside : d < size = omega (arith, l, w, e, high) in
          let at : c ≡ length first + d = omega (arith, place, m) in
          sym (ap (λ (j : ℕ). get_or (first ++ last) j 0) at ∙ get_or-append-add first last d 0
          ∙ combined-byte size (map (piece size n) payloads) d inside ∙ piece-byte payloads size n d c inside place)
    ])

-- the sums of the rows, one behind another
pub combined-in_turn : (n size : ℕ) (payloads : List (List ℕ)) → combined (n * size) payloads ≡ in_turn n (λ v. combined size (map (piece size v) payloads))
unfolding in_turn
combined-in_turn zero size payloads = ap (λ (w : ℕ). combined w payloads) (zero-mul size) ∙ nothing payloads
  where
    nothing : (payloads : List (List ℕ)) → combined 0 payloads ≡ []
    nothing payloads = ext_get_or 0 (combined 0 payloads) [] (length-combined 0 payloads) (λ c l. absurd (omega (arith, l, length-combined 0 payloads)))
combined-in_turn (suc n) size payloads =
    combined-more payloads size n (suc n * size) (suc-mul n size)
    ∙ ap (λ (l : List ℕ). l ++ combined size (map (piece size n) payloads)) (combined-in_turn n size payloads)
