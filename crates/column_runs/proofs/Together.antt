-- Bytes whose low four bits and high four lie apart.
use Rattle.std.proofs.Common.{◌≡◌, ℕ, zero, suc, ◌+◌, ◌-◌, ◌*◌, ◌/◌, ◌<◌, ◌≤◌, inl, inr, List, [], ◌∷◌, length, map, get_or, set, bit_and, sym, ap, ap₂, subst, ◌∙◌, arith, lit<}
use Rattle.std.specs.Prelude.{replicate}
use Rattle.std.specs.Simd.Lanes.{zip2, chunk, put_chunk, Each1}
use Rattle.std.proofs.lemmas.Bool.{cases_lt}
use Rattle.std.proofs.lemmas.List.{length-map, get_or-map}
use Rattle.std.proofs.lemmas.Nat.{and_mask, mod_below}
use Rattle.std.proofs.lemmas.Simd.{length-zip2, length-chunk, get_or-zip2, get_or-chunk, get_or-put_chunk_at, get_or-put_chunk_below, zip2_splat, Each1-put_chunk, Each1-from_get_or}
use Rattle.gf256.specs.Field.{◌⊗◌}
use Rattle.gf256.specs.Rows.{multiple, AreLanes}
use Rattle.gf256.proofs.Lanes.{down, low_places, high_places}
use Rattle.column_runs.specs.Halves.{together, AreParts}

-- a byte is made of its low four bits and its high four
pub byte-together : (x : ℕ) → x / 16 * 16 + bit_and x 15 ≡ x
byte-together x =
    let low = and_mask x 4 in
    omega (arith, low)

-- the low four bits are below 16
pub low-small : (x : ℕ) → bit_and x 15 < 16
low-small x =
    let low = and_mask x 4 in
    omega (arith, low, mod_below x 16 (lit< tt))

-- a fact of each lane, where one lane is set
pub Each1-set : (P : ℕ → Type 0) (xs : List ℕ) (i y : ℕ) → Each1 P xs → P y → Each1 P (set xs i y)
Each1-set P [] i y each here = tt
Each1-set P (x ∷ xs) zero y each here = (here, each.1)
Each1-set P (x ∷ xs) (suc i) y each here = (each.0, Each1-set P xs i y each.1 here)

module _ (lows highs : List ℕ) (same : length lows ≡ length highs) where
  -- there are as many bytes as halves
  pub length-together : length (together lows highs) ≡ length lows
  length-together = length-zip2 (λ l h. h * 16 + l) lows highs same

  -- each is made of its own halves
  pub get_or-together : (k : ℕ) → k < length lows → get_or (together lows highs) k 0 ≡ get_or highs k 0 * 16 + get_or lows k 0
  get_or-together k l = get_or-zip2 (λ l h. h * 16 + l) lows highs k 0 0 0 l (omega (arith, l, same))

  -- the products of n of them
  pub products-together : (n f at : ℕ) → at + n ≤ length lows
      → AreLanes n (zip2 (λ l h. f ⊗ (h * 16 + l)) (chunk at n lows) (chunk at n highs)) (multiple (together lows highs) f) at
  products-together n f at room =
      let low = chunk at n lows in
      let high = chunk at n highs in
      let size_low = length-chunk at n lows room in
      let size_high = length-chunk at n highs (omega (arith, room, same)) in
      record {
        size = length-zip2 (λ l h. f ⊗ (h * 16 + l)) low high (size_low ∙ sym size_high) ∙ size_low;
        each = λ k l.
            get_or-zip2 (λ l h. f ⊗ (h * 16 + l)) low high k 0 0 0 (omega (arith, l, size_low)) (omega (arith, l, size_high))
            ∙ ap₂ (λ l h. f ⊗ (h * 16 + l)) (get_or-chunk at n lows k 0 l) (get_or-chunk at n highs k 0 l)
            ∙ ap (λ x. f ⊗ x) (sym (get_or-together (at + k) (omega (arith, l, room))));
      }

-- the halves of n bytes more, of which some may be there
pub parts-put : (n : ℕ) (lows highs bytes : List ℕ) (g : ℕ → ℕ) (at done : ℕ) → at ≤ done → at + n ≤ length lows → at + n ≤ length highs
    → ((c : ℕ) → g c < 256) → AreLanes n bytes g at → AreParts lows highs g done
    → AreParts (put_chunk at lows (zip2 bit_and bytes (replicate n 15))) (put_chunk at highs (zip2 down bytes (replicate n 4))) g (at + n)
parts-put n lows highs bytes g at done first room_low room_high small are parts =
    let low = zip2 bit_and bytes (replicate n 15) in
    let high = zip2 down bytes (replicate n 4) in
    let is_low : low ≡ map (λ x. bit_and x 15) bytes = zip2_splat bit_and bytes n 15 are.size in
    let is_high : high ≡ map (λ x. down x 4) bytes = zip2_splat down bytes n 4 are.size in
    let size_low = ap length is_low ∙ length-map bytes (λ x. bit_and x 15) ∙ are.size in
    let size_high = ap length is_high ∙ length-map bytes (λ x. down x 4) ∙ are.size in
    record {
      low = Each1-put_chunk (λ l. l < 16) at lows low parts.low (low_places bytes n are.size);
      high =
          Each1-put_chunk (λ h. h < 16) at highs high parts.high
          (high_places bytes n are.size
          (Each1-from_get_or (λ x. x < 256) bytes 0 (λ i l. subst (λ x. x < 256) (sym (are.each i (let size = are.size in omega (arith, l, size)))) (small (at + i)))));
      each = λ c l.
          elim (cases_lt c at) [
            | inl before ↦
                ap₂ (λ h l. h * 16 + l) (get_or-put_chunk_below at highs high c 0 before) (get_or-put_chunk_below at lows low c 0 before)
                ∙ parts.each c (omega (arith, before, first))
            | inr here ↦
                let k = c - at in
                let place : at + k ≡ c = omega (arith, here) in
                let within : k < n = omega (arith, l, here) in
                let inside : k < length bytes = let size = are.size in omega (arith, within, size) in
                subst (λ c. get_or (put_chunk at highs high) c 0 * 16 + get_or (put_chunk at lows low) c 0 ≡ g c) place
                (ap₂ (λ h l. h * 16 + l)
                (get_or-put_chunk_at at highs high k 0 (omega (arith, within, size_high)) (omega (arith, room_high, size_high))
                ∙ ap (λ v. get_or v k 0) is_high ∙ get_or-map (λ x. down x 4) bytes k 0 0 inside)
                (get_or-put_chunk_at at lows low k 0 (omega (arith, within, size_low)) (omega (arith, room_low, size_low))
                ∙ ap (λ v. get_or v k 0) is_low ∙ get_or-map (λ x. bit_and x 15) bytes k 0 0 inside)
                ∙ byte-together (get_or bytes k 0) ∙ are.each k within)
          ];
    }
