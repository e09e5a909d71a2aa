-- Multiples of a row added to another, in pieces.
use Rattle.std.proofs.Common.{◌≡◌, ℕ, ◌+◌, ◌≤◌, List, length, get_or, bit_xor, map, refl, ap, ◌∙◌, arith}
use Rattle.std.specs.Simd.Lanes.{zip2, chunk, put_chunk}
use Rattle.std.proofs.lemmas.List.{get_or_past}
use Rattle.gf256.specs.Field.{◌⊗◌}
use Rattle.gf256.specs.Rows.{multiple, IsAdded, AreLanes}
use Rattle.gf256.proofs.FieldLaws.{mul_zero}
use Rattle.gf256.proofs.LaneSums.{lanes-of, lanes-times, lanes-put}

-- past the end of a row its multiples are 0
pub multiple-past : (row : List ℕ) (f k : ℕ) → length row ≤ k → multiple row f k ≡ 0
multiple-past row f k l = ap (λ x. f ⊗ x) (get_or_past row k 0 l) ∙ mul_zero f

-- the products of n places
pub times-lanes : (n : ℕ) (row products : List ℕ) (f at : ℕ) → at + n ≤ length row → products ≡ map (λ x. f ⊗ x) (chunk at n row)
    → AreLanes n products (multiple row f) at
times-lanes n row products f at room e = lanes-times (chunk at n row) products (λ k. get_or row k 0) f at e (lanes-of n row at room)

-- n places at once, of which some may be done; `base` is what was read there
pub multiple-put : (n : ℕ) (acc old base row products : List ℕ) (f from start to : ℕ)
    → from ≤ start → start + n ≤ length acc → length base ≡ length acc → length row ≡ length acc → start ≤ to → to ≤ start + n
    → ((k : ℕ) → start ≤ k → get_or base k 0 ≡ get_or old k 0)
    → products ≡ map (λ x. f ⊗ x) (chunk start n row) → IsAdded acc old (multiple row f) from to
    → IsAdded (put_chunk start acc (zip2 bit_xor (chunk start n base) products)) old (multiple row f) from (start + n)
multiple-put n acc old base row products f from start to first room same long low high read e done =
    lanes-put n acc old base products (multiple row f) from start to first room same low high read
    (times-lanes n row products f start (omega arith) e) done

-- the next n places at once
pub added-next : (n : ℕ) (acc old row products : List ℕ) (f from at : ℕ) → from ≤ at → at + n ≤ length acc → length row ≡ length acc
    → products ≡ map (λ x. f ⊗ x) (chunk at n row) → IsAdded acc old (multiple row f) from at
    → IsAdded (put_chunk at acc (zip2 bit_xor (chunk at n acc) products)) old (multiple row f) from (at + n)
added-next n acc old row products f from at first room same e done =
    multiple-put n acc old acc row products f from at at first room refl same (omega arith) (omega arith) done.after e done
