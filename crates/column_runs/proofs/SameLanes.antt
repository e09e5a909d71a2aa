-- Lanes whose differences are all 0.
use Rattle.std.proofs.Common.{◌≡◌, ℕ, zero, suc, ◌<◌, List, [], ◌∷◌, length, get_or, bit_xor, sym, ◌∙◌, arith}
use Rattle.std.specs.Int.Bits.{bit_or}
use Rattle.std.specs.Simd.Lanes.{zip2, fold_l}
use Rattle.std.proofs.lemmas.List.{same_lists}
use Rattle.std.proofs.lemmas.Nat.{le_or_l, le_or_r}
use Rattle.std.proofs.lemmas.Simd.{length-zip2, get_or-zip2}
use Rattle.gf256.specs.Field.{◌⊕◌}
use Rattle.gf256.proofs.Xor.{add-eq-zero}

-- an OR of bytes that is 0 is one of zeros
or-zero : (a b : ℕ) → bit_or a b ≡ 0 → (a ≡ 0) × (b ≡ 0)
or-zero a b e =
    let l = le_or_l a b in
    let m = le_or_r a b in
    (omega (arith, l, e), omega (arith, m, e))

-- where all bits together are 0, each is
fold_or-zero : (xs : List ℕ) (a : ℕ) → fold_l bit_or a xs ≡ 0 → (a ≡ 0) × ((k d : ℕ) → k < length xs → get_or xs k d ≡ 0)
fold_or-zero [] a e = (e, λ k d l. absurd (omega (arith, l)))
fold_or-zero (x ∷ xs) a e =
    let rest = fold_or-zero xs (bit_or a x) e in
    let first = or-zero a x rest.0 in
    (first.0, at first.1 rest.1)
  where
    at : x ≡ 0 → ((k d : ℕ) → k < length xs → get_or xs k d ≡ 0) → (k d : ℕ) → k < length (x ∷ xs) → get_or (x ∷ xs) k d ≡ 0
    at here later zero d l = here
    at here later (suc k) d l = later k d (omega (arith, l))

-- each lane is 0
abbrev AreZeros : List ℕ → Type 0
AreZeros xs = (k d : ℕ) → k < length xs → get_or xs k d ≡ 0

-- where no lanes differ, they are the same
same_from_zeros : (xs ys : List ℕ) → length xs ≡ length ys → AreZeros (zip2 bit_xor xs ys) → xs ≡ ys
unfolding ◌⊕◌
same_from_zeros xs ys size zeros =
    let n = length-zip2 bit_xor xs ys size in
    same_lists xs ys size (λ k d l.
    let m : k < length ys = omega (arith, l, size) in
    add-eq-zero (get_or xs k d) (get_or ys k d)
    (sym (get_or-zip2 bit_xor xs ys k d d d l m) ∙ zeros k d (omega (arith, n, l))))

pub same_from_or : (xs ys : List ℕ) → length xs ≡ length ys → fold_l bit_or 0 (zip2 bit_xor xs ys) ≡ 0 → xs ≡ ys
same_from_or xs ys size e = same_from_zeros xs ys size (fold_or-zero (zip2 bit_xor xs ys) 0 e).1

-- where the bits of two vectors together are 0, both are
both-zeros : (xs ys : List ℕ) → length xs ≡ length ys → AreZeros (zip2 bit_or xs ys) → AreZeros xs × AreZeros ys
both-zeros xs ys size zeros =
    let n = length-zip2 bit_or xs ys size in
    let at : (k d : ℕ) → k < length xs → (get_or xs k d ≡ 0) × (get_or ys k d ≡ 0) = λ k d l.
    or-zero (get_or xs k d) (get_or ys k d)
    (sym (get_or-zip2 bit_or xs ys k d d d l (omega (arith, l, size))) ∙ zeros k d (omega (arith, n, l))) in
    (λ k d l. (at k d l).0, λ k d l. (at k d (omega (arith, l, size))).1)

-- where the differences of four vectors from four others are 0 together, the vectors are the same
pub four_same : (n : ℕ) (a b c d e f g h : List ℕ)
    → length a ≡ n → length b ≡ n → length c ≡ n → length d ≡ n → length e ≡ n → length f ≡ n → length g ≡ n → length h ≡ n
    → fold_l bit_or 0 (zip2 bit_or (zip2 bit_or (zip2 bit_xor a e) (zip2 bit_xor b f)) (zip2 bit_or (zip2 bit_xor c g) (zip2 bit_xor d h))) ≡ 0
    → (a ≡ e) × (b ≡ f) × (c ≡ g) × (d ≡ h)
four_same n a b c d e f g h la lb lc ld le lf lg lh none =
    let ae = length-zip2 bit_xor a e (la ∙ sym le) ∙ la in
    let bf = length-zip2 bit_xor b f (lb ∙ sym lf) ∙ lb in
    let cg = length-zip2 bit_xor c g (lc ∙ sym lg) ∙ lc in
    let dh = length-zip2 bit_xor d h (ld ∙ sym lh) ∙ ld in
    let front = length-zip2 bit_or (zip2 bit_xor a e) (zip2 bit_xor b f) (ae ∙ sym bf) ∙ ae in
    let back = length-zip2 bit_or (zip2 bit_xor c g) (zip2 bit_xor d h) (cg ∙ sym dh) ∙ cg in
    let all = (fold_or-zero (zip2 bit_or (zip2 bit_or (zip2 bit_xor a e) (zip2 bit_xor b f)) (zip2 bit_or (zip2 bit_xor c g) (zip2 bit_xor d h))) 0 none).1 in
    let halves = both-zeros (zip2 bit_or (zip2 bit_xor a e) (zip2 bit_xor b f)) (zip2 bit_or (zip2 bit_xor c g) (zip2 bit_xor d h)) (front ∙ sym back) all in
    let ab = both-zeros (zip2 bit_xor a e) (zip2 bit_xor b f) (ae ∙ sym bf) halves.0 in
    let cd = both-zeros (zip2 bit_xor c g) (zip2 bit_xor d h) (cg ∙ sym dh) halves.1 in
    (same_from_zeros a e (la ∙ sym le) ab.0, same_from_zeros b f (lb ∙ sym lf) ab.1, same_from_zeros c g (lc ∙ sym lg) cd.0, same_from_zeros d h (ld ∙ sym lh) cd.1)
