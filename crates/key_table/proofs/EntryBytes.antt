-- Entries one behind another.
use Rattle.std.proofs.Common.{◌≡◌, ℕ, suc, ◌+◌, ◌*◌, ◌≤◌, List, [], ◌∷◌, ◌++◌, length, take, drop, All, refl, sym, ap, ap₂, ◌∙◌, arith, take_at, drop_at, zero-mul}
use Rattle.std.specs.List.{flat_map}
use Rattle.std.proofs.lemmas.List.{length-append}
use Rattle.std.proofs.lemmas.List.Elements.{All-head, All-tail, All-weaker}
use Rattle.key_table.specs.Entry.{Pair, HasSizes, IsPair, entry, entry_size, value_bytes}
use Rattle.key_table.proofs.Values.{length-value_bytes, value_unique}

-- an entry is the digest and the value's bytes
pub entry-is : (most : ℕ) (p : Pair) → entry most p ≡ p.digest ++ value_bytes most p.value
unfolding entry
entry-is most p = refl

-- the sizes of a pair are those of its digest and its value
pub sizes_of_pair : (size most : ℕ) (p : Pair) → IsPair size most p → HasSizes size most p
sizes_of_pair size most p is = record { digest_size = is.digest_size; few = is.is_value.few }

-- and of several pairs
pub sizes_of_pairs : (size most : ℕ) (ps : List Pair) → All (IsPair size most) ps → All (HasSizes size most) ps
sizes_of_pairs size most ps all = All-weaker (IsPair size most) (HasSizes size most) (sizes_of_pair size most) ps all

-- its length
pub length-entry : (size most : ℕ) (p : Pair) → HasSizes size most p → length (entry most p) ≡ entry_size size most
length-entry size most p is =
    ap length (entry-is most p) ∙ length-append p.digest (value_bytes most p.value)
    ∙ ap₂ (λ x y. x + y) is.digest_size (length-value_bytes most p.value is.few)

-- its first bytes are the digest
pub entry-front : (size most : ℕ) (p : Pair) → IsPair size most p → take size (entry most p) ≡ p.digest
entry-front size most p is = ap (take size) (entry-is most p) ∙ take_at p.digest (value_bytes most p.value) size is.digest_size

-- the others are the value's bytes
pub entry-back : (size most : ℕ) (p : Pair) → IsPair size most p → drop size (entry most p) ≡ value_bytes most p.value
entry-back size most p is = ap (drop size) (entry-is most p) ∙ drop_at p.digest (value_bytes most p.value) size is.digest_size

-- two pairs with one entry are one
pub entry-unique : (size most : ℕ) (p q : Pair) → most ≤ 16384 → IsPair size most p → IsPair size most q → entry most p ≡ entry most q → p ≡ q
entry-unique size most p q few a b is =
    let digests : p.digest ≡ q.digest = sym (entry-front size most p a) ∙ ap (take size) is ∙ entry-front size most q b in
    let values : value_bytes most p.value ≡ value_bytes most q.value = sym (entry-back size most p a) ∙ ap (drop size) is ∙ entry-back size most q b in
    ap₂ (λ (d v : List ℕ). record { digest = d; value = v }) digests (value_unique most p.value q.value few a.is_value b.is_value values)

-- how many bytes so many entries have
pub length-entries : (size most : ℕ) (ps : List Pair) → All (HasSizes size most) ps → length (flat_map (entry most) ps) ≡ length ps * entry_size size most
length-entries size most [] all = sym (zero-mul (entry_size size most))
length-entries size most (p ∷ ps) all =
    let here = length-entry size most p (All-head (HasSizes size most) p ps all) in
    let there = length-entries size most ps (All-tail (HasSizes size most) p ps all) in
    let both = length-append (entry most p) (flat_map (entry most) ps) in
    let next : suc (length ps) * entry_size size most ≡ entry_size size most + length ps * entry_size size most = grind arith in
    both ∙ ap₂ (λ x y. x + y) here there ∙ sym next

-- two lists of pairs with the same entries are one
pub entries-unique : (size most : ℕ) (ps qs : List Pair) → most ≤ 16384 → 1 ≤ size → All (IsPair size most) ps → All (IsPair size most) qs
    → flat_map (entry most) ps ≡ flat_map (entry most) qs → ps ≡ qs
entries-unique size most [] [] few some a b is = refl
entries-unique size most [] (q ∷ qs) few some a b is =
    let here = length-entry size most q (sizes_of_pair size most q (All-head (IsPair size most) q qs b)) in
    let both = length-append (entry most q) (flat_map (entry most) qs) in
    absurd (omega (arith, here, both, ap length is, some))
entries-unique size most (p ∷ ps) [] few some a b is =
    let here = length-entry size most p (sizes_of_pair size most p (All-head (IsPair size most) p ps a)) in
    let both = length-append (entry most p) (flat_map (entry most) ps) in
    absurd (omega (arith, here, both, ap length is, some))
entries-unique size most (p ∷ ps) (q ∷ qs) few some a b is =
    let ip = All-head (IsPair size most) p ps a in
    let iq = All-head (IsPair size most) q qs b in
    let step = entry_size size most in
    let first : entry most p ≡ entry most q =
    sym (take_at (entry most p) (flat_map (entry most) ps) step (length-entry size most p (sizes_of_pair size most p ip))) ∙ ap (take step) is
    ∙ take_at (entry most q) (flat_map (entry most) qs) step (length-entry size most q (sizes_of_pair size most q iq)) in
    let rest : flat_map (entry most) ps ≡ flat_map (entry most) qs =
    sym (drop_at (entry most p) (flat_map (entry most) ps) step (length-entry size most p (sizes_of_pair size most p ip))) ∙ ap (drop step) is
    ∙ drop_at (entry most q) (flat_map (entry most) qs) step (length-entry size most q (sizes_of_pair size most q iq)) in
    ap₂ (λ x xs. x ∷ xs) (entry-unique size most p q few ip iq first)
    (entries-unique size most ps qs few some (All-tail (IsPair size most) p ps a) (All-tail (IsPair size most) q qs b) rest)
