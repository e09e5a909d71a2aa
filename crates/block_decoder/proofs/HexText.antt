-- The hex text of bytes in pieces.
use Rattle.std.proofs.Common.{◌≡◌, ◌∙◌, ℕ, List, [], ◌∷◌, ◌++◌, ◌+◌, ◌/◌, ◌%◌, slice_index, take, drop, refl, sym, ap, take-append-drop}
use Rattle.std.proofs.Math.Seq.{take-add}
use Rattle.hex.specs.Hex.{encode_lower, encode_with, lower_digits}

-- what is encoded of two lists is that of each
pub encode_with-append : (t xs ys : List ℕ) → encode_with t (xs ++ ys) ≡ encode_with t xs ++ encode_with t ys
unfolding encode_with
encode_with-append t [] ys = refl
encode_with-append t (x ∷ xs) ys = ap (λ zs. slice_index t (x / 16) ∷ slice_index t (x % 16) ∷ zs) (encode_with-append t xs ys)

-- nothing is encoded as nothing
pub encode_lower-nil : encode_lower [] ≡ []
unfolding encode_with
encode_lower-nil = refl

-- the text of the front, and one more piece
pub encode_lower-take : (at size : ℕ) (bytes : List ℕ) → encode_lower (take (at + size) bytes) ≡ encode_lower (take at bytes) ++ encode_lower (take size (drop at bytes))
encode_lower-take at size bytes = ap encode_lower (take-add at size bytes) ∙ encode_with-append lower_digits (take at bytes) (take size (drop at bytes))

-- the text of the front, of one more piece, and of the rest
pub encode_lower-pieces : (at size : ℕ) (bytes : List ℕ)
    → encode_lower bytes ≡ encode_lower (take at bytes) ++ (encode_lower (take size (drop at bytes)) ++ encode_lower (drop size (drop at bytes)))
encode_lower-pieces at size bytes =
    ap encode_lower (sym (take-append-drop at bytes)) ∙ encode_with-append lower_digits (take at bytes) (drop at bytes)
    ∙ ap (λ l. encode_lower (take at bytes) ++ l)
    (ap encode_lower (sym (take-append-drop size (drop at bytes))) ∙ encode_with-append lower_digits (take size (drop at bytes))
    (drop size (drop at bytes)))
