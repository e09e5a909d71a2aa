-- When longer vectors differ.
use Rattle.std.proofs.Common.{◌≡◌, ◌≢◌, ℕ, List, [], ◌∷◌, ◌++◌, length, take, get_or, refl, sym, ap, ◌∙◌}
use Rattle.std.proofs.Math.Seq.{take-append_seam}
use Rattle.std.proofs.lemmas.List.{get_or_push}

-- longer vectors differ where what they begin with does
pub differ_by_beginning : (v w ps qs : List (List ℕ)) → length v ≡ length w → v ≢ w → v ++ ps ≢ w ++ qs
differ_by_beginning v w ps qs same differ equal =
    differ (sym (take-append_seam v ps) ∙ ap (take (length v)) equal ∙ ap (λ n. take n (w ++ qs)) same
    ∙ take-append_seam w qs)

-- and where their last polynomials do
pub differ_by_last : (v : List (List ℕ)) (p q : List ℕ) → p ≢ q → v ++ p ∷ [] ≢ v ++ q ∷ []
differ_by_last v p q differ equal =
    differ (sym (get_or_push v p [] (length v) refl) ∙ ap (λ w. get_or w (length v) []) equal
    ∙ get_or_push v q [] (length v) refl)
