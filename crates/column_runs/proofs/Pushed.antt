-- Lists that grow at their end.
use Rattle.std.proofs.Common.{◌≡◌, ◌+◌, ◌<◌, ◌++◌, ◌∷◌, ℕ, List, [], length, get_or, below_more, sym, ap, ◌∙◌, arith}
use Rattle.std.proofs.lemmas.List.{get_or_append_left}
use Rattle.std.proofs.Math.Seq.{get_or-append_seam}

-- one that f gives at its place, behind those that it gives at theirs
pub each_more : (made more : List ℕ) (n x : ℕ) (f : ℕ → ℕ) → length made ≡ n → more ≡ made ++ x ∷ [] → x ≡ f n
    → ((i : ℕ) → i < n → get_or made i 0 ≡ f i) → (i : ℕ) → i < n + 1 → get_or more i 0 ≡ f i
each_more made more n x f size e here before =
    below_more (λ i. get_or more i 0 ≡ f i) n
    (λ i l. ap (λ fs. get_or fs i 0) e ∙ get_or_append_left made (x ∷ []) 0 i (omega (arith, l, size)) ∙ before i l)
    (ap (λ fs. get_or fs n 0) e ∙ ap (λ j. get_or (made ++ x ∷ []) j 0) (sym size) ∙ get_or-append_seam made x [] 0 ∙ here)
