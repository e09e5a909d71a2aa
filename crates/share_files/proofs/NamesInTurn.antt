-- The names of the shares' files.
use Rattle.std.proofs.Common.{◌≡◌, ◌∙◌, ℕ, ◌+◌, List, [], ◌∷◌, ◌++◌, map, sym, ap, arith}
use Rattle.std.specs.List.{range_with_len}
use Rattle.std.proofs.lemmas.List.FromFn.{map-range_with_len_more}
use Rattle.std.proofs.lemmas.List.{map-append}
use Rattle.share_files.specs.SplitPlan.{share_name}

-- the name of the next file comes behind those before it
pub name_next : {X : Type 0} (f : X → List ℕ) (into : List ℕ) (i : ℕ) (xs : List X) (x : X)
    → map f xs ≡ map (share_name into) (range_with_len 1 i) → f x ≡ share_name into (i + 1)
    → map f (xs ++ x ∷ []) ≡ map (share_name into) (range_with_len 1 (i + 1))
name_next f into i xs x so_far next =
    map-append f xs (x ∷ []) ∙ ap (λ l. l ++ f x ∷ []) so_far ∙ ap (λ a. map (share_name into) (range_with_len 1 i) ++ a ∷ []) next
    ∙ sym (map-range_with_len_more (share_name into) 1 i (i + 1) (omega arith))
