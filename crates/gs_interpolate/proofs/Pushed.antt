-- A list that grew at its end.
use Rattle.std.proofs.Common.{◌≡◌, ℕ, ◌+◌, ◌<◌, List, [], ◌∷◌, ◌++◌, length, get_or, sym, ap, subst, ◌∙◌, arith, below_more}
use Rattle.std.proofs.lemmas.List.{length_push, get_or_push, get_or_append_left}

-- it is longer by one
pub pushed_size : {X : Type 0} (old new : List X) (x : X) (i : ℕ) → new ≡ old ++ x ∷ [] → length old ≡ i → length new ≡ i + 1
pushed_size old new x i is size = ap length is ∙ length_push old x ∙ ap (λ (n : ℕ). n + 1) size

-- what holds at each place before, and at the new one
pub pushed_each : {X : Type 0} (P : ℕ → X → Type 0) (d : X) (old new : List X) (x : X) (i : ℕ) → new ≡ old ++ x ∷ [] → length old ≡ i
    → ((k : ℕ) → k < i → P k (get_or old k d)) → P i x → (k : ℕ) → k < i + 1 → P k (get_or new k d)
pushed_each P d old new x i is size before here =
    below_more (λ k. P k (get_or new k d)) i
    (λ k l. subst (P k) (sym (ap (λ xs. get_or xs k d) is ∙ get_or_append_left old (x ∷ []) d k (omega (arith, size, l)))) (before k l))
    (subst (P i) (sym (ap (λ xs. get_or xs i d) is ∙ get_or_push old x d i size)) here)
