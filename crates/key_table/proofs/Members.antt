-- The members of a list, by its first one and the rest, and of a filtered list.
use Rattle.std.proofs.Common.{◌≡◌, ◌⊎◌, inl, inr, ℕ, zero, suc, ◌<◌, Bool, true, false, cond, List, [], ◌∷◌, length, get_or, filter, Contains, refl, sym, ap, subst, ◌∙◌, arith}

module _ {X : Type 0} where
  -- the first one is a member
  pub Contains-here : (x : X) (xs : List X) → Contains (x ∷ xs) x
  Contains-here x xs = (0, omega arith, refl)

  -- a member of the rest is one of the whole
  pub Contains-there : (x y : X) (xs : List X) → Contains xs y → Contains (x ∷ xs) y
  Contains-there x y xs h = (suc h.0, omega (arith, h.1), h.2)

  -- no list without members has one
  pub Contains-none : (y : X) → Contains [] y → ⊥
  Contains-none y h = omega (arith, h.1)

  -- a member is the first one or of the rest
  pub Contains-cases : (x y : X) (xs : List X) → Contains (x ∷ xs) y → (x ≡ y) ⊎ Contains xs y
  Contains-cases x y xs h = at h.0 h.1 h.2
    where
      at : (k : ℕ) → k < length (x ∷ xs) → get_or (x ∷ xs) k y ≡ y → (x ≡ y) ⊎ Contains xs y
      at zero lt is = inl is
      at (suc k) lt is = inr (k, omega (arith, lt), is)

  -- a member of the rest that is kept is a member of what is kept
  kept_there : (b : Bool) (x y : X) (ys : List X) → Contains ys y → Contains (cond b (x ∷ ys) ys) y
  kept_there true x y ys h = Contains-there x y ys h
  kept_there false x y ys h = h

  -- a member that passes is kept
  pub Contains-kept : (p : X → Bool) (xs : List X) (y : X) → Contains xs y → p y ≡ true → Contains (filter p xs) y
  Contains-kept p [] y h passes = absurd (Contains-none y h)
  Contains-kept p (x ∷ xs) y h passes = elim (Contains-cases x y xs h) [
    | inl is ↦ subst (λ ys. Contains ys y) (sym (ap (λ b. cond b (x ∷ filter p xs) (filter p xs)) (ap p is ∙ passes)))
        (subst (λ z. Contains (x ∷ filter p xs) z) is (Contains-here x (filter p xs)))
    | inr there ↦ kept_there (p x) x y (filter p xs) (Contains-kept p xs y there passes)
  ]

  -- a member of what is kept is the first one or a member of the rest that is kept
  unkept_cases : (b : Bool) (x y : X) (ys : List X) → Contains (cond b (x ∷ ys) ys) y → (x ≡ y) ⊎ Contains ys y
  unkept_cases true x y ys h = Contains-cases x y ys h
  unkept_cases false x y ys h = inr h

  -- what is kept is a member
  pub Contains-unkept : (p : X → Bool) (xs : List X) (y : X) → Contains (filter p xs) y → Contains xs y
  Contains-unkept p [] y h = h
  Contains-unkept p (x ∷ xs) y h = elim (unkept_cases (p x) x y (filter p xs) h) [
    | inl is ↦ subst (λ z. Contains (x ∷ xs) z) is (Contains-here x xs)
    | inr there ↦ Contains-there x y xs (Contains-unkept p xs y there)
  ]
