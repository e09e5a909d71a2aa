-- Rows of differences, of which one is set after the other.
use Rattle.std.proofs.Common.{◌≡◌, ℕ, ◌+◌, ◌<◌, ◌≤◌, List, [], ◌++◌, take, drop, Vec, Global, length, map, get_or, set, All, inl, inr, sym, ap, subst, ◌∙◌, arith, below_more}
use Rattle.std.proofs.lemmas.Bool.{cases_eq}
use Rattle.std.specs.Vec.{with_items}
use Rattle.std.proofs.Math.Seq.{take-append_seam}
use Rattle.std.proofs.lemmas.List.{get_or-map, get_or-set_same, get_or-set_other, length-map, get_or_default}

-- the bytes of a vector in a list of them
pub items_at : (ds : List (Vec ℕ Global)) (i : ℕ) (d : Vec ℕ Global) → i < length ds
    → (get_or ds i d).items ≡ get_or (map (λ (d : Vec ℕ Global). d.items) ds) i []
items_at ds i d l = sym (get_or-map (λ (d : Vec ℕ Global). d.items) ds i d [] l)

-- there are as many rows as lists
pub length-items : (ds : List (Vec ℕ Global)) → length (map (λ (d : Vec ℕ Global). d.items) ds) ≡ length ds
length-items ds = length-map ds (λ (d : Vec ℕ Global). d.items)

module _ (ds : List (List ℕ)) (i : ℕ) (row : List ℕ) (within : i < length ds) where
  -- a row of the same size is set
  pub sizes-set : length row ≡ length (get_or ds i []) → (j : ℕ) → length (get_or (set ds i row) j []) ≡ length (get_or ds j [])
  sizes-set same j =
      elim (cases_eq j i) [
        | inl here ↦
            subst (λ j. length (get_or (set ds i row) j []) ≡ length (get_or ds j [])) (sym here)
            (ap length (get_or-set_same ds i row [] within) ∙ same)
        | inr other ↦ ap length (get_or-set_other ds i j row [] other)
      ]

  -- one row more for which something holds
  pub each-set : (Is : ℕ → List ℕ → Type 0) → Is i row → ((j : ℕ) → j < i → Is j (get_or ds j []))
      → (j : ℕ) → j < i + 1 → Is j (get_or (set ds i row) j [])
  each-set Is here before =
      below_more (λ j. Is j (get_or (set ds i row) j [])) i
      (λ j l. subst (Is j) (sym (get_or-set_other ds i j row [] (λ e. omega (arith, l, e)))) (before j l))
      (subst (Is i) (sym (get_or-set_same ds i row [] within)) here)

-- the bytes of a vector in which as many are written
pub items-with : (v : Vec ℕ Global) (row : List ℕ) → length row ≡ length v.items → (with_items v row).items ≡ row
items-with v row same =
    let size : v.len ≡ length row = omega (arith, same, v.ok.0) in
    ap (λ n. take n (row ++ drop (length row) v.items)) size ∙ take-append_seam row (drop (length row) v.items)

-- where their sizes stay, they keep their room
pub room_kept : (old new : List (List ℕ)) (n : ℕ) → length new ≡ length old
    → ((i : ℕ) → length (get_or new i []) ≡ length (get_or old i []))
    → All (λ d. n ≤ length d) old → All (λ d. n ≤ length d) new
room_kept old new n count sizes room = λ k d l.
    let m : k < length old = omega (arith, l, count) in
    let here = ap length (get_or_default new k d [] l) in
    let enough = room k [] m in
    let same = sizes k in
    omega (arith, here, enough, same)
