-- The words that parts of one text are.
use Rattle.std.proofs.Common.{◌≡◌, ℕ, ◌-◌, ◌≤◌, List, [], ◌∷◌, ◌++◌, length, map, take, drop, refl, sym, ◌∙◌, ap, arith, length-append}
use Rattle.std.specs.Prelude.{All, slice_range}
use Rattle.std.specs.List.{AllByRecursion}
use Rattle.std.proofs.lemmas.List.{take-append-le, drop_at, take_all, map_push}
use Rattle.std.proofs.lemmas.List.Elements.{recursion_from_All}
use Rattle.std.proofs.lemmas.Slice.{between_is}
use Rattle.pir_ports.specs.WordsInside.{LiesIn}
use Rattle.pir_ports.specs.declared.words.Span.{Span}

-- more behind a part leaves it as it is
pub range-append : {A : Type 0} (xs ys : List A) (i j : ℕ) → j ≤ length xs
    → slice_range (xs ++ ys) i j ≡ slice_range xs i j
range-append xs ys i j le = between_is (xs ++ ys) i j ∙ ap (drop i) (take-append-le j xs ys le) ∙ sym (between_is xs i j)

-- the part put behind is what was put behind
pub last_range : {A : Type 0} (xs ys : List A) (i j : ℕ) → i ≡ length xs → j ≡ length (xs ++ ys)
    → slice_range (xs ++ ys) i j ≡ ys
last_range {A} xs ys i j from to =
    ap (λ (l : List A). take (j - i) l) (drop_at xs ys i (sym from)) ∙ take_all (j - i) ys (omega (arith, from, to, length-append xs ys))

-- what parts of a list give, in their order, stays with more behind the list
pub spans-append : {A : Type 0} (xs ys : List A) (spans : List Span) → AllByRecursion (LiesIn (length xs)) spans
    → map (λ (s : Span). slice_range (xs ++ ys) s.from s.to) spans ≡ map (λ (s : Span). slice_range xs s.from s.to) spans
spans-append xs ys [] all = refl
spans-append xs ys (s ∷ spans) all = λ i. range-append xs ys s.from s.to all.0.to i ∷ spans-append xs ys spans all.1 i

-- a part more, which is what was put behind the list
pub spans-push : {A : Type 0} (xs ys : List A) (spans : List Span) (s : Span) → All (LiesIn (length xs)) spans
    → s.from ≡ length xs → s.to ≡ length (xs ++ ys)
    → map (λ (s : Span). slice_range (xs ++ ys) s.from s.to) (spans ++ s ∷ []) ≡ map (λ (s : Span). slice_range xs s.from s.to) spans ++ ys ∷ []
spans-push {A} xs ys spans s all from to =
    map_push (λ (s : Span). slice_range (xs ++ ys) s.from s.to) spans s
    ∙ ap (λ (l : List (List A)). l ++ slice_range (xs ++ ys) s.from s.to ∷ []) (spans-append xs ys spans (recursion_from_All (LiesIn (length xs)) spans all))
    ∙ ap (λ (l : List A). map (λ (s : Span). slice_range xs s.from s.to) spans ++ l ∷ []) (last_range xs ys s.from s.to from to)
