-- Lists whose elements are related pairwise: the first with the others, and the others.
use Rattle.std.proofs.Common.{zero, suc, ◌<◌, List, [], ◌∷◌, ◌++◌, length, map, get_or, All, AllPairs, sym, subst, arith}
use Rattle.std.proofs.lemmas.List.{length-map, get_or-map}
use Rattle.std.proofs.lemmas.List.Elements.{All-head, All-tail, All-append}
use Rattle.std.proofs.lemmas.List.Kept.{AllPairs-cons}

module _ {X : Type 0} (R : X → X → Type 0) where
  -- it holds of all pairs of none
  pub AllPairs-nil : AllPairs R []
  AllPairs-nil i j d before within = absurd (omega arith)

  -- of the first with each behind it
  pub AllPairs-head : (x : X) (xs : List X) → AllPairs R (x ∷ xs) → All (R x) xs
  AllPairs-head x xs pairs j d within = pairs zero (suc j) d (omega arith) (omega arith)

  -- and of all pairs behind the first
  pub AllPairs-tail : (x : X) (xs : List X) → AllPairs R (x ∷ xs) → AllPairs R xs
  AllPairs-tail x xs pairs i j d before within = pairs (suc i) (suc j) d (omega arith) (omega arith)

  -- the images of elements are related where the elements are
  pub AllPairs-map : {Y : Type 0} (f : Y → X) (ys : List Y) → AllPairs (λ y z. R (f y) (f z)) ys
      → AllPairs R (map f ys)
  AllPairs-map f [] pairs i j d before within = absurd (omega arith)
  AllPairs-map f (y ∷ ys) pairs i j d before within =
      let size = length-map (y ∷ ys) f in
      let l : j < length (y ∷ ys) = omega (arith, within, size) in
      subst (λ x. R x (get_or (map f (y ∷ ys)) j d))
      (sym (get_or-map f (y ∷ ys) i y d (omega (arith, before, l))))
      (subst (R (f (get_or (y ∷ ys) i y))) (sym (get_or-map f (y ∷ ys) j y d l)) (pairs i j y before l))

  -- and the elements where their images are
  pub AllPairs-from_map : {Y : Type 0} (f : Y → X) (ys : List Y) → AllPairs R (map f ys)
      → AllPairs (λ y z. R (f y) (f z)) ys
  AllPairs-from_map f ys pairs i j d before within =
      let size = length-map ys f in
      let m : j < length (map f ys) = omega (arith, within, size) in
      subst (λ x. R x (f (get_or ys j d))) (get_or-map f ys i d (f d) (omega (arith, before, within)))
      (subst (R (get_or (map f ys) i (f d))) (get_or-map f ys j d (f d) within) (pairs i j (f d) before m))

  -- one list behind another, where each of the one is related with each of the other
  pub AllPairs-append : (xs ys : List X) → AllPairs R xs → AllPairs R ys → All (λ x. All (R x) ys) xs
      → AllPairs R (xs ++ ys)
  AllPairs-append [] ys first second across = second
  AllPairs-append (x ∷ xs) ys first second across =
      AllPairs-cons R x (xs ++ ys)
      (All-append (R x) xs ys (AllPairs-head x xs first) (All-head (λ x. All (R x) ys) x xs across))
      (AllPairs-append xs ys (AllPairs-tail x xs first) second (All-tail (λ x. All (R x) ys) x xs across))
