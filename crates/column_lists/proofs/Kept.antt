-- What a filter keeps of a list.
use Rattle.std.proofs.Common.{◌≡◌, zero, suc, Bool, true, false, cond, List, [], ◌∷◌, map, Contains, refl, ap, ◌∙◌, arith}
use Rattle.std.specs.List.{filter}
use Rattle.std.proofs.lemmas.Bool.{false≢true}

-- a first element, kept or not, before a list
map-cond : {X Y : Type 0} (f : X → Y) (b : Bool) (x : X) (xs : List X) → map f (cond b (x ∷ xs) xs) ≡ cond b (f x ∷ map f xs) (map f xs)
map-cond f true x xs = refl
map-cond f false x xs = refl

-- a filter by what the test says of the images
pub map-filter : {X Y : Type 0} (f : X → Y) (test : Y → Bool) (xs : List X) → map f (filter (λ x. test (f x)) xs) ≡ filter test (map f xs)
map-filter f test [] = refl
map-filter f test (x ∷ xs) =
    map-cond f (test (f x)) x (filter (λ x. test (f x)) xs) ∙ ap (λ ys. cond (test (f x)) (f x ∷ ys) ys) (map-filter f test xs)

-- a member stays behind what may stand in front
Contains-cond : {X : Type 0} (b : Bool) (y : X) (ys : List X) (x : X) → Contains ys x → Contains (cond b (y ∷ ys) ys) x
Contains-cond true y ys x c = (suc c.0, let l = c.1 in omega arith, c.2)
Contains-cond false y ys x c = c

-- what stands in front is a member
Contains-first : {X : Type 0} (b : Bool) (y : X) (ys : List X) (x : X) → b ≡ true → y ≡ x → Contains (cond b (y ∷ ys) ys) x
Contains-first true y ys x t e = (0, omega arith, e)
Contains-first false y ys x t e = absurd (false≢true t)

-- what passes the test stays
pub Contains-filter : {X : Type 0} (test : X → Bool) (xs : List X) (x : X) → Contains xs x → test x ≡ true → Contains (filter test xs) x
Contains-filter test [] x c t = let l = c.1 in absurd (omega arith)
Contains-filter test (y ∷ xs) x (zero, l, e) t = Contains-first (test y) y (filter test xs) x (ap test e ∙ t) e
Contains-filter test (y ∷ xs) x (suc k, l, e) t =
    Contains-cond (test y) y (filter test xs) x (Contains-filter test xs x (k, omega arith, e) t)
