-- The vanishing polynomial: its size, its zeros, and its value.
use Rattle.std.proofs.Common.{◌≡◌, ◌≢◌, ℕ, zero, suc, ◌+◌, ◌<◌, ◌≤◌, ◌⊎◌, inl, inr, List, [], ◌∷◌, length, get_or, take, drop, fold, All, AllPairs, Contains, sym, ap, ◌∙◌, arith, add-one}
use Rattle.std.proofs.Math.Seq.{drop-cons}
use Rattle.std.proofs.lemmas.List.{get_or-take, get_or_default, length-take-le}
use Rattle.std.proofs.lemmas.List.Elements.{All-head, All-tail, All-take}
use Rattle.std.proofs.lemmas.Bool.{cases_eq}
use Rattle.std.proofs.lemmas.List.Sums.{fold_more}
use Rattle.gf256.specs.Field.{◌⊕◌, ◌⊗◌}
use Rattle.gf256.specs.Polynomial.{val}
use Rattle.gf256.proofs.FieldLaws.{mul_comm, mul_assoc, mul_one, one_mul}
use Rattle.uni_poly.specs.Product.{linear, product, vanishing}
use Rattle.uni_poly.proofs.Values.{val_lt, val_one}
use Rattle.uni_poly.proofs.LinearFactor.{val-product_linear, product_linear-root, product_linear-zero, product_linear-other, length-product_linear}

-- p times x - a for each member a
times_all : List ℕ → List ℕ → List ℕ
times_all p xs = fold (λ q a. product q (linear a)) p xs

-- it is longer by one for each member
length-times_all : (p xs : List ℕ) → length (times_all p xs) ≡ length p + length xs
unfolding times_all
length-times_all p [] = omega arith
length-times_all p (x ∷ xs) =
    let ih = length-times_all (product p (linear x)) xs in
    let first = length-product_linear p x in
    omega (arith, ih, first)

-- it is 0 where p is
times_all-zero : (p xs : List ℕ) (a : ℕ) → val p a ≡ 0 → val (times_all p xs) a ≡ 0
unfolding times_all
times_all-zero p [] a e = e
times_all-zero p (x ∷ xs) a e = times_all-zero (product p (linear x)) xs a (product_linear-zero p x a e)

-- it is 0 at each member
times_all-member : (p xs : List ℕ) (k : ℕ) → k < length xs → val (times_all p xs) (get_or xs k 0) ≡ 0
unfolding times_all
times_all-member p [] k l = absurd (omega arith)
times_all-member p (x ∷ xs) zero l = times_all-zero (product p (linear x)) xs x (product_linear-root p x)
times_all-member p (x ∷ xs) (suc k) l = times_all-member (product p (linear x)) xs k (omega arith)

-- it is 0 nowhere else
times_all-root : (p xs : List ℕ) (a : ℕ) → a < 256 → All (λ x. x < 256) xs → val (times_all p xs) a ≡ 0 → (val p a ≡ 0) ⊎ Contains xs a
unfolding times_all
times_all-root p [] a l bytes e = inl e
times_all-root p (x ∷ xs) a l bytes e =
    elim (times_all-root (product p (linear x)) xs a l (All-tail (λ x. x < 256) x xs bytes) e) [
      | inr later ↦ inr (suc later.0, omega (arith, later.1), later.2)
      | inl first ↦
          elim (cases_eq x a) [
            | inl same ↦ inr (0, omega arith, same)
            | inr differ ↦ inl (product_linear-other p x a (All-head (λ x. x < 256) x xs bytes) l differ first)
          ]
    ]

-- it has one coefficient more than xs has members
pub length-vanishing : (xs : List ℕ) → length (vanishing xs) ≡ length xs + 1
unfolding vanishing times_all
length-vanishing xs = let e = length-times_all (1 ∷ []) xs in omega (arith, e)

-- one member more
pub vanishing_more : (xs : List ℕ) (i : ℕ) → i < length xs → product (vanishing (take i xs)) (linear (get_or xs i 0)) ≡ vanishing (take (i + 1) xs)
unfolding vanishing
vanishing_more xs i l = sym (fold_more (λ p a. product p (linear a)) (1 ∷ []) xs i 0 l)

-- the members are roots
pub vanishing-member : (xs : List ℕ) (k : ℕ) → k < length xs → val (vanishing xs) (get_or xs k 0) ≡ 0
unfolding vanishing times_all
vanishing-member xs k l = times_all-member (1 ∷ []) xs k l

-- each byte that is a root is a member
pub Contains-from_root : (xs : List ℕ) (a : ℕ) → a < 256 → All (λ x. x < 256) xs → val (vanishing xs) a ≡ 0 → Contains xs a
unfolding vanishing times_all
Contains-from_root xs a l bytes e =
    elim (times_all-root (1 ∷ []) xs a l bytes e) [
      | inl none ↦ let one = val_one a in absurd (omega (arith, one, none))
      | inr member ↦ member
    ]

-- each member is a root
pub root_from_Contains : (xs : List ℕ) (a : ℕ) → Contains xs a → val (vanishing xs) a ≡ 0
root_from_Contains xs a member =
    ap (val (vanishing xs)) (sym member.2 ∙ get_or_default xs member.0 a 0 member.1) ∙ vanishing-member xs member.0 member.1

-- ---- the vanishing polynomial of the first members

-- its length
pub vanishing_take-length : (xs : List ℕ) (i : ℕ) → i < length xs → length (vanishing (take i xs)) ≡ i + 1
vanishing_take-length xs i l = length-vanishing (take i xs) ∙ ap (λ n. n + 1) (length-take-le i xs (omega arith))

-- the members before are roots
pub vanishing_take-before : (xs : List ℕ) (i k : ℕ) → k < i → i ≤ length xs → val (vanishing (take i xs)) (get_or xs k 0) ≡ 0
vanishing_take-before xs i k l m =
    let size = length-take-le i xs m in
    ap (val (vanishing (take i xs))) (sym (get_or-take i xs k 0 l)) ∙ vanishing-member (take i xs) k (omega (arith, size))

-- the next member is none, where no two are equal
pub vanishing_take-next : (xs : List ℕ) (i : ℕ) → i < length xs → All (λ x. x < 256) xs → AllPairs (λ x y. x ≢ y) xs
    → val (vanishing (take i xs)) (get_or xs i 0) ≢ 0
vanishing_take-next xs i l bytes d e =
    let x = get_or xs i 0 in
    let size = length-take-le i xs (omega arith) in
    let member = Contains-from_root (take i xs) x (bytes i 0 l) (All-take (λ x. x < 256) i xs bytes) e in
    let before : member.0 < i = let m = member.1 in omega (arith, size, m) in
    d member.0 i x before l (sym (get_or-take i xs member.0 x before) ∙ member.2 ∙ get_or_default xs i 0 x l)

-- ---- the value as a product of differences

-- a factor of 1 changes nothing
one_between : (d v rest : ℕ) → v ≡ 1 → rest < 256 → (d ⊗ v) ⊗ rest ≡ d ⊗ rest
one_between d v rest one small = ap (λ x. (d ⊗ x) ⊗ rest) one ∙ mul_assoc d 1 rest ∙ ap (λ x. d ⊗ x) (one_mul rest small)

-- the value of p times x - b for each member b
val-times_all : (p xs : List ℕ) (a : ℕ) → val (times_all p xs) a ≡ val p a ⊗ val (vanishing xs) a
unfolding vanishing times_all
val-times_all p [] a = sym (ap (λ v. val p a ⊗ v) (val_one a) ∙ mul_one (val p a) (val_lt p a))
val-times_all p (x ∷ xs) a =
    let rest = val (vanishing xs) a in
    let d = a ⊕ x in
    let left : val (fold (λ q b. product q (linear b)) (product p (linear x)) xs) a ≡ (d ⊗ val p a) ⊗ rest =
    val-times_all (product p (linear x)) xs a ∙ ap (λ v. v ⊗ rest) (val-product_linear p x a) in
    let right : val (fold (λ q b. product q (linear b)) (product (1 ∷ []) (linear x)) xs) a ≡ d ⊗ rest =
    val-times_all (product (1 ∷ []) (linear x)) xs a ∙ ap (λ v. v ⊗ rest) (val-product_linear (1 ∷ []) x a)
    ∙ one_between d (val (1 ∷ []) a) rest (val_one a) (val_lt (vanishing xs) a) in
    left ∙ ap (λ v. v ⊗ rest) (mul_comm d (val p a)) ∙ mul_assoc (val p a) d rest ∙ sym (ap (λ v. val p a ⊗ v) right)

-- the first member's difference, times the product over the others
val-vanishing_first : (x : ℕ) (xs : List ℕ) (a : ℕ) → val (vanishing (x ∷ xs)) a ≡ (a ⊕ x) ⊗ val (vanishing xs) a
unfolding vanishing times_all
val-vanishing_first x xs a =
    val-times_all (product (1 ∷ []) (linear x)) xs a
    ∙ ap (λ v. v ⊗ val (vanishing xs) a) (val-product_linear (1 ∷ []) x a)
    ∙ one_between (a ⊕ x) (val (1 ∷ []) a) (val (vanishing xs) a) (val_one a) (val_lt (vanishing xs) a)

-- one member more, from behind
pub vanishing_drop-more : (xs : List ℕ) (i a : ℕ) → i < length xs
    → (a ⊕ get_or xs i 0) ⊗ val (vanishing (drop (i + 1) xs)) a ≡ val (vanishing (drop i xs)) a
vanishing_drop-more xs i a l =
    sym
    (ap (λ ys. val (vanishing ys) a) (drop-cons xs i 0 l ∙ ap (λ n. get_or xs i 0 ∷ drop n xs) (sym (add-one i)))
    ∙ val-vanishing_first (get_or xs i 0) (drop (i + 1) xs) a)

-- the product over none
pub vanishing_none : (xs : List ℕ) (a : ℕ) → length xs ≡ 0 → 1 ≡ val (vanishing xs) a
unfolding vanishing
vanishing_none [] a none = sym (val_one a)
vanishing_none (x ∷ xs) a none = absurd (omega (arith, none))
