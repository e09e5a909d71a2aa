-- Rows that are gathered by their factor, the query's byte for them, before they are added.
use Rattle.std.specs.Prelude.{◌≡◌, ℕ, ◌<◌, ⊤, List, [], ◌∷◌, length, slice_index, Option, None, Some}
use Rattle.gf256.specs.Field.{◌⊕◌}
use Rattle.server_product.specs.Runs.{term}
use Rattle.server_product.specs.declared.gather.Three.{Three}
use Rattle.server_product.specs.declared.gather.UpToThree.{UpToThree}
use Rattle.server_product.specs.declared.gather.UpToSix.{UpToSix}
use Rattle.server_product.specs.declared.gather.Leftover.{Leftover}
use Rattle.server_product.specs.declared.gather.UpToThree.TheVariants.{Empty, One, Two, All}

-- what three rows give to column c
unfoldable pub three_sum : List ℕ → List (List ℕ) → ℕ → Three → ℕ
three_sum query rows c three =
    term query rows c three.a ⊕ term query rows c three.b ⊕ term query rows c three.c

-- what a few rows give to it
unfoldable pub few_sum : List ℕ → List (List ℕ) → ℕ → UpToThree → ℕ
few_sum query rows c Empty = 0
few_sum query rows c (One a) = term query rows c a
few_sum query rows c (Two a b) = term query rows c a ⊕ term query rows c b
few_sum query rows c (All three) = three_sum query rows c three

-- what three rows give to it, where there are some
unfoldable pub held_sum : List ℕ → List (List ℕ) → ℕ → Option Three → ℕ
held_sum query rows c None = 0
held_sum query rows c (Some three) = three_sum query rows c three

-- what the rest give to it
unfoldable pub rest_sum : List ℕ → List (List ℕ) → ℕ → UpToSix → ℕ
rest_sum query rows c rest = held_sum query rows c rest.three ⊕ few_sum query rows c rest.few

-- what all rows that wait give to it
unfoldable pub waiting_sum : List ℕ → List (List ℕ) → ℕ → List UpToThree → ℕ
waiting_sum query rows c [] = 0
waiting_sum query rows c (few ∷ waiting) =
    few_sum query rows c few ⊕ waiting_sum query rows c waiting

-- a few rows give what others give, where there are some, to each column of each product
abbrev pub GiveAlike : UpToThree → Option Three → Type 0
GiveAlike few held = (query : List ℕ) (rows : List (List ℕ)) (c : ℕ)
    → few_sum query rows c few ≡ held_sum query rows c held

-- row j was gathered: sums, the rows that are held and those that wait give what it gives more than
-- before
abbrev pub GathersRow : List ℕ → List (List ℕ) → ℕ
    → List ℕ × Option Three × List UpToThree → List ℕ × Option Three × List UpToThree → Type 0
GathersRow query rows j old new = (c : ℕ)
    → slice_index new.0 c ⊕ held_sum query rows c new.1 ⊕ waiting_sum query rows c new.2
    ≡ slice_index old.0 c ⊕ held_sum query rows c old.1 ⊕ waiting_sum query rows c old.2
    ⊕ term query rows c j

-- all of them were added
abbrev pub AddsWaiting : List ℕ → List (List ℕ) → List ℕ × Option Three × List UpToThree → List ℕ → Type 0
AddsWaiting query rows old new = (c : ℕ) → slice_index new c
    ≡ slice_index old.0 c ⊕ held_sum query rows c old.1 ⊕ waiting_sum query rows c old.2

-- three rows were added or held: sums and the rows that are held give what they give more than before
abbrev pub Holds : List ℕ → List (List ℕ) → Three
    → List ℕ × Option Three → List ℕ × Option Three → Type 0
Holds query rows three old new = (c : ℕ)
    → slice_index new.0 c ⊕ held_sum query rows c new.1
    ≡ slice_index old.0 c ⊕ held_sum query rows c old.1 ⊕ three_sum query rows c three

-- a few rows were added or left with others: the same of sums and what is left
abbrev pub Leaves : List ℕ → List (List ℕ) → UpToThree → List ℕ × Leftover → List ℕ × Leftover → Type 0
Leaves query rows few old new = (c : ℕ)
    → slice_index new.0 c ⊕ held_sum query rows c new.1.held ⊕ rest_sum query rows c new.1.rest
    ≡ slice_index old.0 c ⊕ held_sum query rows c old.1.held ⊕ rest_sum query rows c old.1.rest
    ⊕ few_sum query rows c few

-- row j was left with the rest: the same of sums and the rest
abbrev pub LeavesRow : List ℕ → List (List ℕ) → ℕ → List ℕ × UpToSix → List ℕ × UpToSix → Type 0
LeavesRow query rows j old new = (c : ℕ)
    → slice_index new.0 c ⊕ rest_sum query rows c new.1
    ≡ slice_index old.0 c ⊕ rest_sum query rows c old.1 ⊕ term query rows c j

-- a row for which the query has a byte, which is f
abbrev pub IsOf : List ℕ → ℕ → ℕ → Type 0
IsOf query f row = (row < length query) × (slice_index query row ≡ f)

-- three rows of the factor f
pub record AreOf (query : List ℕ) (f : ℕ) (three : Three) : Type 0 where
  pub a : IsOf query f three.a
  pub b : IsOf query f three.b
  pub c : IsOf query f three.c

-- a few rows of the factor f
abbrev pub FewAreOf : List ℕ → ℕ → UpToThree → Type 0
FewAreOf query f Empty = ⊤
FewAreOf query f (One a) = IsOf query f a
FewAreOf query f (Two a b) = IsOf query f a × IsOf query f b
FewAreOf query f (All three) = AreOf query f three

-- three rows of the same factor, where there are some
abbrev pub HeldAreAlike : List ℕ → Option Three → Type 0
HeldAreAlike query None = ⊤
HeldAreAlike query (Some three) = AreOf query (slice_index query three.a) three

-- three rows for which the query has bytes
abbrev pub ThreeAreRows : List ℕ → Three → Type 0
ThreeAreRows query three =
    (three.a < length query) × (three.b < length query) × (three.c < length query)

-- a few rows for which it has bytes
abbrev pub AreRows : List ℕ → UpToThree → Type 0
AreRows query Empty = ⊤
AreRows query (One a) = a < length query
AreRows query (Two a b) = (a < length query) × (b < length query)
AreRows query (All three) = ThreeAreRows query three

-- three rows for which it has bytes, where there are some
abbrev pub HeldAreRows : List ℕ → Option Three → Type 0
HeldAreRows query None = ⊤
HeldAreRows query (Some three) = ThreeAreRows query three

-- a rest of such rows
abbrev pub RestAreRows : List ℕ → UpToSix → Type 0
RestAreRows query rest = HeldAreRows query rest.three × AreRows query rest.few
