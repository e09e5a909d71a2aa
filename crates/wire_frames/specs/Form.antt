-- How far bytes go in a form. A form says which bytes spell which value.
use Rattle.std.specs.Prelude.{ℕ, ◌+◌, ◌-◌, ◌<◌, ◌≤◌, List, ◌++◌, length, take, drop, Result, Ok, Err}

-- the bytes begin a spelling of some value
pub record Starts {A : Type 0} (Form : List ℕ → A → Type 0) (bytes : List ℕ) : Type 0 where
  pub rest : List ℕ
  pub value : A
  pub whole : Form (bytes ++ rest) value

-- the longest prefix of the bytes that begins a spelling has this length
pub record StopsAt {A : Type 0} (Form : List ℕ → A → Type 0) (bytes : List ℕ) (place : ℕ) : Type 0 where
  pub within : place ≤ length bytes
  pub begins : Starts Form (take place bytes)
  pub longest : (n : ℕ) → place < n → n ≤ length bytes → Starts Form (take n bytes) → ⊥

-- what a reading answers: the value that the bytes spell, or the place up to which they are right
abbrev pub Reads : {A : Type 0} → (List ℕ → A → Type 0) → List ℕ → Result A ℕ → Type 0
Reads Form bytes (Ok value) = Form bytes value
Reads {A} Form bytes (Err place) = StopsAt Form bytes place × ((value : A) → Form bytes value → ⊥)

-- the bytes from one place on, of which there are enough or not, are right up to another
pub record StopsWithin
    {A : Type 0} (Form : List ℕ → A → Type 0) (at width : ℕ) (bytes : List ℕ) (place : ℕ)
    : Type 0 where
  pub after : at ≤ place
  pub before : place < at + width
  pub stops : StopsAt Form (take width (drop at bytes)) (place - at)

-- the same of a reading of so many bytes from one place on
abbrev pub ReadsAt : {A : Type 0} → (List ℕ → A → Type 0) → ℕ → ℕ → List ℕ → Result A ℕ → Type 0
ReadsAt Form at width bytes (Ok value) = Form (take width (drop at bytes)) value
ReadsAt Form at width bytes (Err place) = StopsWithin Form at width bytes place
