-- Readings one after another: each `do` block of the forms has a value that is given, or a test, on
-- each line.
use Rattle.std.specs.Prelude.{Bool, Option, None, option_and_then, if◌then◌else◌}

infixr 10 ◌>>=◌
infixr 10 ◌>>◌
-- what is read with a value, where there is one
abbrev pub ◌>>=◌ : {A B : Type 0} → Option A → (A → Option B) → Option B
value >>= next = option_and_then next value

-- what is read next, where the test holds
abbrev pub ◌>>◌ : {A : Type 0} → Bool → Option A → Option A
test >> next = if test then next else None
