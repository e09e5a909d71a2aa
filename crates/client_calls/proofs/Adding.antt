-- Text to which pieces are added.
use Rattle.std.proofs.Common.{◌≡◌, ◌∙◌, ℕ, List, ◌++◌, ap, append_assoc}
use Rattle.std.specs.Prelude.{Result, Ok, Err, OnOk, is_ok, if◌then◌else◌}
use Rattle.std.specs.declared.alloc.AllocError.{AllocError}

-- a piece is added, or there was no memory
pub adds : (result : Result (Unit {0}) AllocError) (old new piece : List ℕ) → new ≡ (if is_ok result then old ++ piece else old)
    → OnOk result (new ≡ old ++ piece)
adds (Ok done) old new piece is = is
adds (Err fault) old new piece is = tt

-- a piece behind one that was added
pub adds_behind : (result : Result (Unit {0}) AllocError) (old between new first second : List ℕ) → between ≡ old ++ first
    → OnOk result (new ≡ between ++ second) → OnOk result (new ≡ old ++ (first ++ second))
adds_behind (Ok done) old between new first second before is = is ∙ ap (λ (l : List ℕ). l ++ second) before ∙ append_assoc old first second
adds_behind (Err fault) old between new first second before is = tt
