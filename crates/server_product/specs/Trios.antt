-- Three rows of one factor at once.
use Rattle.std.specs.Prelude.{◌≡◌, ℕ, List, slice_index}
use Rattle.gf256.specs.Field.{◌⊕◌, ◌⊗◌}
use Rattle.server_product.specs.declared.trios.Trio.{Trio}

-- place k of the sum of three rows, times their factor
unfoldable pub trio_at : Trio → ℕ → ℕ
trio_at trio k =
    trio.factor ⊗ (slice_index trio.a.now k ⊕ slice_index trio.b.now k ⊕ slice_index trio.c.now k)

-- `new` is `old` plus both trios, place by place
abbrev pub AddsTrios : Trio → Trio → List ℕ → List ℕ → Type 0
AddsTrios first second old new =
    (k : ℕ) → slice_index new k ≡ slice_index old k ⊕ trio_at first k ⊕ trio_at second k
