-- Counters that nobody reads.
use Rattle.std.specs.Prelude.{◌≡◌, ℕ, ◌<◌}
use Rattle.std.specs.declared.sync.ledger.Blank.{Blank}

-- the blank is that of the ledger with this name, in so many parts, and has one or more
abbrev pub IsOwn : Blank → ℕ → ℕ → Type 0
IsOwn blank name parts = (blank.name ≡ name) × (blank.parts ≡ parts) × (0 < blank.parts)
