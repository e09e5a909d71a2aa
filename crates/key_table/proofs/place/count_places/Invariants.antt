use Rattle.std.proofs.Common.{◌≡◌, ◌<◌, ℕ, get_or}
use Rattle.key_table.specs.Numbered.{bare, numbers}
use Rattle.key_table.proofs.place.count_places.Given as goal

-- the places before i are their indices, and each has the number that it had
abbrev pub invariant-loop-i : goal.invariant-loop-i
invariant-loop-i l = (numbers l.places ≡ numbers l.fn.places) × ((k : ℕ) → k < l.i → get_or (bare l.places) k 0 ≡ k)
