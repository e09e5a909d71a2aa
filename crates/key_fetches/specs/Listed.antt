-- What the verdicts of a look-up's fetches say of the row with the key.
use Rattle.std.specs.Prelude.{◌≡◌, List, [], ◌∷◌, ℕ, map, Option, Some, None, is_none, if◌then◌else◌}
use Rattle.std.specs.List.{find}
use Rattle.block_decoder.specs.declared.verdict.Verdict.{Verdict}
use Rattle.block_decoder.specs.declared.verdict.Verdict.TheVariants.{Listed, TooFew, TooWeak, TooCostly}
use Rattle.key_search.specs.Answers.{row_with, rows_told}
use Rattle.key_fetches.specs.declared.looked_up.Ending.{Ending}
use Rattle.key_fetches.specs.declared.looked_up.Ending.TheVariants.{Unlisted, Found, Absent}

-- the block of a list of one
abbrev pub only_of : List (List ℕ) → Option (List ℕ)
only_of [] = None
only_of (block ∷ []) = Some block
only_of (block ∷ (more ∷ blocks)) = None

-- the block of a verdict that lists exactly one
abbrev pub only_block : Verdict → Option (List ℕ)
only_block (Listed blocks) = only_of blocks
only_block (TooFew k h) = None
only_block (TooWeak k t h) = None
only_block (TooCostly equations) = None

-- the verdict, where it doesn't list exactly one block
abbrev pub unlisted_of : Verdict → Option Verdict
unlisted_of verdict = if is_none (only_block verdict) then Some verdict else None

-- the blocks of the verdicts that list exactly one
abbrev pub blocks_listed : List Verdict → List (List ℕ)
blocks_listed verdicts = rows_told (map only_block verdicts)

-- the first of the verdicts that doesn't list exactly one block
abbrev pub first_unlisted : List Verdict → Option Verdict
first_unlisted verdicts = find (λ verdict. is_none (only_block verdict)) verdicts

-- what a look-up came to: the first verdict that didn't list exactly one block, if there was one, and the first of the
-- blocks listed that begins with the key
pub record Ended : Type 0 where
  pub unlisted : Option Verdict
  pub found : Option (List ℕ)

-- what it comes to by the verdicts of its fetches
abbrev pub end_by : List ℕ → List Verdict → Ended
end_by key verdicts = record { unlisted = first_unlisted verdicts; found = row_with key (blocks_listed verdicts) }

-- what it comes to where each row that was asked for was listed alone: the row with the key, or none
abbrev pub end_among : List ℕ → List (List ℕ) → Ended
end_among key rows = record { unlisted = None; found = row_with key rows }

-- how it ends: with the verdict; else with the block; else with none
abbrev pub EndsAs : Ended → Ending → Type 0
EndsAs ended (Unlisted verdict) = ended.unlisted ≡ Some verdict.now
EndsAs ended (Found block) = (ended.unlisted ≡ None) × (ended.found ≡ Some block.now)
EndsAs ended Absent = (ended.unlisted ≡ None) × (ended.found ≡ None)
