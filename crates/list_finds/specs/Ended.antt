-- How a search ends.
use Rattle.std.specs.Prelude.{◌≡◌, None, Some}
use Rattle.list_finds.specs.Answers.{HasNoBroken, IsFirstBroken}
use Rattle.list_finds.specs.Found.{Come}
use Rattle.list_finds.specs.declared.finds.Ending.{Ending}
use Rattle.list_finds.specs.declared.finds.Ending.TheVariants.{Unlisted, BrokenRow, Settled}

-- with the first verdict that doesn't list exactly one block; else with the first row that is none of the list; else
-- settled
abbrev pub EndsAs : Come → Ending → Type 0
EndsAs come (Unlisted unlisted) = come.unlisted ≡ Some unlisted.now
EndsAs come (BrokenRow i) = (come.unlisted ≡ None) × IsFirstBroken come.answers i
EndsAs come Settled = (come.unlisted ≡ None) × HasNoBroken come.answers
