-- What the program does, by its words.
use Rattle.std.specs.Prelude.{◌≡◌, List, Ok, Err}
use Rattle.port_trait.specs.World.{World}
use Rattle.clap.specs.Words.{Text}
use Rattle.list_builds.specs.Builds.{Builds, TouchesBuilt}
use Rattle.list_builds.specs.Order.{IsOrder}
use Rattle.list_builds.specs.Promise.{BuildPromise}
use Rattle.list_words.specs.Answer.{IsAnswer}
use Rattle.list_words.specs.declared.asked.Asked.{Asked}
use Rattle.list_words.specs.declared.asked.Asked.TheVariants.{Build, Check, Find, Help, Version}
use Rattle.list_tool.specs.BuildWords.{order_for, values_for}
use Rattle.list_tool.specs.Checking.{ChecksList}
use Rattle.list_tool.specs.Finding.{FindsInList}
use Rattle.list_tool.specs.declared.run.ListEnd.{ListEnd}
use Rattle.list_tool.specs.declared.run.ListEnd.TheVariants.{Words, Help as Helps, Version as SaysVersion, Built, Found, Checked}

-- the numbers of `build` are in their ranges
abbrev pub IsInRange : Asked → Type 0
IsInRange (Build build) = IsOrder build.digest_bytes (values_for build.values build.value_bytes) build.rows
IsInRange (Find find) = Unit {0}
IsInRange (Check check) = Unit {0}
IsInRange (Help text) = Unit {0}
IsInRange (Version text) = Unit {0}

-- what was asked for was done, and it came to this
abbrev pub EndsAs : Asked → ListEnd → World → World → Type 0
EndsAs (Build build) (Built result) old new =
    Builds (order_for build) result old new × BuildPromise (order_for build) result old new × TouchesBuilt (order_for build) old new
EndsAs (Find find) (Found result) old new = FindsInList find result old new
EndsAs (Check check) (Checked result) old new = ChecksList check result old new
EndsAs (Help text) (Helps shown) old new = (shown ≡ text) × (new ≡ old)
EndsAs (Version text) (SaysVersion shown) old new = (shown ≡ text) × (new ≡ old)
EndsAs asked end old new = ⊥

-- the words ask for something, which was done, and it came to this
pub record RunsAsked (words : List Text) (end : ListEnd) (old new : World) : Type 0 where
  pub asked : Asked
  pub answer : IsAnswer words (Ok asked)
  pub ends : EndsAs asked end old new

-- what the program does: nothing where the words give no command, and else what they ask for
abbrev pub RunsList : List Text → ListEnd → World → World → Type 0
RunsList words (Words fault) old new = IsAnswer words (Err fault) × (new ≡ old)
RunsList words end old new = RunsAsked words end old new
