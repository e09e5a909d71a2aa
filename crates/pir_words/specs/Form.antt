-- Which words have a form, and which command they ask for.
use Rattle.std.specs.Prelude.{◌≡◌, ◌==◌, Bool, List, length, Option, Some, None, Result, Ok, Err, codes, if◌then◌else◌}
use Rattle.std.specs.Str.{bytes_eq}
use Rattle.clap.specs.Words.{App, Row, Text, fault_of, subcommand_of, with_subcommand}
use Rattle.clap.specs.declared.error.kind.ErrorKind.{ErrorKind}
use Rattle.clap.specs.declared.error.kind.ErrorKind.TheVariants.{OutOfMemory}
use Rattle.key_search.specs.declared.key.KeyFault.{KeyFault}
use Rattle.key_search.specs.declared.key.KeyFault.TheVariants.{NotHex, TooLong, Memory as NoMemory}
use Rattle.pir_words.specs.Chain.{◌>>=◌, ◌>>◌}
use Rattle.pir_words.specs.Command.{bare}
use Rattle.pir_words.specs.ReplayForm.{replay_app, replay_of}
use Rattle.pir_words.specs.FetchForm.{FetchInRange, fetch_app, fetch_of}
use Rattle.pir_words.specs.ServeForm.{ServeInRange, serve_app, serve_of}
use Rattle.pir_words.specs.SelfrunForm.{SelfrunInRange, selfrun_app, selfrun_of}
use Rattle.pir_words.specs.DemoForm.{DemoInRange, demo_app, demo_of}
use Rattle.pir_words.specs.LookUpForm.{LookUpInRange, lookup_app, lookup_of}
use Rattle.pir_words.specs.SplitForm.{SplitInRange, split_app, split_of}
use Rattle.pir_words.specs.FrontForm.{FrontInRange, front_app, front_of}
use Rattle.pir_words.specs.declared.asked.Asked.{Asked}
use Rattle.pir_words.specs.declared.asked.WordsFault.{WordsFault}
use Rattle.pir_words.specs.declared.asked.WordsFault.TheVariants.{Usage, Memory}

-- what an error of `clap` comes to: want of memory, or else the words have no form
abbrev pub fault_by : ErrorKind → WordsFault
fault_by OutOfMemory = Memory
fault_by _ = Usage

-- what a text that isn't read as a key comes to
abbrev pub fault_of_key : KeyFault → WordsFault
fault_of_key NotHex = Usage
fault_of_key (TooLong max) = Usage
fault_of_key NoMemory = Memory

-- `pir` with its commands
unfoldable pub pir : App
pir =
    let replay = with_subcommand bare replay_app.top in
    let fetch = with_subcommand replay fetch_app.top in
    let serve = with_subcommand fetch serve_app.top in
    let selfrun = with_subcommand serve selfrun_app.top in
    let demo = with_subcommand selfrun demo_app.top in
    let lookup = with_subcommand demo lookup_app.top in
    let split = with_subcommand lookup split_app.top in
    with_subcommand split front_app.top

-- the command of this name, with what the words give to its arguments
unfoldable pub asked_by : Text → List Row → Option Asked
asked_by name m =
    if bytes_eq name (codes "replay") then replay_of m
    else (if bytes_eq name (codes "fetch") then fetch_of m
    else (if bytes_eq name (codes "serve") then serve_of m
    else (if bytes_eq name (codes "selfrun") then selfrun_of m
    else (if bytes_eq name (codes "demo") then demo_of m
    else (if bytes_eq name (codes "lookup") then lookup_of m
    else (if bytes_eq name (codes "split") then split_of m
    else (if bytes_eq name (codes "front") then front_of m else None)))))))

-- the command that a parse entered
unfoldable pub asked_in : Option (Text × List Row) → Option Asked
asked_in entered = do
  (name, m) ← entered
  asked_by name m

-- `clap` finds no fault in the words
unfoldable pub are_taken : List Text → Bool
are_taken words = length (fault_of pir words) == 0

-- the command that the words ask for, where they have a form
unfoldable pub asked_of : List Text → Option Asked
asked_of words = do
  are_taken words
  asked_in (subcommand_of pir words)

-- what words that ask for this value, as a command, or for none, are read as: exactly that, or want of memory
abbrev pub IsReadAs : {A : Type 0} → Option A → Result A WordsFault → Type 0
IsReadAs wanted (Ok asked) = wanted ≡ Some asked
IsReadAs wanted (Err Usage) = wanted ≡ None
IsReadAs wanted (Err Memory) = Unit {0}

-- the values of a command are in their ranges
pub record InRange (asked : Asked) : Type 0 where
  pub fetch : FetchInRange asked
  pub serve : ServeInRange asked
  pub selfrun : SelfrunInRange asked
  pub demo : DemoInRange asked
  pub lookup : LookUpInRange asked
  pub split : SplitInRange asked
  pub front : FrontInRange asked
