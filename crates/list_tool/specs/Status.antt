-- The exit code of a run.
use Rattle.std.specs.Prelude.{ℕ, Bool, true, false, List, [], ◌∷◌, Option, Some, None, if◌then◌else◌, Result, Ok, Err}
use Rattle.std.specs.List.{list_any}
use Rattle.block_decoder.specs.declared.verdict.Verdict.{Verdict}
use Rattle.block_decoder.specs.declared.verdict.Verdict.TheVariants.{Listed, TooFew, TooWeak, TooCostly}
use Rattle.query_rounds.specs.declared.plan.FetchFault.{FetchFault}
use Rattle.query_rounds.specs.declared.plan.FetchFault.TheVariants.{CoinsFault, CoinsEnded, Memory as FetchMemory}
use Rattle.list_builds.specs.declared.fault.Built.{Built}
use Rattle.list_builds.specs.declared.fault.BuildFault.{BuildFault}
use Rattle.list_builds.specs.declared.fault.BuildFault.TheVariants.{CoinsFault as SaltFault, KeysFault, DatabaseFault, CatalogFault, Memory as BuildMemory}
use Rattle.list_checks.specs.declared.tally.Tally.{Tally}
use Rattle.list_checks.specs.declared.fault.CheckFault.TheVariants.{ReadFault as FileFault, Memory as FileMemory}
use Rattle.list_finds.specs.Found.{Come}
use Rattle.list_finds.specs.declared.answers.Answer.{Answer}
use Rattle.list_finds.specs.declared.answers.Answer.TheVariants.{Unknown, Broken, Absent, Present}
use Rattle.list_finds.specs.declared.finds.Unlisted.{Unlisted}
use Rattle.list_keys.specs.declared.fault.LinesFault.{LinesFault}
use Rattle.list_keys.specs.declared.fault.LinesFault.TheVariants.{ReadFault as KeysUnread, NoLine, Refused as LineRefused, Memory as LinesMemory}
use Rattle.list_words.specs.declared.fault.WordsFault.TheVariants.{Memory as WordsMemory}
use Rattle.list_tool.specs.Looked.{Looked}
use Rattle.list_tool.specs.declared.check_command.CheckListFault.{CheckListFault}
use Rattle.list_tool.specs.declared.check_command.CheckListFault.TheVariants.{Catalog as NoCatalog, Database, WriteFault as TextFault, Memory as TextMemory}
use Rattle.list_tool.specs.declared.fault.FindFault.{FindFault}
use Rattle.list_tool.specs.declared.fault.FindFault.TheVariants.{Catalog, Servers, Keys, Fetch, WriteFault, Memory as FindMemory}
use Rattle.list_tool.specs.declared.fault.LoadFault.{LoadFault}
use Rattle.list_tool.specs.declared.fault.LoadFault.TheVariants.{ReadFault, Refused, Memory}
use Rattle.list_tool.specs.declared.run.ListEnd.{ListEnd}
use Rattle.list_tool.specs.declared.run.ListEnd.TheVariants.{Words, Help, Version, Built as HasBuilt, Found, Checked}

-- a verdict that doesn't list exactly one block
abbrev pub verdict_code : Verdict → ℕ
verdict_code (Listed []) = 3
verdict_code (Listed (block ∷ blocks)) = 4
verdict_code (TooFew k h) = 5
verdict_code (TooWeak k t h) = 6
verdict_code (TooCostly cost) = 7

-- the list doesn't have the key
abbrev pub is_absent : Answer (List ℕ) → Bool
is_absent Unknown = false
is_absent Broken = false
is_absent Absent = true
is_absent (Present value) = false

-- what came for the key is no row of the list
abbrev pub is_broken : Answer (List ℕ) → Bool
is_broken Unknown = false
is_broken Broken = true
is_broken Absent = false
is_broken (Present value) = false

-- answers of queries that each had a verdict of one block
unfoldable pub answers_code : List (Answer (List ℕ)) → ℕ
answers_code answers = if list_any is_broken answers then 10 else if list_any is_absent answers then 14 else 0

-- a search, by the first verdict that didn't list exactly one block, if there was one
abbrev pub come_code : Option Unlisted → List (Answer (List ℕ)) → ℕ
come_code (Some unlisted) answers = verdict_code unlisted.verdict
come_code None answers = answers_code answers

abbrev pub finds_code : Come → ℕ
finds_code come = come_code come.unlisted come.answers

-- a catalog that can't be read, or is none
abbrev pub load_code : LoadFault → ℕ
load_code ReadFault = 8
load_code (Refused fault) = 10
load_code Memory = 12

-- keys that can't be read, or are none
abbrev pub lines_code : LinesFault → ℕ
lines_code KeysUnread = 8
lines_code NoLine = 10
lines_code (LineRefused number fault) = 10
lines_code LinesMemory = 12

-- rows that aren't fetched
abbrev pub fetch_code : FetchFault → ℕ
fetch_code CoinsFault = 8
fetch_code (CoinsEnded taken) = 10
fetch_code FetchMemory = 12

-- what `find` answers
abbrev pub find_code : Result Looked FindFault → ℕ
find_code (Ok looked) = finds_code looked.come
find_code (Err (Catalog fault)) = load_code fault
find_code (Err (Servers fault)) = 10
find_code (Err (Keys fault)) = lines_code fault
find_code (Err (Fetch fault)) = fetch_code fault
find_code (Err WriteFault) = 9
find_code (Err FindMemory) = 12

-- what `build` answers
abbrev pub build_code : Result Built BuildFault → ℕ
build_code (Ok built) = 0
build_code (Err SaltFault) = 8
build_code (Err KeysFault) = 8
build_code (Err DatabaseFault) = 9
build_code (Err CatalogFault) = 9
build_code (Err BuildMemory) = 12
build_code (Err fault) = 10

-- what `check` answers
abbrev pub check_code : Result Tally CheckListFault → ℕ
check_code (Ok tally) = 0
check_code (Err (NoCatalog fault)) = load_code fault
check_code (Err (Database FileFault)) = 8
check_code (Err (Database FileMemory)) = 12
check_code (Err (Database fault)) = 10
check_code (Err TextFault) = 9
check_code (Err TextMemory) = 12

-- what a run came to
abbrev pub code_of : ListEnd → ℕ
code_of (Words WordsMemory) = 12
code_of (Words fault) = 2
code_of (Help text) = 0
code_of (Version text) = 0
code_of (HasBuilt result) = build_code result
code_of (Found result) = find_code result
code_of (Checked result) = check_code result
