-- The values of each command, and what may be wrong with them.
use Rattle.std.specs.Prelude.{◌≡◌, ℕ, Bool, false, ◌&&◌, ◌==◌, not, nat_le, if◌then◌else◌, List, [], length, Option, None, Some, is_some, option_and_then, option_map, unwrap_or, codes}
use Rattle.std.specs.Borrow.{Bor}
use Rattle.std.specs.List.{list_any, slice_split}
use Rattle.std.specs.Option.{option_map_or, option_or}
use Rattle.std.specs.Str.{bytes_eq}
use Rattle.clap.specs.Words.{Row, Text, first_of}
use Rattle.pir_words.specs.Numbers.{limited, number}
use Rattle.list_words.specs.Amounts.{least_of, most_of, name_of}
use Rattle.list_words.specs.declared.TheConstants.{USUAL_DIGEST}
use Rattle.list_words.specs.declared.amount.Amount.{Amount}
use Rattle.list_words.specs.declared.amount.Amount.TheVariants.{DigestBytes, ValueBytes, Rows, Degree, Agree}
use Rattle.list_words.specs.declared.asked.Build.{Build}
use Rattle.list_words.specs.declared.asked.Check.{Check}
use Rattle.list_words.specs.declared.asked.Find.{Find}
use Rattle.list_words.specs.declared.fault.ValueFault.{ValueFault}
use Rattle.list_words.specs.declared.fault.ValueFault.TheVariants.{NoNumber, OutOfRange, WithoutValues, EmptyAddress, OneFile}
use Rattle.list_words.specs.declared.fault.BuildFile.TheVariants.{Keys, Database, Catalog}

-- what is wrong with a number, if anything
abbrev pub range_fault : Amount → ℕ → Option ValueFault
range_fault amount n = if nat_le (least_of amount) n && nat_le n (most_of amount) then None else Some (OutOfRange amount n)

-- what is wrong with the text of a number
unfoldable pub text_fault : Amount → Text → Option ValueFault
text_fault amount text = option_map_or (range_fault amount) (number text) (Some (NoNumber amount))

-- what is wrong with the number of an option, where it is given
unfoldable pub amount_fault : Amount → List Row → Option ValueFault
amount_fault amount m = option_and_then (text_fault amount) (first_of (name_of amount) m)

-- the number of an option, where it is given
unfoldable pub amount_in : Amount → List Row → Option ℕ
amount_in amount m = limited (name_of amount) (least_of amount) (most_of amount) m

-- whether an option without a value is given: the parse gives it the word `true` where it is, and else `false`
unfoldable pub is_set : Text → List Row → Bool
is_set id m = bytes_eq (unwrap_or (first_of id m) (codes "false")) (codes "true")

-- the longest value is given for lines that have no values
unfoldable pub values_fault : List Row → Option ValueFault
values_fault m = if is_some (first_of (codes "value-bytes") m) && not (is_set (codes "values") m) then Some WithoutValues else None

-- whether a byte is a comma
abbrev pub is_comma : ℕ → Bool
is_comma b = b == 44

-- the addresses that a text has, parted by commas
abbrev pub addresses_of : Text → List Text
addresses_of text = slice_split is_comma text

-- whether one of them is empty
abbrev pub has_empty : Text → Bool
has_empty text = list_any (λ address. length address == 0) (addresses_of text)

-- one of the addresses of the servers is empty
unfoldable pub servers_fault : List Row → Option ValueFault
servers_fault m = option_and_then (λ text. if has_empty text then Some EmptyAddress else None) (first_of (codes "servers") m)

-- whether the argument is given, and has this text
abbrev pub has_text : Text → Option Text → Bool
has_text text None = false
has_text text (Some own) = bytes_eq own text

-- whether both arguments are given, with one text
unfoldable pub have_one_text : Text → Text → List Row → Bool
have_one_text a b m = option_map_or (λ text. has_text text (first_of b m)) (first_of a m) false

-- whether the keys are standard input
unfoldable pub is_input : List Row → Bool
is_input m = has_text (codes "-") (first_of (codes "keys") m)

-- a file that is written has the name of the keys' file
unfoldable pub over_keys : Text → ValueFault → List Row → Option ValueFault
over_keys id fault m = if have_one_text id (codes "keys") m && not (is_input m) then Some fault else None

-- the catalog has the name of the database
unfoldable pub over_database : List Row → Option ValueFault
over_database m = if have_one_text (codes "catalog") (codes "database") m then Some (OneFile Catalog Database) else None

-- a file would be written over another
unfoldable pub files_fault : List Row → Option ValueFault
files_fault m = option_or (over_keys (codes "database") (OneFile Database Keys) m)
    (option_or (over_keys (codes "catalog") (OneFile Catalog Keys) m) (over_database m))

-- the first fault of the numbers of `build`
unfoldable pub build_amount_fault : List Row → Option ValueFault
build_amount_fault m = option_or (amount_fault DigestBytes m) (option_or (amount_fault Rows m) (option_or (values_fault m) (amount_fault ValueBytes m)))

-- the first fault of the values of `build`
unfoldable pub build_fault : List Row → Option ValueFault
build_fault m = option_or (build_amount_fault m) (files_fault m)

-- and of those of `find`
unfoldable pub find_fault : List Row → Option ValueFault
find_fault m = option_or (servers_fault m) (option_or (amount_fault Degree m) (amount_fault Agree m))

-- the text of an argument, or this one where it isn't given
unfoldable pub text_or : Text → Text → List Row → Text
text_or id usual m = unwrap_or (first_of id m) usual

-- the text of an argument, where it is given
abbrev pub IsGiven : Text → List Row → Option (Bor Text) → Type 0
IsGiven id m text = option_map (λ t. t.now) text ≡ first_of id m

-- `build` with these values
pub record IsBuild (m : List Row) (build : Build) : Type 0 where
  pub keys : build.keys.now ≡ text_or (codes "keys") [] m
  pub database : build.database.now ≡ text_or (codes "database") [] m
  pub catalog : IsGiven (codes "catalog") m build.catalog
  pub values : build.values ≡ is_set (codes "values") m
  pub value_bytes : build.value_bytes ≡ amount_in ValueBytes m
  pub digest_bytes : build.digest_bytes ≡ unwrap_or (amount_in DigestBytes m) USUAL_DIGEST
  pub rows : build.rows ≡ amount_in Rows m
  pub coins : build.coins.now ≡ text_or (codes "coins") (codes "/dev/urandom") m

-- `find` with these values
pub record IsFind (m : List Row) (find : Find) : Type 0 where
  pub catalog : find.catalog.now ≡ text_or (codes "catalog") [] m
  pub keys : find.keys.now ≡ text_or (codes "keys") (codes "-") m
  pub servers : IsGiven (codes "servers") m find.servers
  pub degree : find.degree ≡ amount_in Degree m
  pub agree : find.agree ≡ amount_in Agree m
  pub coins : find.coins.now ≡ text_or (codes "coins") (codes "/dev/urandom") m
  pub hex : find.hex ≡ is_set (codes "hex") m

-- `check` with these values
pub record IsCheck (m : List Row) (check : Check) : Type 0 where
  pub database : check.database.now ≡ text_or (codes "database") [] m
  pub catalog : check.catalog.now ≡ text_or (codes "catalog") [] m
