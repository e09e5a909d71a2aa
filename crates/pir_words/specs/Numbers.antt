-- The numbers of the command line, and its flags.
use Rattle.std.specs.Prelude.{ℕ, ◌^◌, ◌&&◌, Bool, List, length, Option, Some, codes, nat_lt, nat_le, unwrap_or}
use Rattle.std.specs.Str.{bytes_eq}
use Rattle.std.specs.List.{list_all}
use Rattle.std.specs.Str.Parse.{digits_value}
use Rattle.clap.specs.Words.{Row, Text, first_of, found_of, rows_of}
use Rattle.clap.specs.declared.parser.matches.ArgMatches.{ArgMatches}
use Rattle.pir_words.specs.Chain.{◌>>=◌, ◌>>◌}

-- what the words give to each argument
abbrev pub given : ArgMatches → List Row
given matches = rows_of (found_of matches)

-- a decimal digit, from `0` to `9`
abbrev pub is_digit : ℕ → Bool
is_digit c = nat_le 48 c && nat_le c 57

-- one or more decimal digits, of a value below 2^64
unfoldable pub number : Text → Option ℕ
number text = do
  nat_lt 0 (length text)
  list_all is_digit text
  nat_lt (digits_value 10 text) (2 ^ 64)
  Some (digits_value 10 text)

-- the number of an option
unfoldable pub number_in : Text → List Row → Option ℕ
number_in id rows = do
  text ← first_of id rows
  number text

-- the number of an option, from least to most
unfoldable pub limited : Text → ℕ → ℕ → List Row → Option ℕ
limited id least most rows = do
  n ← number_in id rows
  nat_le least n && nat_le n most
  Some n

-- whether an option without a value is given: the parse gives it the word `true` where it is, and else `false`
unfoldable pub flag_in : Text → List Row → Bool
flag_in id rows = bytes_eq (unwrap_or (first_of id rows) (codes "false")) (codes "true")
