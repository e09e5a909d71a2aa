-- How `clap` sees an argument, and `pir` before it has a command.
use Rattle.std.specs.Prelude.{Bool, true, Some, codes}
use Rattle.clap.specs.Words.{App, Rule, Text, new_app, new_rule, with_rule}
use Rattle.clap.specs.declared.builder.action.ArgAction.TheVariants.{Set, SetTrue, Append}

-- `--NAME VALUE`
abbrev pub option_rule : Text → Bool → Rule
option_rule name required = record (new_rule name) {
  long = Some name;
  required = required;
  action = Some Set;
}

-- a command with one more option
abbrev pub with_option : App → Text → Bool → App
with_option app name required = with_rule app (option_rule name required)

-- `--NAME`
abbrev pub flag_rule : Text → Rule
flag_rule name = record (new_rule name) { long = Some name; action = Some SetTrue }

-- a command with one more option without a value
abbrev pub with_flag : App → Text → App
with_flag app name = with_rule app (flag_rule name)

-- one word
abbrev pub operand_rule : Text → Rule
operand_rule name = record (new_rule name) { required = true; action = Some Set }

-- one word or more
abbrev pub operands_rule : Text → Rule
operands_rule name = record (new_rule name) { required = true; action = Some Append }

-- `pir` with no command, whose words begin after the program's name
abbrev pub bare : App
bare = let a = new_app (codes "pir") in record a { top = record a.top { no_binary_name = true } }
