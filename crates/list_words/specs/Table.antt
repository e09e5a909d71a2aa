-- What the table of commands says.
use Rattle.std.specs.Prelude.{◌≡◌, ℕ, Bool, true, false, List, Option, Some, None, fold}
use Rattle.clap.specs.Words.{App, Rule, Text, app_of, new_app, new_rule, with_rule, with_subcommand}
use Rattle.clap.specs.declared.builder.action.ArgAction.{ArgAction}
use Rattle.clap.specs.declared.builder.action.ArgAction.TheVariants.{Set, SetTrue}
use Rattle.clap.specs.declared.builder.command.Command.{Command}
use Rattle.list_words.specs.declared.command.Argument.{Argument}
use Rattle.list_words.specs.declared.command.Form.{Form}
use Rattle.list_words.specs.declared.command.Kind.{Kind}
use Rattle.list_words.specs.declared.command.Kind.TheVariants.{Required, Optional, Flag, Operand}

-- an argument of this name
abbrev pub rule_by : Text → Kind → Rule
rule_by name Required = record (new_rule name) { long = Some name; required = true; action = Some Set; value_names = 1 }
rule_by name Optional = record (new_rule name) { long = Some name; required = false; action = Some Set; value_names = 1 }
rule_by name Flag = record (new_rule name) { long = Some name; required = false; action = Some SetTrue }
rule_by name Operand = record (new_rule name) { required = true; action = Some Set; value_names = 1 }

-- a command with one more argument
abbrev pub with_argument : App → Argument → App
with_argument app argument = with_rule app (rule_by argument.name.now argument.kind)

-- a command of this form
abbrev pub app_by : Form → App
app_by form = fold with_argument (new_app form.name.now) form.arguments.now

-- a command with one more command
abbrev pub with_command : App → Form → App
with_command app form = with_subcommand app (app_by form).top

-- a command that has commands of these forms, one more after the other
pub record AddsCommands (old : App) (forms : List Form) (command : Command) : Type 0 where
  pub app : app_of command ≡ fold with_command old forms
