-- What the table of commands says.
use Rattle.std.specs.Prelude.{◌≡◌, Bool, true, false, List, Some, None, fold, if◌then◌else◌}
use Rattle.std.specs.Borrow.{Bor}
use Rattle.clap.specs.Words.{App, Rule, Text, app_of, new_app, new_rule, with_rule, with_subcommand}
use Rattle.clap.specs.declared.builder.action.ArgAction.{ArgAction}
use Rattle.clap.specs.declared.builder.action.ArgAction.TheVariants.{Set, SetTrue, Append}
use Rattle.clap.specs.declared.builder.command.Command.{Command}
use Rattle.pir_words.specs.declared.command.Form.{Form}
use Rattle.pir_words.specs.declared.command.Kind.{Kind}
use Rattle.pir_words.specs.declared.command.Kind.TheVariants.{Optional, Flag, Operand, Operands}

-- whether the argument's name is written
abbrev pub is_long : Kind → Bool
is_long Operand = false
is_long Operands = false
is_long _ = true

-- whether it has to be given
abbrev pub is_required : Kind → Bool
is_required Optional = false
is_required Flag = false
is_required _ = true

-- what `clap` does with it
abbrev pub action_of : Kind → ArgAction
action_of Flag = SetTrue
action_of Operands = Append
action_of _ = Set

-- an argument of this name
abbrev pub rule_by : Text → Kind → Rule
rule_by name kind = record (new_rule name) {
  long = if is_long kind then Some name else None;
  required = is_required kind;
  action = Some (action_of kind);
}

-- a command with one more argument
abbrev pub with_argument : App → Bor Text × Kind → App
with_argument app argument = with_rule app (rule_by argument.0.now argument.1)

-- a command of this form
abbrev pub app_by : Form → App
app_by form = fold with_argument (new_app form.name.now) form.arguments.now

-- a command with one more command
abbrev pub with_command : App → Form → App
with_command app form = with_subcommand app (app_by form).top

-- a command that has commands of these forms, one more after the other
pub record AddsCommands (old : App) (forms : List Form) (command : Command) : Type 0 where
  pub app : app_of command ≡ fold with_command old forms
