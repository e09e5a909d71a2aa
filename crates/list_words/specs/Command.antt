-- The command line of `pir_list` as `clap` sees it.
use Rattle.std.specs.Prelude.{ℕ, Bool, true, false, Some, codes}
use Rattle.clap.specs.Words.{App, Rule, Text, new_app, new_rule, with_rule, with_subcommand}
use Rattle.clap.specs.declared.builder.action.ArgAction.TheVariants.{Set, SetTrue}

-- a command with `--NAME VALUE`, which has to be given or may be left out
abbrev pub with_option : App → Text → Bool → App
with_option app name required = with_rule app (record (new_rule name) {
  long = Some name;
  required = required;
  action = Some Set;
  value_names = 1;
})

-- a command with `--NAME`
abbrev pub with_flag : App → Text → App
with_flag app name = with_rule app (record (new_rule name) { long = Some name; action = Some SetTrue })

-- a command with a word that has to be given
abbrev pub with_operand : App → Text → App
with_operand app name = with_rule app (record (new_rule name) { required = true; action = Some Set; value_names = 1 })

-- `build KEYS --database FILE`
unfoldable pub build_app : App
build_app =
    let keys = with_operand (new_app (codes "build")) (codes "keys") in
    let database = with_option keys (codes "database") true in
    let catalog = with_option database (codes "catalog") false in
    let values = with_flag catalog (codes "values") in
    let value_bytes = with_option values (codes "value-bytes") false in
    let digest_bytes = with_option value_bytes (codes "digest-bytes") false in
    let rows = with_option digest_bytes (codes "rows") false in
    with_option rows (codes "coins") false

-- `find CATALOG`
unfoldable pub find_app : App
find_app =
    let catalog = with_operand (new_app (codes "find")) (codes "catalog") in
    let keys = with_option catalog (codes "keys") false in
    let servers = with_option keys (codes "servers") false in
    let degree = with_option servers (codes "degree") false in
    let agree = with_option degree (codes "agree") false in
    let coins = with_option agree (codes "coins") false in
    with_flag coins (codes "hex")

-- `check DATABASE CATALOG`
unfoldable pub check_app : App
check_app = with_operand (with_operand (new_app (codes "check")) (codes "database")) (codes "catalog")

-- `pir_list` with no command, whose words begin after the program's name; it says its version
abbrev pub bare : App
bare = let a = new_app (codes "pir_list") in record a { top = record a.top { no_binary_name = true; has_version = true } }

-- `pir_list` with its commands
unfoldable pub pir_list : App
pir_list =
    let build = with_subcommand bare build_app.top in
    let find = with_subcommand build find_app.top in
    with_subcommand find check_app.top
