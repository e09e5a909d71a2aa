use Rattle.std.proofs.Common.{◌∙◌, ℕ, ◌<◌, List, length, sym, subst}
use Rattle.list_tool.proofs.CheckLines.{check_text_has_bytes}
use Rattle.list_tool.proofs.check_command.write_check.Goals as goal

pub write_all-requires : goal.write_all-requires
write_all-requires g c =
    subst (λ (bytes : List ℕ). 0 < length bytes) (sym (c.as_bytes.ensures.value ∙ c.in-Ok.ensures))
    (check_text_has_bytes c.args.catalog.now c.args.fullest c.args.database.now)
