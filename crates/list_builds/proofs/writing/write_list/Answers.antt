use Rattle.std.proofs.Common.{◌∙◌, ◌<◌, ℕ, List, length, sym, subst}
use Rattle.list_builds.specs.CatalogOf.{facts_in}
use Rattle.list_builds.proofs.Written.{text_has_bytes}
use Rattle.list_builds.proofs.writing.write_list.Goals as goal

pub write_text-requires : goal.write_text-requires
write_text-requires g c =
    subst (λ (bytes : List ℕ). 0 < length bytes) (sym (c.as_bytes.ensures.value ∙ c.in_ok-text.ensures)) (text_has_bytes (facts_in c.args.laid.now))
