use Rattle.std.proofs.Common.{◌<◌, ℕ, subst}
use Rattle.std.proofs.lemmas.List.{get_or_default}
use Rattle.column_runs.proofs.rows.are_bytes.Goals as goal

pub returns-clause-bytes : goal.returns-clause-bytes
returns-clause-bytes c = λ k d l. subst (λ (b : ℕ). b < 256) (get_or_default c.args.bytes.now k 0 d l) (c.type_inv.bytes k).fits
