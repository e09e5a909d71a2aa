-- Why a query is refused, in the frame that says so.
use Rattle.std.specs.Prelude.{ℕ}
use Rattle.serve_core.specs.declared.refusal.Refusal.{Refusal}
use Rattle.serve_core.specs.declared.refusal.Refusal.TheVariants.{Malformed, OtherScheme, OtherShape}

-- the status of the frame
abbrev pub refusal_status : Refusal → ℕ
refusal_status Malformed = 1
refusal_status OtherShape = 2
refusal_status OtherScheme = 3
