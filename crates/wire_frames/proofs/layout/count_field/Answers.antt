use Rattle.std.proofs.Common.{◌∙◌, sym, subst, ap₂, arith}
use Rattle.quantity_limits.specs.declared.TheConstants.{MOST_BLOCKS}
use Rattle.wire_frames.specs.declared.field.Number.{Number}
use Rattle.wire_frames.specs.Field.{IsField}
use Rattle.wire_frames.proofs.Counts.{byte_most, count_is_field}
use Rattle.wire_frames.proofs.layout.count_field.Goals as goal

pub returns-clause-field : goal.returns-clause-field
returns-clause-field c =
    let same = ap₂ (λ least most. record { width = 1; least = least; most = most }) (c.from.ensures ∙ c.count_byte.ensures) (c.from-2.ensures ∙ c.count_byte-2.ensures) in
    subst (λ (f : Number). IsField f) (sym same) (count_is_field c.args.version)

pub returns-clause-few : goal.returns-clause-few
returns-clause-few c = omega (arith, byte_most c.args.version MOST_BLOCKS, c.from-2.ensures, c.count_byte-2.ensures)
