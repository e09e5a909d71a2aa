use Rattle.std.proofs.Common.{◌≡◌, ◌∙◌, Bool, None, Some, ap}
use Rattle.std.specs.Prelude.{if◌then◌else◌}
use Rattle.clap.specs.Words.{Rule, new_rule, rule_of}
use Rattle.clap.specs.declared.builder.action.ArgAction.{ArgAction}
use Rattle.clap.specs.declared.builder.arg.Arg.{Arg}
use Rattle.pir_words.proofs.command.argument.Goals as goal

-- the rule of an argument that is required, or not, and then has an action
rule_made : (a b d : Arg) (r : Rule) (required : Bool) (action : ArgAction) → b ≡ record a { required = required } → d ≡ record b { action = Some action } → rule_of a ≡ r
    → rule_of d ≡ record r { required = required; action = Some action }
rule_made a b d r required action e f g =
    ap rule_of f ∙ ap (λ (q : Rule). record q { action = Some action }) (ap rule_of e ∙ ap (λ (q : Rule). record q { required = required }) g)

pub returns-then-is_long-clause-rule : goal.returns-then-is_long-clause-rule
returns-then-is_long-clause-rule c =
    let name = c.args.name.now in
    ap rule_of c.long.ensures ∙ (ap (λ (r : Rule). record r { long = Some name })
    (rule_made c.new.result c.required.result c.action-argument.result (new_rule name) c.is_required.result c.action.result c.required.ensures c.action-argument.ensures c.new.ensures.rule)
    ∙ (λ i. record (new_rule name) { long = if c.if-is_long.ensures i then Some name else None; required = c.is_required.ensures i; action = Some (c.action.ensures i) }))

pub returns-then-is_long-clause-local : goal.returns-then-is_long-clause-local
returns-then-is_long-clause-local c = ap (λ (a : Arg). a.global) c.long.ensures ∙ (ap (λ (a : Arg). a.global) c.action-argument.ensures
    ∙ (ap (λ (a : Arg). a.global) c.required.ensures ∙ c.new.ensures.optional.1))

pub returns-else-is_long-clause-rule : goal.returns-else-is_long-clause-rule
returns-else-is_long-clause-rule c =
    let name = c.args.name.now in
    rule_made c.new.result c.required.result c.action-argument.result (new_rule name) c.is_required.result c.action.result c.required.ensures c.action-argument.ensures c.new.ensures.rule
    ∙ (λ i. record (new_rule name) { long = if c.if-is_long.ensures i then Some name else None; required = c.is_required.ensures i; action = Some (c.action.ensures i) })

pub returns-else-is_long-clause-local : goal.returns-else-is_long-clause-local
returns-else-is_long-clause-local c = ap (λ (a : Arg). a.global) c.action-argument.ensures ∙ (ap (λ (a : Arg). a.global) c.required.ensures ∙ c.new.ensures.optional.1)
