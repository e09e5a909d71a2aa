use Rattle.std.proofs.Common.{◌∙◌, ◌+◌, ◌++◌, ap, ap₂, arith, append_assoc}
use Rattle.pir_show.specs.Text.{number_lines, server_line, server_lines, session_text}
use Rattle.pir_show.proofs.Lines.{none_yet, one_more}
use Rattle.pir_show.proofs.text.session_text.Goals as goal

pub loop-i-init : goal.loop-i-init
loop-i-init c =
    c.in_ok-text.ensures ∙ ap number_lines c.params.ensures.value ∙ none_yet c.args.session.now (number_lines c.args.session.now.params)

pub returns : goal.returns
unfolding session_text
returns c =
    c.loop-i.invariant ∙ ap (λ n. number_lines c.args.session.now.params ++ server_lines c.args.session.now n) (omega (arith, c.record_count-i-end.ensures.count))

pub loop-i-preserved : goal.loop-i-preserved
loop-i-preserved c =
    let t = c.args.session.now in
    let line = c.in_ok-line.ensures ∙ ap (server_line (c.loop-i.i + 1)) c.told_of.ensures in
    c.in_ok-push_str.ensures.bytes ∙ ap₂ (λ xs ys. xs ++ ys) c.loop-i.invariant (c.as_str.ensures.value ∙ line)
    ∙ append_assoc (number_lines t.params) (server_lines t c.loop-i.i) _ ∙ ap (λ xs. number_lines t.params ++ xs) (one_more t c.loop-i.i)
