use Rattle.std.proofs.Common.{Some, ap, sym, ◌∙◌}
use Rattle.toml.specs.View.{view}
use Rattle.list_catalog.specs.Documents.{decoded, digits_among, digits_in}
use Rattle.list_catalog.proofs.Lookups.{is_string, no_digits}
use Rattle.list_catalog.proofs.read.digits_in.Goals as goal

pub returns-in_default-as_str : goal.returns-in_default-as_str
unfolding digits_in
returns-in_default-as_str g c =
    sym (no_digits c.args.member g.row.N (view c.in-Some.value.now) c.in_default-as_str.ensures)
    ∙ ap (digits_among c.args.member g.row.N) c.in-Some.ensures

pub returns-in-Ok : goal.returns-in-Ok
unfolding digits_in
returns-in-Ok g c =
    let m = c.args.member in
    ap (decoded m g.row.N) c.in-Ok.ensures
    ∙ ap (λ d. digits_among m g.row.N (Some d)) (sym (is_string (view c.in-Some.value.now) c.in-Some-as_str.text.now c.in-Some-as_str.ensures))
    ∙ ap (digits_among m g.row.N) c.in-Some.ensures

pub returns-in-Err : goal.returns-in-Err
unfolding digits_in
returns-in-Err g c =
    let m = c.args.member in
    ap (decoded m g.row.N) c.in-Err.ensures
    ∙ ap (λ d. digits_among m g.row.N (Some d)) (sym (is_string (view c.in-Some.value.now) c.in-Some-as_str.text.now c.in-Some-as_str.ensures))
    ∙ ap (digits_among m g.row.N) c.in-Some.ensures
