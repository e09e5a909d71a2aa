use Rattle.std.proofs.Common.{◌≡◌, Some, SFits, ap, of_z, rules, sym, to_z, to_z-of_z, w64, ◌∙◌}
use Rattle.toml.specs.View.{view}
use Rattle.list_catalog.specs.Documents.{number_among, number_in, number_or}
use Rattle.list_catalog.proofs.Lookups.{is_integer, no_number}
use Rattle.list_catalog.proofs.read.number_in.Goals as goal

pub returns-in_default-as_integer-clause-value : goal.returns-in_default-as_integer-clause-value
unfolding number_in
returns-in_default-as_integer-clause-value c =
    sym (no_number c.args.member c.args.least c.args.most (view c.in-Some.value.now) c.in_default-as_integer.ensures)
    ∙ ap (number_among c.args.member c.args.least c.args.most) c.in-Some.ensures

pub returns-in-Some-ranged-clause-value : goal.returns-in-Some-ranged-clause-value
unfolding number_in
returns-in-Some-ranged-clause-value c =
    let m = c.args.member in
    let z = c.in-Some-as_integer.number in
    let fits : SFits w64 z = search rules in
    let same : to_z w64 (of_z w64 z) ≡ z = to_z-of_z fits in
    ap (number_or m z c.args.least c.args.most) (rw same at c.in-Some-ranged.ensures.value)
    ∙ ap (λ d. number_among m c.args.least c.args.most (Some d)) (sym (is_integer (view c.in-Some.value.now) z c.in-Some-as_integer.ensures))
    ∙ ap (number_among m c.args.least c.args.most) c.in-Some.ensures

pub returns-in-None-clause-value : goal.returns-in-None-clause-value
unfolding number_in
returns-in-None-clause-value c =
    let m = c.args.member in
    let z = c.in-Some-as_integer.number in
    let fits : SFits w64 z = search rules in
    let same : to_z w64 (of_z w64 z) ≡ z = to_z-of_z fits in
    rw same (ap (number_or m z c.args.least c.args.most) (rw same at c.in-None.ensures.value)
    ∙ ap (λ d. number_among m c.args.least c.args.most (Some d)) (sym (is_integer (view c.in-Some.value.now) z c.in-Some-as_integer.ensures))
    ∙ ap (number_among m c.args.least c.args.most) c.in-Some.ensures)
