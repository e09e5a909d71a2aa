use Rattle.std.proofs.Common.{rules, ℕ, List, Vec, Global, nat_le, map, ap, ◌∙◌}
use Rattle.std.proofs.lemmas.Fn.{filter_same}
use Rattle.column_lists.specs.Agreement.{agreements}
use Rattle.column_lists.proofs.Kept.{map-filter}
use Rattle.column_lists.proofs.agreement.keep_agreeing.Goals as goal

pub returns : goal.returns
returns c =
    let items = λ (r : Vec ℕ Global). r.items in
    let test = λ (phi : List ℕ). nat_le c.args.h (agreements phi c.args.points.now) in
    ap (map items) (filter_same _ (λ r. test (items r)) _ (λ x b f' k. search rules) _ _ c.retain.ensures.filtered)
    ∙ map-filter items test c.args.list.now.items
