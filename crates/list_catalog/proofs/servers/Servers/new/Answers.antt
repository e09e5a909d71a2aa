use Rattle.std.proofs.Common.{◌≡◌, length, map, string_bytes, arith, sym, ◌∙◌, None}
use Rattle.std.proofs.lemmas.List.{length-map}
use Rattle.list_catalog.proofs.Servings.{all_named}
use Rattle.list_catalog.proofs.servers.Servers.new.Goals as goal

pub invariant_of-result : goal.invariant_of-result
invariant_of-result c =
    let items = c.args.addresses.items in
    let long = length-map items string_bytes in
    record {
      some = omega (arith, long);
      few = omega (arith, long);
      named = all_named (map string_bytes items) 0 (rw c.deref.ensures.value at (sym c.in_default.ensures.first));
      hidden = omega (arith);
      strong = omega (arith);
      within = omega (arith, long);
    }
