use Rattle.std.proofs.Common.{◌∙◌, ℕ, List, sym, ap, ap₂, subst}
use Rattle.std.specs.Prelude.{Option}
use Rattle.list_catalog.specs.Facts.{Facts}
use Rattle.list_catalog.specs.Serving.{Serving, with_options}
use Rattle.list_tool.specs.Finding.{AnswersTo}
use Rattle.list_tool.specs.declared.table.ListTable.{ListTable}
use Rattle.list_tool.proofs.LookedUp.{looked_up}
use Rattle.list_tool.proofs.find.find_in_list.Goals as goal

pub returns-in-Ok-with_options : goal.returns-in-Ok-with_options
returns-in-Ok-with_options g c =
    let w = g.P.Ports.world c.args.ports.now in
    let v = g.P.Ports.world c.load_catalog.new.ports in
    let u = g.P.Ports.world c.answer_keys.new.ports in
    let order = c.args.order.now in
    let own = ap (λ (f : Facts). f.servers) c.catalog.view_is in
    let named = sym (c.in-Ok-with_options.ensures
    ∙ ap₂ (λ (s : Option Serving) (a : Option (List (List ℕ))). with_options s a order.degree order.agree) own c.in_ok-addresses.ensures) in
    looked_up c.args.order.now c.answer_keys.result w u record {
      facts = c.in-Ok.catalog;
      servers = c.in-Ok-with_options.servers;
      read = v;
      has_catalog = record { loads = c.in-Ok.ensures.loads; others = c.in-Ok.ensures.others };
      named = named;
      answers = subst (λ (t : ListTable). AnswersTo c.args.order.now t c.in-Ok-with_options.servers c.answer_keys.result v u) c.table_of-table.ensures.is
          c.answer_keys.ensures;
    }
