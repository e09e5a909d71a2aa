-- What words order.
use Rattle.std.proofs.Common.{◌≡◌, ◌∙◌, sym, ap}
use Rattle.std.specs.Prelude.{Option, Some, option_map, unwrap_or}
use Rattle.pir_words.specs.declared.asked.Asked.{Asked}
use Rattle.commands.specs.Orders.{order_of}
use Rattle.commands.specs.declared.orders.Order.{Order}

-- words that ask for a command order what it orders, and nothing else
pub one_order : (wanted : Option Asked) (asked : Asked) (order : Order) → wanted ≡ Some asked
    → option_map order_of wanted ≡ Some order → order_of asked ≡ order
one_order wanted asked order ask orders =
    ap (λ (o : Option Order). unwrap_or o (order_of asked)) (sym (ap (option_map order_of) ask) ∙ orders)
